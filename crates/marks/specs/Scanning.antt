-- For contracts inside: what a search for the marker answers, and the bits around a piece's start.
-- Assumes nothing.
use Rattle.std.specs.Prelude.{◌≡◌, true, false, List, ℕ, ◌+◌, ◌-◌, ◌≤◌, ◌<◌, get_or, drop}
use Rattle.base.specs.Lists.{tabulate}
use Rattle.marks.specs.Marked.{window_bits, is_marker}

-- the indices that are looked at together
abbrev pub block_size : ℕ
block_size = 64

-- no marker stands at an index from `from` on and below k
abbrev pub Clear : List ℕ → ℕ → ℕ → Type 0
Clear bits from k = (i : ℕ) → from ≤ i → i < k → is_marker (drop i bits) ≡ false

-- k is the lowest index of the marker from `from` on and below `end`, or `end`
pub record Sought (bits : List ℕ) (from end k : ℕ) : Type 0 where
  pub begun : from ≤ k
  pub inside : k ≤ end
  pub before : Clear bits from k
  pub there : k < end → is_marker (drop k bits) ≡ true

-- the elements of all windows that start among the first 242
abbrev pub edge_bits : ℕ
edge_bits = window_bits + window_bits - 1

unfoldable pub edge_of : List ℕ → List ℕ
edge_of joined = tabulate edge_bits (λ i. get_or joined i 0)
