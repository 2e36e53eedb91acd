-- For contracts inside: bytes of a buffer moved to its front.
-- Assumes nothing.
use Rattle.std.specs.Prelude.{◌≡◌, List, ◌++◌, ℕ, take, drop}

-- n bytes from `from` on were moved to the front, and what stands behind them is as it was
pub record Moved (before : List ℕ) (from n : ℕ) (after : List ℕ) : Type 0 where
  pub bytes : after ≡ take n (drop from before) ++ drop n before
