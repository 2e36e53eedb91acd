-- Numbers in a record: unsigned, high byte first.
-- Assumes nothing.
use Rattle.std.specs.Prelude.{ℕ, ◌+◌, ◌*◌, List, slice_index}

abbrev pub two_at : List ℕ → ℕ → ℕ
two_at l at = slice_index l at * 0x100 + slice_index l (at + 1)

abbrev pub four_at : List ℕ → ℕ → ℕ
four_at l at = two_at l at * 0x10000 + two_at l (at + 2)

abbrev pub eight_at : List ℕ → ℕ → ℕ
eight_at l at = four_at l at * 0x100000000 + four_at l (at + 4)
