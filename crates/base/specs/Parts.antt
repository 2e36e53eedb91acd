-- Numbers made of parts of given widths in bits, "most significant bit first": the first part is the most significant.
-- Assumes nothing.
use Rattle.std.specs.Prelude.{List, [], ◌∷◌, ℕ, ◌+◌, ◌*◌, ◌/◌, ◌%◌, ◌^◌, ◌<◌}

-- the bits of parts of these widths
abbrev pub bits_in : List ℕ → ℕ
bits_in [] = 0
bits_in (w ∷ ws) = w + bits_in ws

-- the parts of n
abbrev pub parts_of : List ℕ → ℕ → List ℕ
parts_of [] n = []
parts_of (w ∷ ws) n = n / 2 ^ bits_in ws % 2 ^ w ∷ parts_of ws n

-- the number with some parts below `above`
abbrev pub joined_from : ℕ → List ℕ → List ℕ → ℕ
joined_from above [] vs = above
joined_from above (w ∷ ws) [] = above
joined_from above (w ∷ ws) (v ∷ vs) = joined_from (above * 2 ^ w + v) ws vs

-- the number made of some parts
abbrev pub joined : List ℕ → List ℕ → ℕ
joined widths parts = joined_from 0 widths parts

-- a part for each width, each within it
pub data InWidths : List ℕ → List ℕ → Type 0 where
  none : InWidths [] []
  part : {w v : ℕ} {ws vs : List ℕ} → v < 2 ^ w → InWidths ws vs → InWidths (w ∷ ws) (v ∷ vs)
