-- The marks of a whole recording, a list of bits: "each place where the 32-bit marker 0x20F3FA13 .. is followed by 210 more bits".
-- Assumes nothing.
use Rattle.std.specs.Prelude.{ℕ, suc, ◌+◌, ◌/◌, ◌%◌, ◌^◌, Bool, not, ◌&&◌, cond, List, [], ◌∷◌, ◌++◌, leb, eqb, length, get_or, take}
use Rattle.base.specs.Lists.{lowest}
use Rattle.air.specs.Air.{air_bits}
use Rattle.marks.specs.declared.Mark.{Mark}

-- the bits of the marker, and of a window: the marker and the 210 that follow it
abbrev pub marker_bits : ℕ
marker_bits = 32

abbrev pub window_bits : ℕ
window_bits = marker_bits + air_bits

-- bit i of the marker, which is the one sent as its i-th: "its lowest bit sent first"
abbrev pub marker_bit : ℕ → ℕ
marker_bit i = 0x20F3FA13 / 2 ^ i % 2

-- the marker's bits stand at the front of a list: none of the 32 elements is another than the marker's
unfoldable pub is_marker : List ℕ → Bool
is_marker l = eqb (lowest marker_bits (λ i. not (eqb (get_or l i 0) (marker_bit i)))) marker_bits

-- "followed by 210 more bits"
unfoldable pub marked : List ℕ → Bool
marked l = leb window_bits (length l) && is_marker l

-- "place (the marker's first bit, from 0)", and the 242 bits there
unfoldable pub mark_at : ℕ → List ℕ → Mark
mark_at p l = record { place = p; window = take window_bits l }

-- the mark of a place that is marked
abbrev pub mark_if : Bool → Mark → List Mark
mark_if here m = cond here (m ∷ []) []

-- the marks of a list whose first element stands at place p: "overlapping places included", "each once, ascending"
unfoldable pub marks_from : ℕ → List ℕ → List Mark
marks_from p [] = []
marks_from p (x ∷ xs) = mark_if (marked (x ∷ xs)) (mark_at p (x ∷ xs)) ++ marks_from (suc p) xs

abbrev pub marks_of : List ℕ → List Mark
marks_of recording = marks_from 0 recording
