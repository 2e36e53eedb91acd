-- The recording in pieces: what is kept, what a piece is answered, and the marks that it adds.
-- Assumes nothing.
use Rattle.std.specs.Prelude.{ℕ, ◌+◌, ◌-◌, cond, Some, None, Ok, Err, List, [], ◌∷◌, ◌++◌, ltb, length, drop, replicate}
use Rattle.base.specs.Checks.{Check, check, first, refusal}
use Rattle.base.specs.Written.{Written, done, refused}
use Rattle.air.specs.Air.{first_no_bit}
use Rattle.marks.specs.declared.Mark.{Mark}
use Rattle.marks.specs.declared.State.{State}
use Rattle.marks.specs.declared.Taken.{Taken}
use Rattle.marks.specs.declared.Step.{Step}
use Rattle.marks.specs.Marked.{window_bits, marks_from}

-- "4,294,967,295 bits"
abbrev pub longest_recording : ℕ
longest_recording = 4294967295

-- THE REFUSALS of a piece after so many bits
-- 19, "an element above 1 in a piece": its lowest index in the piece
abbrev pub no_bit_in_piece : List ℕ → Check Written
no_bit_in_piece piece = check (ltb (first_no_bit piece) (length piece)) (refused (refusal 19 (first_no_bit piece)))

-- 37, "a piece that would take the recording past 4,294,967,295 bits": the piece's length
abbrev pub long_recording : ℕ → List ℕ → Check Written
long_recording total piece = check (ltb longest_recording (total + length piece)) (refused (refusal 37 (length piece)))

abbrev pub piece_checks : ℕ → List ℕ → List (Check Written)
piece_checks total piece = no_bit_in_piece piece ∷ long_recording total piece ∷ []

unfoldable pub verdict_of : ℕ → List ℕ → Written
verdict_of total piece = first done (piece_checks total piece)

-- THE STATE
unfoldable pub fresh_state : State
fresh_state = record { bits = replicate window_bits 0; total = 0 }

-- "the last 242 bits are kept between pieces"
unfoldable pub moved_on : State → List ℕ → State
moved_on s piece = record { bits = drop (length piece) (s.bits ++ piece); total = s.total + length piece }

-- the state after the bits of a recording, zeros before the first
unfoldable pub grown : List ℕ → State
grown done = record { bits = drop (length done) (replicate window_bits 0 ++ done); total = length done }

-- "state unchanged in both"
abbrev pub after_by : Written → State → List ℕ → State
after_by (Ok u) s piece = moved_on s piece
after_by (Err why) s piece = s

abbrev pub state_after : State → List ℕ → State
state_after s piece = after_by (verdict_of s.total piece) s piece

unfoldable pub taken_of : State → List ℕ → Taken
taken_of s piece = record { verdict = verdict_of s.total piece; state = state_after s piece }

-- THE MARKS
-- the place of the window that ends with element `at` of the piece; 0 where that window starts before the recording
abbrev pub place_at : ℕ → ℕ → ℕ
place_at total at = total + at - (window_bits - 1)

-- its index in what is kept and the piece after it, where place p has the index p + 242 - total
abbrev pub index_of : ℕ → ℕ → ℕ
index_of total at = place_at total at + window_bits - total

-- the marks whose last bit stands at or after `at` in the piece
unfoldable pub marks_at : State → List ℕ → ℕ → List Mark
marks_at s piece at = marks_from (place_at s.total at) (drop (index_of s.total at) (s.bits ++ piece))

-- no mark: the position after a piece of n elements
unfoldable pub no_step : ℕ → Step
no_step n = record { mark = None; next = n }

-- the first of some marks, and the position after its last bit
abbrev pub pick : ℕ → ℕ → List Mark → Step
pick n total [] = no_step n
pick n total (m ∷ ms) = record { mark = Some m; next = m.place + window_bits - total }

-- the next mark from `at` on; none in a piece that would make the recording too long
unfoldable pub step_of : State → List ℕ → ℕ → Step
step_of s piece at =
    cond (ltb longest_recording (s.total + length piece)) (no_step (length piece)) (pick (length piece) s.total (marks_at s piece at))

-- MANY PIECES: what one adds to the marks and to the bits; what all of them add, and the state after them
abbrev pub marks_by : Written → State → List ℕ → List Mark
marks_by (Ok u) s piece = marks_at s piece 0
marks_by (Err why) s piece = []

abbrev pub bits_by : Written → List ℕ → List ℕ
bits_by (Ok u) piece = piece
bits_by (Err why) piece = []

unfoldable pub all_marks : State → List (List ℕ) → List Mark
all_marks s [] = []
all_marks s (piece ∷ pieces) = marks_by (verdict_of s.total piece) s piece ++ all_marks (state_after s piece) pieces

unfoldable pub all_after : State → List (List ℕ) → State
all_after s [] = s
all_after s (piece ∷ pieces) = all_after (state_after s piece) pieces

unfoldable pub all_bits : State → List (List ℕ) → List ℕ
all_bits s [] = []
all_bits s (piece ∷ pieces) = bits_by (verdict_of s.total piece) piece ++ all_bits (state_after s piece) pieces
