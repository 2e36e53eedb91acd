-- THE LINES OF PIECES: however the input is cut into pieces, the lines are those of the whole.
-- Assumes nothing.
use mathlib.Core.Path.{◌≡◌, refl, ap, ◌∙◌}
use mathlib.Core.List.{List, append-nil, flatten}
use Prim.Native.Nat.{ℕ}
use Rattle.walk.specs.Walks.{Closed, closed_by}
use Rattle.walk.proofs.Walking.{Sound}
use Rattle.walk.proofs.Feeding.{fed_whole}
use Rattle.record.proofs.Walking.{record_sound, cut_settled}
use Rattle.unpacking.specs.Unpacking.{line_reading, line_walk, unpacked_of, no_closing, streamed_of}

pub line_sound : Sound line_walk
line_sound = record_sound line_reading

-- however the input is cut into pieces, what is written is the lines of the whole
pub whole_unpacking : (pieces : List (List ℕ)) → streamed_of pieces ≡ unpacked_of (flatten pieces)
unfolding streamed_of
whole_unpacking pieces =
    ap (λ (c : Closed (Unit {0})). c.text)
    (fed_whole line_walk line_sound (closed_by no_closing) (cut_settled line_reading no_closing) tt pieces)
    ∙ append-nil (unpacked_of (flatten pieces))
