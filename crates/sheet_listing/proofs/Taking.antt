-- A record that is read: its answer is its frame's, and the tally has counted it.
-- Assumes nothing.
use mathlib.Core.Path.{◌≡◌, ap, ◌∙◌}
use mathlib.Core.List.{List}
use Prim.Native.Nat.{ℕ}
use Rattle.header.specs.declared.Read.{Read}
use Rattle.header.specs.declared.Rules.{Rules}
use Rattle.frame.specs.Frames.{frame, frame_of, frame_read}
use Rattle.frame.proofs.Rules.{frame_answer}
use Rattle.lines.specs.declared.Tally.{Tally}
use Rattle.lines.specs.Tallies.{tally_after}
use Rattle.sheet_listing.specs.Promises.{Takes}

pub takes : (rules : Rules) (tally : Tally) (header payload : List ℕ) (r : Read) → r ≡ frame_read (frame rules header payload) → (after : Tally) → after ≡ tally_after tally r.answer
    → Takes rules tally header payload (record { answer = r.answer; tally = after })
takes rules tally header payload r read after counts =
    let answer : r.answer ≡ frame_of (frame rules header payload) = frame_answer (frame rules header payload) r read in
    record { answer_is = answer; tally_is = counts ∙ ap (tally_after tally) answer }
