-- A record that is taken: the tally after it, and its line.
-- Assumes nothing.
use mathlib.Core.Path.{◌≡◌, ap, subst, ◌∙◌}
use mathlib.Core.List.{List}
use Prim.Native.Nat.{ℕ, ◌+◌, ◌≤◌}
use lib.ListN.{length}
use Rattle.text.specs.Text.{Put}
use Rattle.header.specs.declared.Rules.{Rules}
use Rattle.header.specs.declared.Read.{Read}
use Rattle.frame.specs.Frames.{frame, frame_read}
use Rattle.frame.proofs.Rules.{frame_answer}
use Rattle.lines.specs.declared.Tally.{Tally}
use Rattle.lines.specs.Tallies.{total_of, tally_after}
use Rattle.lines.specs.Lines.{line_of}
use Rattle.lines.specs.Rooms.{line_room}
use Rattle.walk.specs.Promises.{Takes}
use Rattle.listing.specs.Listing.{tally_in, line_in}

pub takes : (rules : Rules) (tally : Tally) (k : ℕ) → k ≡ total_of tally → (header payload before : List ℕ) (at : ℕ) (after : List ℕ) (next : ℕ) (r : Read)
    → r ≡ frame_read (frame rules header payload) → Put before at (line_of rules.edition k (length payload) r) after next → next ≤ at + line_room → (counted : Tally) → counted ≡ tally_after tally r.answer
    → Takes (tally_in rules tally header payload) (line_in rules tally header payload) line_room before at after (record { state = counted; to = next })
takes rules tally k number header payload before at after next r read put short counted counts =
    record {
      state_is = counts ∙ ap (tally_after tally) (frame_answer (frame rules header payload) r read);
      line = rw (← number) (subst (λ (x : Read). Put before at (line_of rules.edition k (length payload) x) after next) read put);
      short = short;
    }
