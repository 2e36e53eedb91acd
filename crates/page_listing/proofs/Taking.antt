-- A record that is taken: the counts after it, and its lines.
-- Assumes nothing.
use mathlib.Core.Path.{◌≡◌, ◌∙◌}
use mathlib.Core.List.{List}
use Prim.Native.Nat.{ℕ, ◌+◌, ◌≤◌}
use Rattle.text.specs.Text.{Put}
use Rattle.header.specs.declared.Rules.{Rules}
use Rattle.header.specs.declared.Read.{Read}
use Rattle.frame.specs.Frames.{frame, frame_of, frame_read}
use Rattle.frame.proofs.Rules.{frame_answer}
use Rattle.page.specs.Payload.{page_of}
use Rattle.page.specs.declared.PageAnswer.{PageAnswer}
use Rattle.page_lines.specs.declared.Counts.{Counts}
use Rattle.page_lines.specs.Counting.{records_heard, counted_of}
use Rattle.page_lines.specs.Lines.{record_lines}
use Rattle.page_lines.specs.Rooms.{page_room}
use Rattle.walk.specs.Promises.{Takes}
use Rattle.page_listing.specs.Listing.{counts_in, lines_in}

pub takes : (rules : Rules) (c : Counts) (k : ℕ) → k ≡ records_heard c → (header payload before : List ℕ) (at : ℕ) (after : List ℕ) (next : ℕ) (r : Read) (page : PageAnswer)
    → r ≡ frame_read (frame rules header payload) → page ≡ page_of payload → Put before at (record_lines k page r.answer) after next → next ≤ at + page_room
    → (counted : Counts) → counted ≡ counted_of c page.verdict r.answer
    → Takes (counts_in rules c header payload) (lines_in rules c header payload) page_room before at after (record { state = counted; to = next })
takes rules c k number header payload before at after next r page read paged put short counted counts =
    let answer : r.answer ≡ frame_of (frame rules header payload) = frame_answer (frame rules header payload) r read in
    record {
      state_is = counts ∙ rw (answer, paged);
      line = rw (← number, ← paged, ← answer) put;
      short = short;
    }
