-- A piece is taken: what is left is within it, and less than a record where the sheet is not over.
-- Assumes nothing.
use Rattle.std.proofs.Common.{◌≡◌, ℕ, ◌<◌, ◌≤◌, Bool, false, sym, ◌∙◌, List, length, take, arith}
use Rattle.air.specs.Air.{payload_limit}
use Rattle.header.specs.declared.Rules.{Rules}
use Rattle.wide_sheet.specs.Wide.{WideSheet}
use Rattle.lines.specs.declared.Tally.{Tally}
use Rattle.record.specs.Records.{record_size}
use Rattle.record.specs.Walks.{over_of}
use Rattle.streams.specs.Pump.{TakenUp}
use Rattle.sheet_listing.specs.declared.Counted.{Counted}
use Rattle.sheet_listing.specs.Promises.{Turns}
use Rattle.sheet_listing.proofs.Keeping.{left_short}

pub counts : (rules : Rules) (start : WideSheet) (tally : Tally) (buf out : List ℕ) (end : ℕ) → record_size payload_limit ≤ length buf → (buf' : List ℕ) (r : Counted)
    → Turns rules start tally buf end buf' r → length buf' ≡ length buf
    → (over : Bool) → over ≡ over_of r.ending → TakenUp (length buf') (length out) end (record { left = r.left; to = 0; over = over })
counts rules start tally buf out end fits buf' r done input over is =
    record {
      inside = done.inside;
      room = λ e. let few = left_short rules start tally (take end buf) r done.walked (sym is ∙ e) in omega (arith, few, fits, input);
      text = omega arith;
    }
