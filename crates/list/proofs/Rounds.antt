-- A piece is taken: what is left is within it, and less than a record where the listing is not over; its lines are within the output.
-- Assumes nothing.
use Rattle.std.proofs.Common.{◌≡◌, ℕ, ◌<◌, ◌≤◌, Bool, false, sym, ◌∙◌, List, length, take, arith}
use Rattle.air.specs.Air.{payload_limit}
use Rattle.header.specs.declared.Rules.{Rules}
use Rattle.lines.specs.declared.Tally.{Tally}
use Rattle.record.specs.declared.Ending.{Ending}
use Rattle.record.specs.Records.{record_size}
use Rattle.record.specs.Walks.{ended_as, over_of}
use Rattle.walk.specs.Scans.{Turned}
use Rattle.walk.proofs.Keeping.{text_inside}
use Rattle.streams.specs.Pump.{TakenUp}
use Rattle.listing.specs.Listing.{list_walk}
use Rattle.listing.proofs.Keeping.{left_short}

pub lists : (rules : Rules) (tally : Tally) (buf out : List ℕ) (end : ℕ) → record_size payload_limit ≤ length buf → (buf' out' : List ℕ) (after : Tally) (left to : ℕ) (ending : Ending)
    → Turned (list_walk rules) 1 tally buf end out buf' out' after left to (ended_as ending) → length buf' ≡ length buf
    → (over : Bool) → over ≡ over_of ending → TakenUp (length buf') (length out') end (record { left = left; to = to; over = over })
lists rules tally buf out end fits buf' out' after left to ending done input over is =
    record {
      inside = done.inside;
      room = λ e. let few = left_short rules tally (take end buf) out 0 out' after left to ending done.listed (sym is ∙ e) in omega (arith, few, fits, input);
      text = text_inside (list_walk rules) 1 tally buf end out buf' out' after left to (ended_as ending) done;
    }
