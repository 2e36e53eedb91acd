-- A piece is taken: what is left is within it, and less than a record where the listing is not over; its lines are within the output.
-- Assumes nothing.
use Rattle.std.proofs.Common.{◌≡◌, ℕ, ◌<◌, ◌≤◌, Bool, false, sym, ◌∙◌, List, length, take, arith}
use Rattle.air.specs.Air.{payload_limit}
use Rattle.header.specs.declared.Rules.{Rules}
use Rattle.page_lines.specs.declared.Counts.{Counts}
use Rattle.record.specs.declared.Ending.{Ending}
use Rattle.record.specs.Records.{record_size}
use Rattle.record.specs.Walks.{ended_as, over_of}
use Rattle.record.proofs.Walking.{left_of_records}
use Rattle.walk.specs.Scans.{Turned}
use Rattle.walk.proofs.Keeping.{text_inside}
use Rattle.streams.specs.Pump.{TakenUp}
use Rattle.page_listing.specs.Listing.{growth, page_reading, page_walk}

pub lists : (rules : Rules) (c : Counts) (buf out : List ℕ) (end : ℕ) → record_size payload_limit ≤ length buf → (buf' out' : List ℕ) (after : Counts) (left to : ℕ) (ending : Ending)
    → Turned (page_walk rules) growth c buf end out buf' out' after left to (ended_as ending) → length buf' ≡ length buf
    → (over : Bool) → over ≡ over_of ending → TakenUp (length buf') (length out') end (record { left = left; to = to; over = over })
lists rules c buf out end fits buf' out' after left to ending done input over is =
    record {
      inside = done.inside;
      room = λ e.
          let few = left_of_records (page_reading rules) growth c (take end buf) out 0 out' after left to ending done.listed (sym is ∙ e) in
          omega (arith, few, fits, input);
      text = text_inside (page_walk rules) growth c buf end out buf' out' after left to (ended_as ending) done;
    }
