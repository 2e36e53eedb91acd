-- A piece is taken: what is left is within it, and less than a record where the walk is not over; its lines are within the output.
-- Assumes nothing.
use Rattle.std.proofs.Common.{◌≡◌, ℕ, ◌+◌, ◌*◌, ◌<◌, ◌≤◌, Bool, false, sym, ◌∙◌, List, length, take, arith}
use Rattle.air.specs.Air.{payload_limit}
use Rattle.record.specs.declared.Ending.{Ending}
use Rattle.record.specs.Records.{record_size}
use Rattle.record.specs.Walks.{ended_as, over_of}
use Rattle.record.proofs.Walking.{left_of_records}
use Rattle.walk.specs.Scans.{Turned}
use Rattle.walk.proofs.Keeping.{text_inside}
use Rattle.streams.specs.Pump.{TakenUp}
use Rattle.unpacking.specs.Unpacking.{line_reading, line_walk}

pub unpacks : (buf out : List ℕ) (end : ℕ) → record_size payload_limit ≤ length buf → (buf' out' : List ℕ) (left to : ℕ) (ending : Ending)
    → Turned line_walk 2 tt buf end out buf' out' tt left to (ended_as ending) → length buf' ≡ length buf
    → (over : Bool) → over ≡ over_of ending → TakenUp (length buf') (length out') end (record { left = left; to = to; over = over })
unpacks buf out end fits buf' out' left to ending done input over is =
    record {
      inside = done.inside;
      room = λ e.
          let few = left_of_records line_reading 2 tt (take end buf) out 0 out' tt left to ending done.listed (sym is ∙ e) in
          omega (arith, few, fits, input);
      text = text_inside line_walk 2 tt buf end out buf' out' tt left to (ended_as ending) done;
    }
