-- A piece in a buffer: what is left of it where the listing waits for more.
-- Assumes nothing.
use mathlib.Core.Path.{◌≡◌}
use mathlib.Core.Bool.{false}
use mathlib.Core.List.{List}
use Prim.Native.Nat.{ℕ, ◌<◌}
use Rattle.air.specs.Air.{payload_limit}
use Rattle.header.specs.declared.Rules.{Rules}
use Rattle.lines.specs.declared.Tally.{Tally}
use Rattle.walk.specs.Scans.{Scanned}
use Rattle.record.specs.declared.Ending.{Ending}
use Rattle.record.specs.Records.{record_size}
use Rattle.record.specs.Walks.{ended_as, over_of}
use Rattle.record.proofs.Walking.{left_of_records}
use Rattle.listing.specs.Listing.{list_reading, list_walk}

pub left_short : (rules : Rules) (tally : Tally) (l before : List ℕ) (at : ℕ) (after : List ℕ) (state : Tally) (left to : ℕ) (ending : Ending)
    → Scanned (list_walk rules) 1 tally l before at after state left to (ended_as ending) → over_of ending ≡ false → left < record_size payload_limit
left_short rules tally l before at after state left to ending so e =
    left_of_records (list_reading rules) 1 tally l before at after state left to ending so e
