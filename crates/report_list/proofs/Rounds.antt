-- A read, and the records of what was read taken: what is left is within what was read, and less than a record where the file is not over. Then the
-- lines of files that were cut, as many at a time as fit.
-- Assumes nothing.
use mathlib.Core.Path.{◌≡◌, refl, sym, ◌∙◌}
use mathlib.Core.Bool.{Bool}
use mathlib.Core.List.{List}
use Prim.Native.Nat.{ℕ, ◌-◌, ◌<◌, ◌≤◌}
use native.Mathlib.Omega.{arith}
use lib.ListN.{length, take}
use Rattle.air.specs.Air.{payload_limit}
use Rattle.header.specs.declared.Rules.{Rules}
use Rattle.record.specs.Records.{record_size}
use Rattle.record.specs.declared.Ending.{Ending}
use Rattle.record.specs.Walks.{ended_as, over_of}
use Rattle.walk.specs.declared.Counted.{Counted}
use Rattle.walk.specs.Promises.{Turns}
use Rattle.report_listing.specs.Files.{pass_walk}
use Rattle.streams.specs.declared.Filled.{Filled}
use Rattle.streams.specs.declared.Next.{Next}
use Rattle.streams.specs.declared.Next.TheVariants.{More}
use Rattle.streams.specs.Turns.{read_on}
use Rattle.streams.proofs.Reading.{read_open}
use Rattle.report_listing.specs.declared.Pass.{Pass}
use Rattle.report_listing.specs.declared.last.Cuts.{Cuts}
use Rattle.report_listing.specs.Promises.{CutsPut}
use Rattle.report_listing.proofs.Keeping.{left_short}

-- what holds at each turn of `read_file`
pub record Reading (size : ℕ) (buf : List ℕ) (left : ℕ) : Type 0 where
  pub same : length buf ≡ size
  pub short : left < record_size payload_limit

pub reads_on : (size : ℕ) (buf : List ℕ) (left : ℕ) → Reading size buf left → (read : List ℕ) → length read ≡ length buf
    → (filled : Filled) → (rules : Rules) (start : Pass) (buf' : List ℕ) (r : Counted Pass Ending) → Turns (pass_walk rules) start read filled.end buf' r.state r.left (ended_as r.ending)
    → length buf' ≡ length read → (over : Bool) → over ≡ over_of r.ending → (next : Next) → next ≡ read_on filled.next over → next ≡ More
    → Reading size buf' r.left
reads_on size buf left so read same filled rules start buf' r done input over is next on more = record {
  same = input ∙ same ∙ so.same;
  short = left_short rules start (take filled.end read) r.state r.left r.ending done.walked (sym is ∙ read_open filled.next over (sym on ∙ more));
}

-- what holds at each turn of `write_cuts`
pub record Writing (files : ℕ) (out₀ out : List ℕ) (from : ℕ) : Type 0 where
  pub same : length out ≡ length out₀
  pub inside : from ≤ files

pub starts_writing : (files : ℕ) (out : List ℕ) → Writing files out out 0
starts_writing files out = record { same = refl; inside = omega arith }

module _ (files : ℕ) (out₀ out : List ℕ) (from : ℕ) (so : Writing files out₀ out from) (some : from < files) (cuts after : List ℕ) (r : Cuts) (put : CutsPut cuts from files out after r) where
  pub fewer : files - r.next < files - from
  fewer = omega (arith, put.moves some, put.inside)

  pub writes_on : length after ≡ length out → Writing files out₀ after r.next
  writes_on same = record { same = same ∙ so.same; inside = put.inside }
