-- What an answer changes on a sheet, by its case.
-- Assumes nothing.
use mathlib.Core.Path.{◌≡◌}
use mathlib.Core.List.{List}
use Prim.Native.Nat.{ℕ}
use Rattle.base.specs.declared.Refusal.{Refusal}
use Rattle.header.specs.declared.Header.{Header}
use Rattle.header.specs.Answers.{Answer, accepted, refused}
use Rattle.source.specs.declared.Source.{Source}
use Rattle.source.specs.Lanes.{record_of, hear_of}
use Rattle.source.specs.Counts.{counts_after}
use Rattle.sheet_listing.specs.Promises.{record_in, heard_by, refused_by}

pub accepted_record : (a : Answer) (h : Header) (flips : ℕ) → a ≡ accepted h flips → record_of h ≡ record_in a
accepted_record a h flips is = rw is

pub accepted_source : (a : Answer) (h : Header) (flips : ℕ) → a ≡ accepted h flips → (source r : Source) → r ≡ hear_of source h flips → r ≡ heard_by source a
accepted_source a h flips is source r hears = rw is hears

pub refused_counts : (a : Answer) (why : Refusal) → a ≡ refused why → (counts r : List ℕ) → r ≡ counts_after counts why.number → r ≡ refused_by counts a
refused_counts a why is counts r refuses = rw is refuses
