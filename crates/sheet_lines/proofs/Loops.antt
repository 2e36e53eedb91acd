-- The two loops: the lines of the sources that were heard, and of the refusals that were given.
-- Assumes nothing.
use mathlib.Core.Path.{◌≡◌}
use mathlib.Core.List.{List}
use Prim.Native.Nat.{ℕ, ◌+◌, ◌*◌, ◌≤◌, ◌<◌}
use native.Mathlib.Omega.{arith}
use lib.ListN.{length, get_or}
use Rattle.text.specs.Text.{Put}
use Rattle.base.specs.declared.Edition.{Edition}
use Rattle.base.specs.declared.Edition.TheVariants.{Flown, Corrected}
use Rattle.source.specs.Lanes.{silent, source_in}
use Rattle.source.specs.Counts.{counted_at, refusal_counts}
use Rattle.sheet.specs.Sheets.{records_of}
use Rattle.wide_sheet.specs.Wide.{WideSheet}
use Rattle.sheet_lines.specs.Lines.{heard_line, given_line, source_lines, refusal_lines}
use Rattle.sheet_lines.specs.Rooms.{source_room, refusal_room, most_records}
use Rattle.sheet_lines.proofs.Joining.{Joining, join_starts, join_room, join_goes_on, join_ends, join_short}

-- the records of an edition
pub records_flown : (edition : Edition) → edition ≡ Flown → 8 ≡ records_of edition
records_flown edition e = rw e

pub records_corrected : (edition : Edition) → edition ≡ Corrected → 128 ≡ records_of edition
records_corrected edition e = rw e

module _ (edition : Edition) (sheet : WideSheet) (records : ℕ) where
  abbrev line_at : ℕ → List ℕ
  line_at k = heard_line edition k (source_in sheet.sources k)

  -- the sources below k have their lines
  pub record Heard (before : List ℕ) (at : ℕ) (out : List ℕ) (to k : ℕ) : Type 0 where
    pub are : records ≡ records_of edition
    pub few : records ≤ most_records
    pub joining : Joining records source_room line_at before at out to k

  pub heard_starts : (l : List ℕ) (at : ℕ) → records ≡ records_of edition → records ≤ most_records → at + most_records * source_room ≤ length l → Heard l at l at 0
  heard_starts l at are few room = record { are = are; few = few; joining = join_starts records source_room line_at l at (omega arith) }

  module _ (l : List ℕ) (at : ℕ) (out : List ℕ) (to k : ℕ) (so : Heard l at out to k) where
    pub heard_place : k < records → k < most_records
    heard_place h = omega (arith, so.few)

    pub heard_room : k < records → to + source_room ≤ length out
    heard_room h = join_room records source_room line_at l at out to k so.joining h

    pub heard_goes_on : k < records → (after : List ℕ) (next : ℕ) → Put out to (heard_line edition k (get_or sheet.sources k silent)) after next → next ≤ to + source_room → Heard l at after next (k + 1)
    heard_goes_on h after next one short =
        record { are = so.are; few = so.few; joining = join_goes_on records source_room line_at l at out to k so.joining h after next one short }

    pub heard_ends : records ≤ k → Put l at (source_lines edition sheet.sources) out to
    heard_ends h = rw so.are at (join_ends records source_room line_at l at out to k so.joining h)

    pub heard_short : to ≤ at + most_records * source_room
    heard_short = omega (arith, so.few, join_short records source_room line_at l at out to k so.joining)

module _ (counts : List ℕ) where
  abbrev given_at : ℕ → List ℕ
  given_at k = given_line (counted_at k) (get_or counts k 0)

  -- the counts below k have their lines
  pub record Given (before : List ℕ) (at : ℕ) (out : List ℕ) (to k : ℕ) : Type 0 where
    pub joining : Joining refusal_counts refusal_room given_at before at out to k

  pub given_starts : (l : List ℕ) (at : ℕ) → at + refusal_counts * refusal_room ≤ length l → Given l at l at 0
  given_starts l at room = record { joining = join_starts refusal_counts refusal_room given_at l at room }

  module _ (l : List ℕ) (at : ℕ) (out : List ℕ) (to k : ℕ) (so : Given l at out to k) where
    pub given_room : k < refusal_counts → to + refusal_room ≤ length out
    given_room h = join_room refusal_counts refusal_room given_at l at out to k so.joining h

    pub given_goes_on : k < refusal_counts → (number : ℕ) → number ≡ counted_at k → (after : List ℕ) (next : ℕ)
        → Put out to (given_line number (get_or counts k 0)) after next → next ≤ to + refusal_room → Given l at after next (k + 1)
    given_goes_on h number is after next one short = record { joining = join_goes_on refusal_counts refusal_room given_at l at out to k so.joining h after next (rw is at one) short }

    pub given_ends : refusal_counts ≤ k → Put l at (refusal_lines counts) out to
    given_ends h = join_ends refusal_counts refusal_room given_at l at out to k so.joining h

    pub given_short : to ≤ at + refusal_counts * refusal_room
    given_short = join_short refusal_counts refusal_room given_at l at out to k so.joining
