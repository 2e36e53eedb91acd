-- The loop of `count_records`: a record is counted in its source's record, and among the refusals.
-- Assumes nothing.
use mathlib.Core.Path.{◌≡◌, refl, ap, ap₂, ◌∙◌}
use mathlib.Core.List.{List, []}
use Prim.Native.Nat.{ℕ, ◌+◌, ◌-◌, ◌*◌, ◌^◌, ◌<◌, ◌≤◌, zero-le}
use native.Mathlib.Omega.{arith}
use lib.ListN.{length, get_or, set}
use lib.Seq.{set-get_or}
use mir.Syntax.{w64}
use mir.Val.{Fits}
use borrow.Author.Rules.{scaled_Fits}
use Rattle.std.specs.Prelude.{Ok, Err}
use Rattle.base.specs.declared.Edition.{Edition}
use Rattle.base.specs.declared.Edition.TheVariants.{Flown, Corrected}
use Rattle.header.specs.Fields.{last_source_of}
use Rattle.header.specs.declared.Rules.{Rules}
use Rattle.header.specs.Answers.{Answer}
use Rattle.frame.specs.Frames.{Frame, frame, frame_of}
use Rattle.frame.proofs.Bounds.{frame_source}
use Rattle.walk.specs.Promises.{Passes}
use Rattle.record.specs.declared.Ending.{Ending}
use Rattle.record.specs.Walks.{ended_as}
use Rattle.source.specs.declared.Source.{Source}
use Rattle.source.specs.Lanes.{silent, record_of}
use Rattle.sheet.specs.Sheets.{Sheet}
use Rattle.sheet.specs.Sheets.{accept_of, counted_of, full_sheet}
use Rattle.wide_sheet.specs.Wide.{WideSheet}
use Rattle.wide_sheet.specs.Wide.{held}
use Rattle.lines.specs.declared.Tally.{Tally}
use Rattle.lines.specs.Tallies.{total_of}
use Rattle.sheet_listing.specs.declared.Taken.{Taken}
use Rattle.sheet_listing.specs.Pieces.{totals_in, sheet_walk}
use Rattle.sheet_listing.specs.Promises.{record_in, heard_by, refused_by, Takes, held_totals, Walked}

-- a source of either edition has a record on the wide sheet
source_small : (edition : Edition) (srcId : ℕ) → srcId ≤ last_source_of edition → srcId < 128
source_small Flown srcId h = omega arith
source_small Corrected srcId h = omega arith

-- an answer that is counted changes one record and the counts of refusals
counts_one : (sheet : WideSheet) (a : Answer) (i : ℕ) → i ≡ record_in a → (changed : Source) → changed ≡ heard_by (get_or sheet.sources i silent) a → (counts : List ℕ) → counts ≡ refused_by sheet.refusals a
    → ◌≡◌ {A = Sheet} (record { sources = set sheet.sources i changed; refusals = counts }) (counted_of (held sheet) a)
unfolding accept_of
counts_one sheet (Ok a) i here changed hears counts refuses = rw (refuses, hears, here)
counts_one sheet (Err why) i here changed hears counts refuses =
    let same : set sheet.sources i changed ≡ sheet.sources = rw hears (set-get_or sheet.sources i silent) in
    rw (same, refuses)

-- so are those of a record that is taken
module _ (rules : Rules) (tally : Tally) {header payload : List ℕ} {t : Taken} (taken : Takes rules tally header payload t) where
  abbrev f : Frame
  f = frame rules header payload

  -- SrcId has 7 bits
  pub has_record : (i : ℕ) → i ≡ record_in t.answer → i < 128
  has_record i here = by (frame_of f) refl
    where
      by : (a : Answer) → frame_of f ≡ a → i < 128
      by (Ok a) is-accepted = rw (here, taken.answer_is, is-accepted) (source_small rules.edition (record_of a.header) (frame_source f a.header a.flips is-accepted))
      by (Err why) is-refused = rw (here, taken.answer_is, is-refused) (omega arith)

  -- and a place on the sheet
  pub record_place : (i : ℕ) → i ≡ record_in t.answer → (size : ℕ) → 128 * size < 2 ^ 63 → Fits w64 (i * size)
  record_place i here size small = scaled_Fits i 128 size (has_record i here) small

  pub counted_in : (sheet : WideSheet) (i : ℕ) → i ≡ record_in t.answer → (changed : Source) → changed ≡ heard_by (get_or sheet.sources i silent) t.answer
      → (counts : List ℕ) → counts ≡ refused_by sheet.refusals t.answer
      → held_totals (record { sources = set sheet.sources i changed; refusals = counts }) t.tally ≡ totals_in rules (held_totals sheet tally) header payload
  counted_in sheet i here changed hears counts refuses =
      ap₂ (λ (s : Sheet) (y : Tally). record { sheet = s; tally = y })
      (counts_one sheet t.answer i here changed hears counts refuses ∙ ap (counted_of (held sheet)) taken.answer_is) taken.tally_is

-- a walk that ended
pub walked : {rules : Rules} {start : WideSheet} {from : Tally} {l : List ℕ} {sheet : WideSheet} {tally : Tally} {left : ℕ} {ending : Ending}
    → Passes (sheet_walk rules) (held_totals start from) l (held_totals sheet tally) left (ended_as ending) → Walked rules start from l (record { sheet = sheet; tally = tally; left = left; ending = ending })
walked so = record { totals_are = so.state_is; left_is = so.left_is; ended_is = so.ended_is }
