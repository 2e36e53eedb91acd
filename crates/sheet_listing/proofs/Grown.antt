-- A sheet with more records than its edition has sources counts as one with just as many does.
-- Assumes nothing.
use mathlib.Core.Path.{◌≡◌, refl, sym, ap, ◌∙◌}
use mathlib.Core.Bool.{Bool, true, false}
use mathlib.Core.List.{List, [], ◌∷◌}
use Prim.Native.Nat.{ℕ, zero, suc, ◌<◌, ◌≤◌}
use native.Mathlib.Omega.{arith}
use lib.Dec.{eqb}
use lib.ListN.{length, set, take, length-set, length-replicate}
use lib.Seq.{get_or-set_same, get_or-set_other}
use borrow.Author.Tests.{eqb-true, eqb-false}
use Rattle.std.specs.Prelude.{Ok, Err}
use Rattle.base.proofs.Tabulate.{read_replicated}
use Rattle.base.specs.declared.Edition.{Edition}
use Rattle.base.specs.declared.Edition.TheVariants.{Flown, Corrected}
use Rattle.header.specs.declared.Rules.{Rules}
use Rattle.header.specs.Answers.{Answer}
use Rattle.frame.specs.Frames.{Frame, frame_of}
use Rattle.record.specs.declared.Cut.{Cut}
use Rattle.record.specs.declared.Cut.TheVariants.{Record, TooLong, Short}
use Rattle.record.specs.Records.{cut_of}
use Rattle.source.specs.declared.Source.{Source}
use Rattle.source.specs.Lanes.{silent, source_in, record_of, hear_of}
use Rattle.source.specs.Counts.{counts_after}
use Rattle.sheet.specs.Sheets.{Sheet}
use Rattle.sheet.specs.Sheets.{records_of, new_sheet, source_at, accept_of, counted_of, full_sheet}
use Rattle.sheet.specs.Histories.{sheet_of, count_all}
use Rattle.sheet.proofs.Offering.{Countable, recorded, frame_countable}
use Rattle.sheet.proofs.Running.{AllOwn, all_of_edition, taken_own, history_taken}
use Rattle.listing.specs.Offers.{frames_at, frames_within, frames_in}
use Rattle.sheet_listing.specs.Pieces.{blank_sheet}

-- the frames of an input are all of the edition that it is read under
module _ (rules : Rules) where
  abbrev own : Edition
  own = rules.edition

  within_own : (most : ℕ) (l : List ℕ) → AllOwn own (frames_within rules most l)
  within_own zero l = tt
  within_own (suc most) l = by (cut_of l) (λ m. within_own most m)
    where
      by : (c : Cut) → ((m : List ℕ) → AllOwn own (frames_within rules most m)) → AllOwn own (frames_at rules l c (frames_within rules most))
      by (Record n) more = (refl, more _)
      by TooLong more = tt
      by Short more = tt

  pub frames_own : (l : List ℕ) → AllOwn own (frames_in rules l)
  unfolding frames_in
  frames_own l = within_own (length l) l

-- two sheets that say the same of every source and of every refusal, and have a record for each source of an edition
pub record Alike (own : Edition) (s t : Sheet) : Type 0 where
  pub sources : (k : ℕ) → source_at s k ≡ source_at t k
  pub counts : s.refusals ≡ t.refusals
  pub first_long : records_of own ≤ length s.sources
  pub second_long : records_of own ≤ length t.sources

-- one record of both changed in the same way
set_alike : (xs ys : List Source) (i : ℕ) (x : Source) → i < length xs → i < length ys → ((k : ℕ) → source_in xs k ≡ source_in ys k) → (k : ℕ) → source_in (set xs i x) k ≡ source_in (set ys i x) k
set_alike xs ys i x a b same k = by (eqb k i) refl
  where
    by : (c : Bool) → eqb k i ≡ c → source_in (set xs i x) k ≡ source_in (set ys i x) k
    by true e = let here : k ≡ i = eqb-true k i e in rw here (get_or-set_same xs i x silent a ∙ sym (get_or-set_same ys i x silent b))
    by false e = get_or-set_other xs i k x silent (eqb-false k i e) ∙ same k ∙ sym (get_or-set_other ys i k x silent (eqb-false k i e))

module _ (own : Edition) where
  one_alike : (s t : Sheet) → Alike own s t → (a : Answer) → Countable own a → Alike own (counted_of s a) (counted_of t a)
  unfolding accept_of
  one_alike s t so (Err why) known = record { sources = so.sources; counts = ap (λ (l : List ℕ). counts_after l why.number) so.counts; first_long = so.first_long; second_long = so.second_long }
  one_alike s t so (Ok a) (recorded known few) =
      let i = record_of a.header in
      let x : Source = hear_of (source_at s i) a.header a.flips in
      let same : hear_of (source_at t i) a.header a.flips ≡ x = ap (λ (r : Source). hear_of r a.header a.flips) (sym (so.sources i)) in
      record {
        sources = λ k. rw same (set_alike s.sources t.sources i x (omega (arith, so.first_long)) (omega (arith, so.second_long)) so.sources k);
        counts = so.counts;
        first_long = rw length-set so.first_long;
        second_long = rw length-set so.second_long;
      }

  all_alike : (fs : List Frame) → AllOwn own fs → (s t : Sheet) → Alike own s t → Alike own (count_all s fs) (count_all t fs)
  all_alike [] mine s t so = so
  all_alike (f ∷ fs) mine s t so = all_alike fs mine.1 (counted_of s (frame_of f)) (counted_of t (frame_of f)) (one_alike s t so (frame_of f) (frame_countable own f mine.0))

records_few : (own : Edition) → records_of own ≤ 128
records_few Flown = omega arith
records_few Corrected = omega arith

-- so from the first frame on
module _ (rules : Rules) (l : List ℕ) where
  abbrev mine : Edition
  mine = rules.edition

  blank_alike : Alike rules.edition blank_sheet (new_sheet rules.edition)
  blank_alike = record {
    sources = λ k. read_replicated 128 k silent ∙ sym (read_replicated (records_of mine) k silent);
    counts = refl;
    first_long = rw length-replicate (records_few mine);
    second_long = rw length-replicate (omega arith);
  }

  pub grown_alike : Alike mine (count_all blank_sheet (take full_sheet (frames_in rules l))) (sheet_of mine (frames_in rules l))
  grown_alike =
      rw (history_taken mine (frames_in rules l), all_of_edition mine (frames_in rules l) (frames_own rules l))
      (all_alike mine (take full_sheet (frames_in rules l)) (rw (all_of_edition mine (frames_in rules l) (frames_own rules l)) at (taken_own mine (frames_in rules l))) blank_sheet (new_sheet mine) blank_alike)
