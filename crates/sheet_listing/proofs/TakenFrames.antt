-- THE SHEET OF SOME BYTES: the frames that a sheet still takes are counted, and its tally and what is left are those of the listing.
-- Assumes nothing.
use mathlib.Core.Path.{◌≡◌, refl, ap, ap₂, ◌∙◌}
use mathlib.Core.Bool.{false}
use mathlib.Core.List.{List, [], ◌∷◌}
use Prim.Native.Nat.{ℕ, zero, suc, ◌+◌, ◌-◌, ◌<◌}
use native.Mathlib.Omega.{arith}
use lib.ListN.{take, drop}
use borrow.Author.Tests.{leb-true, leb-false}
use Rattle.std.specs.Prelude.{Ok, Err}
use Rattle.header.specs.declared.Rules.{Rules}
use Rattle.header.specs.Answers.{Answer}
use Rattle.frame.specs.Frames.{Frame, frame_of}
use Rattle.walk.specs.Walks.{whole, Ended, walk_of}
use Rattle.walk.proofs.Walking.{Sound, Stopped, halted, short, walk_stops, walk_takes, by_items}
use Rattle.record.specs.declared.Ending.{Ending}
use Rattle.record.specs.declared.Cut.TheVariants.{Record}
use Rattle.record.specs.Records.{air_in, payload_in, record_size, cut_of}
use Rattle.record.proofs.Walking.{record_sound, front_whole, Halts, filled, long, early, halts}
use Rattle.sheet.specs.Sheets.{full_sheet}
use Rattle.sheet.specs.Histories.{count_all}
use Rattle.lines.specs.declared.Tally.{Tally}
use Rattle.lines.specs.Tallies.{total_of, tally_after}
use Rattle.frame.specs.Recorded.{frame_in}
use Rattle.listing.specs.Listing.{full_at, tally_in, list_walk}
use Rattle.listing.specs.Offers.{frames_in}
use Rattle.listing.proofs.Streaming.{list_sound}
use Rattle.listing.proofs.Frames.{frames_more, frames_long, frames_short}
use Rattle.sheet_listing.specs.Pieces.{Totals, totals_full, totals_in, sheet_reading, sheet_walk}

take_none : (k : ℕ) → ◌≡◌ {A = List Frame} (take k []) []
take_none zero = refl
take_none (suc k) = refl

-- an answer adds one to the total
pub total_after : (tally : Tally) (a : Answer) → total_of (tally_after tally a) ≡ total_of tally + 1
total_after tally (Ok a) = omega arith
total_after tally (Err why) = omega arith

module _ (rules : Rules) where
  pub sheet_sound : Sound (sheet_walk rules)
  sheet_sound = record_sound (sheet_reading rules)

  -- the frames of some bytes that are counted after so many: as many as a sheet still takes
  unfoldable pub taken_in : Tally → List ℕ → List Frame
  taken_in tally l = take (full_sheet - total_of tally) (frames_in rules l)

  taken_more : (tally : Tally) (l : List ℕ) (n : ℕ) → cut_of l ≡ Record n → full_at tally ≡ false
      → taken_in tally l ≡ frame_in rules n l ∷ taken_in (tally_in rules tally (air_in l) (payload_in n l)) (drop (record_size n) l)
  unfolding taken_in
  taken_more tally l n e g =
      let room : total_of tally < full_sheet = leb-false full_sheet (total_of tally) g in
      let next : total_of (tally_in rules tally (air_in l) (payload_in n l)) ≡ total_of tally + 1 = total_after tally (frame_of (frame_in rules n l)) in
      let one : full_sheet - total_of tally ≡ suc (full_sheet - total_of (tally_in rules tally (air_in l) (payload_in n l))) = omega arith in
      ap₂ (λ (k : ℕ) (fs : List Frame). take k fs) one (frames_more rules l n e)

  taken_none : (tally : Tally) (l : List ℕ) (ended : Ended Ending) → Halts (full_at tally) l ended → taken_in tally l ≡ []
  unfolding taken_in
  taken_none tally l ended (filled {n} e g) =
      let none : full_sheet - total_of tally ≡ 0 = omega (arith, leb-true full_sheet (total_of tally) g) in
      ap (λ (k : ℕ). take k (frames_in rules l)) none
  taken_none tally l ended (long e) = ap (take (full_sheet - total_of tally)) (frames_long rules l e) ∙ take_none (full_sheet - total_of tally)
  taken_none tally l ended (early e) = ap (take (full_sheet - total_of tally)) (frames_short rules l e) ∙ take_none (full_sheet - total_of tally)

  pub record AsListed (s : Totals) (l : List ℕ) : Type 0 where
    pub sheet : (walk_of (sheet_walk rules) s l).state.sheet ≡ count_all s.sheet (taken_in s.tally l)
    pub tally : (walk_of (sheet_walk rules) s l).state.tally ≡ (walk_of (list_walk rules) s.tally l).state
    pub text : (walk_of (sheet_walk rules) s l).text ≡ []
    pub rest : (walk_of (sheet_walk rules) s l).rest ≡ (walk_of (list_walk rules) s.tally l).rest

  -- both walks stop at the same record
  list_stopped : (s : Totals) (l : List ℕ) (ended : Ended Ending) → Stopped (sheet_walk rules) s l ended → Stopped (list_walk rules) s.tally l ended
  list_stopped s l ended (halted e) = halted e
  list_stopped s l ended (short e) = short e

  stops : (s : Totals) (l : List ℕ) (ended : Ended Ending) → Stopped (sheet_walk rules) s l ended → AsListed s l
  stops s l ended over =
      let here = walk_stops (sheet_walk rules) sheet_sound s l ended over in
      let there = walk_stops (list_walk rules) (list_sound rules) s.tally l ended (list_stopped s l ended over) in
      record {
        sheet = rw (here, taken_none s.tally l ended (halts (sheet_reading rules) s l ended over));
        tally = rw (here, there);
        text = rw here;
        rest = rw (here, there);
      }

  takes : (s : Totals) (l : List ℕ) (n : ℕ) → (sheet_walk rules).cut s l ≡ whole n → AsListed (totals_in rules s (air_in l) (payload_in n l)) (drop (record_size n) l) → AsListed s l
  takes s l n e more =
      let here = walk_takes (sheet_walk rules) sheet_sound s l n e in
      let there = walk_takes (list_walk rules) (list_sound rules) s.tally l n e in
      let front = front_whole (totals_full s) l n e in
      record {
        sheet = rw (here, taken_more s.tally l n front.0 front.1) more.sheet;
        tally = rw (here, there) more.tally;
        text = rw here more.text;
        rest = rw (here, there) more.rest;
      }

  pub as_listed : (s : Totals) (l : List ℕ) → AsListed s l
  as_listed = by_items (sheet_walk rules) sheet_sound AsListed stops takes
