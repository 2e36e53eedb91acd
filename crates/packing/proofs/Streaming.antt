-- THE RECORDS OF PIECES: however the lines are cut into pieces, the records are those of the whole, and so is what is told at the end.
-- Assumes nothing.
use Rattle.std.specs.Prelude.{Ok, Err}
use Rattle.std.proofs.Common.{◌≡◌, ℕ, ◌+◌, ◌^◌, ◌<◌, ◌≤◌, eqb, List, [], ◌++◌, length, take, sym, refl, ap, ◌∙◌, ⊎_elim, true≢false, arith, length-append}
use mathlib.Core.List.{flatten}
use lib.ListN.{get_or-append}
use lib.Seq.{take-append-le}
use Rattle.base.specs.Lists.{place_in}
use Rattle.base.proofs.Lowest.{lowest_is, lowest_only}
use Rattle.base.proofs.Tests.{lt_or_ge}
use Rattle.walk.specs.Walks.{Front as WalkFront, whole, stops, waits, Ended, waiting, stopped}
use Rattle.walk.proofs.Walking.{Sound}
use Rattle.walk.proofs.Feeding.{fed_whole}
use Rattle.packing.specs.declared.Front.{Front}
use Rattle.packing.specs.declared.Front.TheVariants.{Line, TooLong, Unended}
use Rattle.packing.specs.Lines.{Judged, longest_line, pack_of}
use Rattle.packing.specs.Packing.{front_of, judged_front, lines_after, line_front, pack_walk, scan_of}
use Rattle.packing.specs.Pieces.{closed_of, whole_packed, streamed_of}
use Rattle.packing.proofs.Digits.{is_mark, place_inside}
use Rattle.packing.proofs.Fronts.{next_long, next_whole, LineAt, line_at, long_at, unended_at, no_bytes}

-- WHAT STANDS AT THE FRONT STAYS, whatever follows, unless the line has not ended
module _ (mark : ℕ) (l f : List ℕ) where
  same_mark : (k : ℕ) → k < length l → is_mark (l ++ f) mark k ≡ is_mark l mark k
  same_mark k h = ap (λ (x : ℕ). eqb mark x) (get_or-append l f 0 k h)

  -- a mark that is found stays the first
  place_stays : place_in l mark < length l → place_in (l ++ f) mark ≡ place_in l mark
  place_stays h =
      let low = lowest_is (is_mark l mark) (length l) in
      lowest_only (is_mark (l ++ f) mark) (length (l ++ f)) (place_in (l ++ f) mark) (place_in l mark) (lowest_is (is_mark (l ++ f) mark) (length (l ++ f)))
      (record {
        inside = omega (arith, length-append l f);
        before = λ k less. same_mark k (omega arith) ∙ low.before k less;
        passes = λ in_all. same_mark (place_in l mark) h ∙ low.passes h;
      })

  -- and none comes before the place where a search ended
  place_grows : place_in l mark ≤ place_in (l ++ f) mark
  place_grows =
      ⊎_elim
      (λ (less : place_in (l ++ f) mark < place_in l mark).
      let in-l : place_in (l ++ f) mark < length l = omega (arith, place_inside l mark) in
      absurd (true≢false
      (sym ((lowest_is (is_mark (l ++ f) mark) (length (l ++ f))).passes (omega (arith, length-append l f)))
      ∙ same_mark (place_in (l ++ f) mark) in-l
      ∙ (lowest_is (is_mark l mark) (length l)).before (place_in (l ++ f) mark) less)))
      (λ (more : place_in l mark ≤ place_in (l ++ f) mark). more)
      (lt_or_ge (place_in (l ++ f) mark) (place_in l mark))

module _ (l f : List ℕ) where
  long_stays : front_of l ≡ TooLong → front_of (l ++ f) ≡ TooLong
  long_stays e = sym (next_long (l ++ f) (place_in (l ++ f) 10) refl (omega (arith, long_at l e, place_grows 10 l f)))

  module _ (n : ℕ) (e : front_of l ≡ Line n) where
    so : LineAt l n
    so = line_at l n e

    line_stays : front_of (l ++ f) ≡ Line n
    line_stays =
        let found : place_in l 10 < length l = omega (arith, so.is, so.there) in
        let same : n ≡ place_in (l ++ f) 10 = sym (place_stays 10 l f found ∙ so.is) in
        sym (next_whole (l ++ f) n same so.within (omega (arith, so.there, length-append l f)))

    letters_stay : take n (l ++ f) ≡ take n l
    letters_stay = take-append-le n l f (omega (arith, so.there))

-- WHAT A FRONT SAYS of the bytes
whole_stops : {i : ℕ} {why : Judged} → whole i ≡ stops why → ⊥
whole_stops e = let z : ◌≡◌ {A = ℕ} 0 1 = cc in omega arith

whole_waits : {i : ℕ} → ◌≡◌ {A = WalkFront ℕ Judged} (whole i) waits → ⊥
whole_waits e = let z : ◌≡◌ {A = ℕ} 0 1 = cc in omega arith

stops_waits : {why : Judged} → ◌≡◌ {A = WalkFront ℕ Judged} (stops why) waits → ⊥
stops_waits e = let z : ◌≡◌ {A = ℕ} 0 1 = cc in omega arith

judged_whole : (m n : ℕ) (j : Judged) → judged_front m j ≡ whole n → m ≡ n
judged_whole m n (Ok u) e = cc
judged_whole m n (Err why) e = absurd (whole_stops (sym e))

judged_waits : (m : ℕ) (j : Judged) → judged_front m j ≡ waits → ⊥
judged_waits m (Ok u) e = whole_waits e
judged_waits m (Err why) e = stops_waits e

front_whole : (l : List ℕ) (n : ℕ) → line_front l (front_of l) ≡ whole n → front_of l ≡ Line n
front_whole l n e = by (front_of l) refl e
  where
    by : (f : Front) → front_of l ≡ f → line_front l f ≡ whole n → front_of l ≡ Line n
    by (Line m) is e = is ∙ ap Line (judged_whole m n (pack_of (take m l)).judged e)
    by TooLong is e = absurd (whole_stops (sym e))
    by Unended is e = absurd (whole_waits (sym e))

front_waits : (l : List ℕ) → line_front l (front_of l) ≡ waits → front_of l ≡ Unended
front_waits l e = by (front_of l) refl e
  where
    by : (f : Front) → front_of l ≡ f → line_front l f ≡ waits → front_of l ≡ Unended
    by Unended is e = is
    by TooLong is e = absurd (stops_waits e)
    by (Line m) is e = absurd (judged_waits m (pack_of (take m l)).judged e)

-- unless the line has not ended
front_stays : (l f : List ℕ) (front : WalkFront ℕ Judged) → (front ≡ waits → ⊥) → line_front l (front_of l) ≡ front → line_front (l ++ f) (front_of (l ++ f)) ≡ front
front_stays l f front told e = by (front_of l) refl e
  where
    by : (at : Front) → front_of l ≡ at → line_front l at ≡ front → line_front (l ++ f) (front_of (l ++ f)) ≡ front
    by (Line n) is e = ap (line_front (l ++ f)) (line_stays l f n is) ∙ ap (λ (line : List ℕ). judged_front n (pack_of line).judged) (letters_stay l f n is) ∙ e
    by TooLong is e = ap (line_front (l ++ f)) (long_stays l f is) ∙ e
    by Unended is e = absurd (told (sym e))

-- what is left where more lines may come is no longer than a line
pub waits_short : (lines : ℕ) (l : List ℕ) → pack_walk.cut lines l ≡ waits → length l < longest_line + 1
waits_short lines l e = omega (arith, unended_at l (front_waits l e))

pub pack_sound : Sound pack_walk
pack_sound = record {
  some = λ s l n e. omega arith;
  there = λ s l n e. omega (arith, (line_at l n (front_whole l n e)).there);
  none = λ s. ap (line_front []) (no_bytes [] (omega arith));
  whole_stays = λ s l f n e. front_stays l f (whole n) whole_waits e;
  stop_stays = λ s l f why e. front_stays l f (stops why) stops_waits e;
  next_stays = λ s l f n e. refl;
  text_stays = λ s l f n e. ap (λ (line : List ℕ). (pack_of line).bytes) (letters_stay l f n (front_whole l n e));
}

-- however the lines are cut into pieces, the records that are written are those of the whole, and the same line is told, and what is
-- wrong with it
pub whole_packing : (pieces : List (List ℕ)) → streamed_of pieces ≡ whole_packed (flatten pieces)
unfolding streamed_of whole_packed
whole_packing pieces = fed_whole pack_walk pack_sound closed_of (λ s l f why e. refl) 0 pieces

-- the line that is told is the one after those that were packed
closed_line : (lines : ℕ) (ended : Ended Judged) (rest : List ℕ) → (closed_of lines ended rest).told.line ≡ lines_after lines 1
closed_line lines waiting rest = refl
closed_line lines (stopped judged) rest = refl

pub told_line : (input : List ℕ) → (scan_of input).state + 1 < 2 ^ 64 → (whole_packed input).told.line ≡ (scan_of input).state + 1
unfolding whole_packed
told_line input small = omega (arith, closed_line (scan_of input).state (scan_of input).ended (scan_of input).rest)
