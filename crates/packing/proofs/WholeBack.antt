-- THE WAY BACK OF A WHOLE INPUT: its lines pack to its records, and with the bytes that are left these are the input.
-- Assumes nothing.
use Rattle.std.proofs.Common.{◌≡◌, ℕ, zero, suc, ◌+◌, ◌/◌, ◌%◌, ◌<◌, ◌≤◌, false, List, [], ◌∷◌, ◌++◌, length, get_or, take, drop, sym, refl, ap, ◌∙◌, subst, ⊎_elim, append_assoc, append-nil, arith, length-drop, take-append-drop, length-take-le, get_or-drop, drop-cons, get_or-take, drop-drop}
use lib.ListN.{get_or-eq_default}
use Rattle.base.proofs.Tests.{lt_or_ge}
use Rattle.air.specs.Air.{air_bits}
use Rattle.walk.specs.Walks.{whole, Ended, waiting, Walked, halt, behind, walk_of}
use Rattle.walk.proofs.Walking.{Stopped, short, walk_stops, walk_takes, by_items}
use Rattle.record.specs.declared.Cut.TheVariants.{Record}
use Rattle.record.specs.Records.{length_bytes, air_in, payload_start, payload_in, record_size, cut_of, length_of}
use Rattle.record.specs.declared.Ending.{Ending}
use Rattle.record.proofs.Cuts.{WholeAt, whole_at}
use Rattle.record.proofs.Walking.{front_whole}
use Rattle.unpacking.specs.Lines.{text_line_in}
use Rattle.unpacking.specs.Unpacking.{line_walk, unpacked_of, scan_of as unpackScan}
use Rattle.unpacking.proofs.Streaming.{line_sound}
use Rattle.packing.specs.Lines.{Judged, passed_over, end_in, pack_of}
use Rattle.packing.specs.Packing.{lines_after, pack_walk}
use Rattle.packing.specs.Pieces.{whole_packed}
use Rattle.packing.proofs.Streaming.{pack_sound}
use Rattle.packing.proofs.Letters.{AreBytes}
use Rattle.packing.proofs.RoundTrip.{unpack_pack}

bytes_drop : (n : ℕ) (l : List ℕ) → AreBytes l → AreBytes (drop n l)
bytes_drop n l are k = rw (get_or-drop n l k 0) (are (n + k))

bytes_take : (n : ℕ) (l : List ℕ) → AreBytes l → AreBytes (take n l)
bytes_take n l are k =
    ⊎_elim (λ (h : k < n). rw (get_or-take n l k 0 h) (are k))
    (λ (h : n ≤ k). ⊎_elim (λ (in-l : k < length (take n l)). absurd (omega (arith, short n l))) (λ (out : length (take n l) ≤ k). rw (get_or-eq_default (take n l) 0 {n = k} out) (omega arith)) (lt_or_ge k (length (take n l))))
    (lt_or_ge k n)
  where
    short : (n : ℕ) (l : List ℕ) → length (take n l) ≤ n
    short zero l = omega arith
    short (suc n) [] = omega arith
    short (suc n) (x ∷ l) = omega (arith, short n l)

-- two parts and the rest are the whole
parts_whole : (a n : ℕ) (m : List ℕ) → take a m ++ (take n (drop a m) ++ drop (a + n) m) ≡ m
parts_whole a n m = rw (← drop-drop n a m, take-append-drop n (drop a m)) (take-append-drop a m)

module _ (l : List ℕ) (n : ℕ) (e : cut_of l ≡ Record n) (are : AreBytes l) where
  so : WholeAt l n
  so = whole_at l n e

  -- a record's bytes, and those after it
  record_whole : length_of n ++ air_in l ++ payload_in n l ++ drop (record_size n) l ≡ l
  record_whole =
      let high : n / 256 ≡ get_or l 0 0 = omega (arith, so.is, are 1) in
      let low : n % 256 ≡ get_or l 1 0 = omega (arith, so.is, are 1) in
      let two : l ≡ get_or l 0 0 ∷ get_or l 1 0 ∷ drop 2 l = drop-cons l 0 0 (omega (arith, so.there)) ∙ ap (λ (t : List ℕ). get_or l 0 0 ∷ t) (drop-cons l 1 0 (omega (arith, so.there))) in
      let past : drop air_bits (drop 2 l) ≡ drop payload_start l = drop-drop air_bits 2 l in
      let size : 2 + (air_bits + n) ≡ record_size n = omega arith in
      let end : drop (air_bits + n) (drop 2 l) ≡ drop (record_size n) l = drop-drop (air_bits + n) 2 l ∙ ap (λ (k : ℕ). drop k l) size in
      let rest : air_in l ++ (payload_in n l ++ drop (record_size n) l) ≡ drop 2 l = rw (← past, ← end) (parts_whole air_bits n (drop 2 l)) in
      append_assoc (length_of n ++ air_in l) (payload_in n l) (drop (record_size n) l)
      ∙ append_assoc (length_of n) (air_in l) (payload_in n l ++ drop (record_size n) l)
      ∙ rw (rest, high, low) (sym two)

  payload_long : length (payload_in n l) ≡ n
  payload_long = length-take-le n (drop payload_start l) (omega (arith, so.there, length-drop payload_start l))

  -- its line, whatever follows it
  record_back : (lines : ℕ) (rest : List ℕ) → walk_of pack_walk lines (text_line_in n l ++ rest) ≡ behind (length_of n ++ air_in l ++ payload_in n l) (walk_of pack_walk (lines_after lines 1) rest)
  record_back lines rest =
      rw payload_long at
      (unpack_pack (air_in l) (payload_in n l) (length-take-le air_bits (drop length_bytes l) (omega (arith, so.there, length-drop length_bytes l)))
      (omega (arith, payload_long, so.within))
      (bytes_take air_bits (drop length_bytes l) (bytes_drop length_bytes l are))
      (bytes_take n (drop payload_start l) (bytes_drop payload_start l are)) lines rest)

nothing_packed : (lines : ℕ) → walk_of pack_walk lines [] ≡ halt lines [] waiting
nothing_packed lines = walk_stops pack_walk pack_sound lines [] waiting (short (pack_sound.none lines))

-- what an unpacked input packs to after some lines, with what is left of it
abbrev bytes_back : ℕ → Walked (Unit {0}) Ending → List ℕ
bytes_back lines w = (walk_of pack_walk lines w.text).text ++ w.rest

-- no record, and one more
none_back : (lines : ℕ) (l : List ℕ) (ended : Ended Ending) → Stopped line_walk tt l ended → bytes_back lines (unpackScan l) ≡ l
none_back lines l ended stopped = ap (bytes_back lines) (walk_stops line_walk line_sound tt l ended stopped) ∙ ap (λ (p : Walked ℕ Judged). p.text ++ l) (nothing_packed lines)

one_back : (lines : ℕ) (l : List ℕ) (n : ℕ) → line_walk.cut tt l ≡ whole n → AreBytes l
    → bytes_back (lines_after lines 1) (unpackScan (drop (record_size n) l)) ≡ drop (record_size n) l → bytes_back lines (unpackScan l) ≡ l
one_back lines l n item are more =
    let e : cut_of l ≡ Record n = (front_whole false l n item).0 in
    let next : Walked (Unit {0}) Ending = unpackScan (drop (record_size n) l) in
    let bytes : List ℕ = length_of n ++ air_in l ++ payload_in n l in
    ap (bytes_back lines) (walk_takes line_walk line_sound tt l n item)
    ∙ ap (λ (p : Walked ℕ Judged). p.text ++ next.rest) (record_back l n e are lines next.text)
    ∙ append_assoc bytes (walk_of pack_walk (lines_after lines 1) next.text).text next.rest
    ∙ ap (λ (t : List ℕ). bytes ++ t) more
    ∙ record_whole l n e are

-- the lines of an input pack to its records: they and what is left are the input
pub whole_back : (input : List ℕ) → AreBytes input → bytes_back 0 (unpackScan input) ≡ input
whole_back input are =
    by_items line_walk line_sound (λ s l. (lines : ℕ) → AreBytes l → bytes_back lines (unpackScan l) ≡ l)
    (λ s l ended stopped lines are. none_back lines l ended stopped)
    (λ s l n item more lines are. one_back lines l n item are (more (lines_after lines 1) (bytes_drop (record_size n) l are))) tt input 0 are

-- what holds where nothing is packed, and after one line more, holds of all lines of an input
module _ (P : Walked ℕ Judged → Type 0) (none : (lines : ℕ) → P (halt lines [] waiting)) (one_more : (bytes : List ℕ) (w : Walked ℕ Judged) → P w → P (behind bytes w)) where
  every_line : (input : List ℕ) → AreBytes input → P (walk_of pack_walk 0 (unpacked_of input))
  every_line input are =
      by_items line_walk line_sound (λ s l. (lines : ℕ) → AreBytes l → P (walk_of pack_walk lines (unpackScan l).text))
      (λ s l ended stopped lines are.
      subst P (sym (ap (λ (w : Walked (Unit {0}) Ending). walk_of pack_walk lines w.text) (walk_stops line_walk line_sound tt l ended stopped) ∙ nothing_packed lines)) (none lines))
      (λ s l n item more lines are.
      let next : List ℕ = (unpackScan (drop (record_size n) l)).text in
      subst P
      (sym (ap (λ (w : Walked (Unit {0}) Ending). walk_of pack_walk lines w.text) (walk_takes line_walk line_sound tt l n item) ∙ record_back l n (front_whole false l n item).0 are lines next))
      (one_more (length_of n ++ air_in l ++ payload_in n l) (walk_of pack_walk (lines_after lines 1) next) (more (lines_after lines 1) (bytes_drop (record_size n) l are)))) tt input 0 are

-- and none of these lines is wrong, or without its end
pub all_well : (input : List ℕ) → AreBytes input → (walk_of pack_walk 0 (unpacked_of input)).ended ≡ waiting
all_well = every_line (λ w. w.ended ≡ waiting) (λ lines. refl) (λ bytes w e. e)

pub all_ended : (input : List ℕ) → AreBytes input → (walk_of pack_walk 0 (unpacked_of input)).rest ≡ []
all_ended = every_line (λ w. w.rest ≡ []) (λ lines. refl) (λ bytes w e. e)

-- SO what is written for these lines is the records of the input
no_letters : (pack_of []).bytes ≡ []
unfolding pack_of passed_over end_in
no_letters = refl

pub packed_back : (input : List ℕ) → AreBytes input → (whole_packed (unpacked_of input)).text ++ (unpackScan input).rest ≡ input
unfolding whole_packed
packed_back input are = rw (all_well input are, all_ended input are, no_letters, append-nil) (whole_back input are)
