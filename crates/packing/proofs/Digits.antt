-- Letters as digits: the loops that look for a letter, for one that is no digit, and that put the bytes of digits.
-- Assumes nothing.
use Rattle.std.proofs.Common.{◌≡◌, ℕ, suc, ◌+◌, ◌*◌, ◌/◌, ◌<◌, ◌≤◌, Bool, eqb, leb, List, [], ◌∷◌, ◌++◌, length, get_or, drop, set, sym, refl, ◌∙◌, append_assoc, append-nil, zero-le, add-one, arith, length-drop, length-set, drop_of_length-le, drop-cons, eq-eqb, ne_eqb, le-leb, leb-false}
use borrow.Author.Tests.{lt-leb}
use Rattle.base.specs.Lists.{place_in}
use Rattle.base.proofs.Lowest.{Passed, starts, goes_on, stops, ends, lowest_is}
use Rattle.text.specs.Text.{Put}
use Rattle.text.proofs.Laid.{put_none, put_then, laid_one}
use Rattle.packing.specs.Digits.{digit_value, digits_ahead, AreDigits, bits_in, bytes_in}

-- THE FIRST SUCH LETTER
abbrev pub is_mark : List ℕ → ℕ → ℕ → Bool
is_mark l mark k = eqb mark (get_or l k 0)

abbrev pub Finding : List ℕ → ℕ → ℕ → Type 0
Finding l mark i = Passed (length l) (is_mark l mark) i

pub find_starts : (l : List ℕ) (mark : ℕ) → Finding l mark 0
find_starts l mark = starts (length l) (is_mark l mark)

module _ (l : List ℕ) (mark i : ℕ) (so : Finding l mark i) where
  pub find_goes_on : i < length l → (get_or l i 0 ≡ mark → ⊥) → Finding l mark (i + 1)
  find_goes_on h other = goes_on (length l) (is_mark l mark) i so h (ne_eqb mark (get_or l i 0) (λ e. other (sym e)))

  pub find_stops : i < length l → get_or l i 0 ≡ mark → i ≡ place_in l mark
  find_stops h same = stops (length l) (is_mark l mark) i so h (eq-eqb mark (get_or l i 0) (sym same))

  pub find_ends : length l ≤ i → i ≡ place_in l mark
  find_ends h = ends (length l) (is_mark l mark) i so h

pub place_inside : (l : List ℕ) (mark : ℕ) → place_in l mark ≤ length l
place_inside l mark = (lowest_is (is_mark l mark) (length l)).inside

-- THE FIRST LETTER THAT IS NO DIGIT
abbrev pub is_none : ℕ → List ℕ → ℕ → Bool
is_none base l k = leb base (digit_value (get_or l k 0))

abbrev pub Ahead : ℕ → List ℕ → ℕ → Type 0
Ahead base l i = Passed (length l) (is_none base l) i

pub ahead_starts : (base : ℕ) (l : List ℕ) → Ahead base l 0
ahead_starts base l = starts (length l) (is_none base l)

module _ (base : ℕ) (l : List ℕ) (i : ℕ) (so : Ahead base l i) where
  module _ (v : ℕ) (is : v ≡ digit_value (get_or l i 0)) where
    pub ahead_goes_on : i < length l → v < base → Ahead base l (i + 1)
    ahead_goes_on h small = goes_on (length l) (is_none base l) i so h (rw (← is) (lt-leb base v small))

    pub ahead_stops : i < length l → base ≤ v → i ≡ digits_ahead base l
    unfolding digits_ahead
    ahead_stops h large = stops (length l) (is_none base l) i so h (rw (← is) (le-leb base v large))

  pub ahead_ends : length l ≤ i → i ≡ digits_ahead base l
  unfolding digits_ahead
  ahead_ends h = ends (length l) (is_none base l) i so h

-- where none is found, all are digits
pub all_digits : (base : ℕ) (l : List ℕ) → length l ≤ digits_ahead base l → AreDigits base l
unfolding digits_ahead
all_digits base l all = record { each = λ k h. leb-false base (digit_value (get_or l k 0)) ((lowest_is (is_none base l) (length l)).before k (omega (arith, all))) }

-- THE BYTES OF DIGITS
put_one : (m : List ℕ) (to x : ℕ) → to < length m → Put m to (x ∷ []) (set m to x) (to + 1)
put_one m to x h = record { bytes = sym (laid_one m to x h); place = refl; fits = omega arith; kept = length-set m to x }

-- the bytes of the first i digits are put; `bytes` are those of all, and `left` those of the others
pub record Bytes (before : List ℕ) (at : ℕ) (bytes left letters out : List ℕ) (to i : ℕ) : Type 0 where
  pub inside : i ≤ length letters
  pub room : at + length letters ≤ length before
  pub behind : to ≤ at + i
  pub text : List ℕ
  pub put : Put before at text out to
  pub all : bytes ≡ text ++ left

pub bytes_start : (before : List ℕ) (at : ℕ) (bytes letters : List ℕ) → at + length letters ≤ length before → Bytes before at bytes bytes letters before at 0
bytes_start before at bytes letters room = record { inside = zero-le; room = room; behind = omega arith; text = []; put = put_none (omega arith); all = refl }

-- one byte more, for so many digits
module _ (before : List ℕ) (at : ℕ) (bytes left letters out : List ℕ) (to i : ℕ) (so : Bytes before at bytes left letters out to i) where
  byte_more : (x : ℕ) (others : List ℕ) (j : ℕ) → left ≡ x ∷ others → i < j → j ≤ length letters → Bytes before at bytes others letters (set out to x) (to + 1) j
  byte_more x others j is more in_letters =
      record {
        inside = in_letters;
        room = so.room;
        behind = omega (arith, so.behind);
        text = so.text ++ (x ∷ []);
        put = put_then so.put (put_one out to x (omega (arith, so.behind, so.room, so.put.kept)));
        all = so.all ∙ rw (is, append_assoc);
      }

  bytes_end : left ≡ [] → Put before at bytes out to
  bytes_end none = rw (so.all, none, append-nil) so.put

  pub bytes_room : i < length letters → to < length out
  bytes_room h = omega (arith, so.behind, so.room, so.put.kept)

  pub bytes_short : to ≤ at + length letters
  bytes_short = omega (arith, so.behind, so.inside)

-- a byte for each digit
module _ (before : List ℕ) (at : ℕ) (l out : List ℕ) (to i : ℕ) (so : Bytes before at (bits_in l) (bits_in (drop i l)) l out to i) where
  pub bits_go_on : (x : ℕ) → x ≡ digit_value (get_or l i 0) → i < length l → Bytes before at (bits_in l) (bits_in (drop (i + 1) l)) l (set out to x) (to + 1) (i + 1)
  bits_go_on x is h = byte_more before at (bits_in l) (bits_in (drop i l)) l out to i so x (bits_in (drop (i + 1) l)) (i + 1) (rw (drop-cons l i 0 h, add-one i, is)) (omega arith) (omega arith)

  pub bits_end : length l ≤ i → Put before at (bits_in l) out to
  bits_end h = bytes_end before at (bits_in l) (bits_in (drop i l)) l out to i so (rw (drop_of_length-le l {i = i} h))

-- a byte for every two
pub none_of_one : (l : List ℕ) → length l ≤ 1 → bytes_in l ≡ []
none_of_one [] h = refl
none_of_one (x ∷ []) h = refl
none_of_one (x ∷ y ∷ l) h = absurd (omega arith)

module _ (before : List ℕ) (at : ℕ) (l out : List ℕ) (to k : ℕ) (so : Bytes before at (bytes_in l) (bytes_in (drop (2 * k) l)) l out to (2 * k)) where
  pub hex_goes_on : (x : ℕ) → x ≡ digit_value (get_or l (2 * k) 0) * 16 + digit_value (get_or l (2 * k + 1) 0) → k < length l / 2
      → Bytes before at (bytes_in l) (bytes_in (drop (2 * (k + 1)) l)) l (set out to x) (to + 1) (2 * (k + 1))
  hex_goes_on x is h =
      let i : ℕ = 2 * k in
      let next : 2 * (k + 1) ≡ suc (suc i) = omega arith in
      let second : drop (suc i) l ≡ get_or l (suc i) 0 ∷ drop (suc (suc i)) l = drop-cons l (suc i) 0 (omega arith) in
      byte_more before at (bytes_in l) (bytes_in (drop i l)) l out to i so x (bytes_in (drop (2 * (k + 1)) l)) (2 * (k + 1))
      (rw (drop-cons l i 0 (omega arith), second, next, is, add-one i)) (omega arith) (omega arith)

  pub hex_room : k < length l / 2 → to < length out
  hex_room h = bytes_room before at (bytes_in l) (bytes_in (drop (2 * k) l)) l out to (2 * k) so (omega arith)

  pub hex_ends : length l / 2 ≤ k → Put before at (bytes_in l) out to
  hex_ends h = bytes_end before at (bytes_in l) (bytes_in (drop (2 * k) l)) l out to (2 * k) so (none_of_one (drop (2 * k) l) (rw length-drop (omega arith)))

module _ (l : List ℕ) (k : ℕ) (are : AreDigits 16 l) (h : k < length l / 2) where
  pub high_digit : digit_value (get_or l (2 * k) 0) < 16
  high_digit = are.each (2 * k) (omega arith)

  pub low_digit : digit_value (get_or l (2 * k + 1) 0) < 16
  low_digit = are.each (2 * k + 1) (omega arith)
