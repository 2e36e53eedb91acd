-- The letters of digits come back: each is worth its digit, and none is a space, a line feed, a carriage return or `#`.
-- Assumes nothing.
use Rattle.std.proofs.Common.{◌≡◌, ℕ, zero, suc, ◌+◌, ◌-◌, ◌*◌, ◌/◌, ◌%◌, ◌<◌, ◌≤◌, List, [], ◌∷◌, ◌++◌, length, get_or, sym, refl, ap, ◌∙◌, ⊎_elim, arith, length-append, get_or-append-add, le-ltb, lt-ltb, eq-eqb, ne_eqb, le-leb}
use lib.ListN.{get_or-append, get_or-eq_default}
use lib.Seq.{get_or-append_seam}
use borrow.Author.Tests.{lt-leb}
use Rattle.base.specs.Lists.{AreBits, place_in}
use Rattle.base.proofs.Tests.{lt_or_ge}
use Rattle.base.proofs.Lowest.{lowest_is, lowest_only, lowest_none}
use Rattle.text.specs.Text.{letter_of, fixed_of}
use Rattle.unpacking.specs.Lines.{bit_digits, hex_digits}
use Rattle.packing.specs.Digits.{no_digit, digit_value, digits_ahead, AreDigits, bits_in, bytes_in}
use Rattle.packing.proofs.Digits.{is_mark, is_none}

-- a letter is worth its digit
low_back : (d : ℕ) → d < 10 → digit_value (48 + d) ≡ d
unfolding digit_value
low_back d h = rw (le-ltb (48 + d) 48 (omega arith), le-leb (48 + d) 57 (omega arith)) (omega arith)

high_back : (d : ℕ) → 10 ≤ d → d < 16 → digit_value (87 + d) ≡ d
unfolding digit_value
high_back d h few =
    rw (le-ltb (87 + d) 48 (omega arith), lt-leb (87 + d) 57 (omega arith), le-ltb (87 + d) 65 (omega arith), lt-leb (87 + d) 70 (omega arith), le-ltb (87 + d) 97 (omega arith), le-leb (87 + d) 102 (omega arith))
    (omega arith)

pub value_back : (d : ℕ) → d < 16 → digit_value (letter_of d) ≡ d
value_back d few =
    ⊎_elim (λ (h : d < 10). rw (lt-ltb d 10 h) (low_back d h))
    (λ (h : 10 ≤ d). rw (le-ltb d 10 h) (high_back d h few))
    (lt_or_ge d 10)

-- the digits of a bit, and of a byte
bit_letters : (b : ℕ) → fixed_of 2 1 b ≡ letter_of (b % 2) ∷ []
unfolding fixed_of
bit_letters b = refl

hex_letters : (b : ℕ) → fixed_of 16 2 b ≡ letter_of (b / 16 % 16) ∷ letter_of (b % 16) ∷ []
unfolding fixed_of
hex_letters b = refl

-- all are bytes
abbrev pub AreBytes : List ℕ → Type 0
AreBytes l = (k : ℕ) → get_or l k 0 < 256

pub bits_length : (l : List ℕ) → length (bit_digits l) ≡ length l
bits_length [] = refl
bits_length (b ∷ l) = rw (bit_letters b, bits_length l)

pub hex_length : (l : List ℕ) → length (hex_digits l) ≡ 2 * length l
hex_length [] = refl
hex_length (b ∷ l) = rw (hex_letters b) (omega (arith, hex_length l))

-- they come back
pub bits_back : (l : List ℕ) → AreBits l → bits_in (bit_digits l) ≡ l
bits_back [] are = refl
bits_back (b ∷ l) are =
    let one : digit_value (letter_of (b % 2)) ≡ b = value_back (b % 2) (omega arith) ∙ omega (arith, are 0) in
    rw (bit_letters b, one, bits_back l (λ k. are (suc k)))

pub hex_back : (l : List ℕ) → AreBytes l → bytes_in (hex_digits l) ≡ l
hex_back [] are = refl
hex_back (b ∷ l) are =
    let one : digit_value (letter_of (b / 16 % 16)) * 16 + digit_value (letter_of (b % 16)) ≡ b =
    rw (value_back (b / 16 % 16) (omega arith), value_back (b % 16) (omega arith)) (omega (arith, are 0)) in
    rw (hex_letters b, one, hex_back l (λ k. are (suc k)))

-- all of them are digits
letter_lt : (base d : ℕ) → d < base → base ≤ 16 → digit_value (letter_of d) < base
letter_lt base d h few = rw (value_back d (omega arith)) h

abbrev Each : ℕ → List ℕ → Type 0
Each base l = (k : ℕ) → k < length l → digit_value (get_or l k 0) < base

each_bit : (l : List ℕ) → Each 2 (bit_digits l)
each_bit [] k h = absurd (omega arith)
each_bit (b ∷ l) k h = by (λ j. each_bit l j) k (rw (bit_letters b) at h)
  where
    by : Each 2 (bit_digits l) → (k : ℕ) → k < length (letter_of (b % 2) ∷ bit_digits l) → digit_value (get_or (fixed_of 2 1 b ++ bit_digits l) k 0) < 2
    by more zero h = rw (bit_letters b) (letter_lt 2 (b % 2) (omega arith) (omega arith))
    by more (suc k) h = rw (bit_letters b) (more k (omega arith))

each_hex : (l : List ℕ) → Each 16 (hex_digits l)
each_hex [] k h = absurd (omega arith)
each_hex (b ∷ l) k h = by (λ j. each_hex l j) k (rw (hex_letters b) at h)
  where
    by : Each 16 (hex_digits l) → (k : ℕ) → k < length (letter_of (b / 16 % 16) ∷ letter_of (b % 16) ∷ hex_digits l) → digit_value (get_or (fixed_of 16 2 b ++ hex_digits l) k 0) < 16
    by more zero h = rw (hex_letters b) (letter_lt 16 (b / 16 % 16) (omega arith) (omega arith))
    by more (suc zero) h = rw (hex_letters b) (letter_lt 16 (b % 16) (omega arith) (omega arith))
    by more (suc (suc k)) h = rw (hex_letters b) (more k (omega arith))

pub bits_are : (l : List ℕ) → AreDigits 2 (bit_digits l)
bits_are l = record { each = each_bit l }

pub hex_are : (l : List ℕ) → AreDigits 16 (hex_digits l)
hex_are l = record { each = each_hex l }

pub ahead_all : (base : ℕ) (l : List ℕ) → AreDigits base l → digits_ahead base l ≡ length l
unfolding digits_ahead
ahead_all base l are = lowest_none (length l) (is_none base l) (λ k h. lt-leb base (digit_value (get_or l k 0)) (are.each k h))

-- A MARK is no digit, and is not what reads past the end
abbrev pub Free : ℕ → List ℕ → Type 0
Free mark l = (k : ℕ) → get_or l k 0 ≡ mark → ⊥

pub digits_free : (mark : ℕ) (l : List ℕ) → digit_value mark ≡ no_digit → 0 < mark → AreDigits 16 l → Free mark l
digits_free mark l none some are k e =
    ⊎_elim (λ (h : k < length l). absurd (let small : digit_value mark < 16 = rw (← e) (are.each k h) in omega arith))
    (λ (h : length l ≤ k). absurd (omega (arith, get_or-eq_default l 0 {n = k} h)))
    (lt_or_ge k (length l))

pub free_append : (mark : ℕ) (a b : List ℕ) → Free mark a → Free mark b → Free mark (a ++ b)
free_append mark a b in-a in_b k e =
    ⊎_elim (λ (h : k < length a). in-a k (sym (get_or-append a b 0 k h) ∙ e))
    (λ (h : length a ≤ k).
    let at : length a + (k - length a) ≡ k = omega arith in
    in_b (k - length a) (sym (get_or-append-add a b (k - length a) 0) ∙ ap (λ (n : ℕ). get_or (a ++ b) n 0) at ∙ e))
    (lt_or_ge k (length a))

pub free_cons : (mark x : ℕ) (l : List ℕ) → (x ≡ mark → ⊥) → Free mark l → Free mark (x ∷ l)
free_cons mark x l other free zero e = other e
free_cons mark x l other free (suc k) e = free k e

-- where a mark stands first
pub place_none : (mark : ℕ) (l : List ℕ) → Free mark l → place_in l mark ≡ length l
place_none mark l free = lowest_none (length l) (is_mark l mark) (λ k h. ne_eqb mark (get_or l k 0) (λ e. free k (sym e)))

pub place_after : (mark : ℕ) (l rest : List ℕ) → Free mark l → place_in (l ++ mark ∷ rest) mark ≡ length l
place_after mark l rest free =
    let all : List ℕ = l ++ mark ∷ rest in
    lowest_only (is_mark all mark) (length all) (place_in all mark) (length l) (lowest_is (is_mark all mark) (length all))
    (record {
      inside = omega (arith, length-append l (mark ∷ rest));
      before = λ k h. ne_eqb mark (get_or all k 0) (λ e. free k (sym (e ∙ get_or-append l (mark ∷ rest) 0 k h)));
      passes = λ h. eq-eqb mark (get_or all (length l) 0) (sym (get_or-append_seam l mark rest 0));
    })
