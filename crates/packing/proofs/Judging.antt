-- What is wrong with a line, by the tests passed, and what it says of a line that nothing is wrong.
-- Assumes nothing.
use Rattle.std.specs.Prelude.{Ok, Err}
use Rattle.std.proofs.Common.{◌≡◌, ℕ, ◌+◌, ◌%◌, ◌<◌, ◌≤◌, Bool, true, false, cond, eqb, ltb, List, [], ◌∷◌, length, sym, refl, arith, ltb-false, le-ltb, lt-ltb, eq-eqb, ne_eqb, eqb-true}
use Rattle.base.specs.Checks.{check, first}
use Rattle.air.specs.Air.{air_bits}
use Rattle.packing.specs.declared.Wrong.{Wrong}
use Rattle.packing.specs.declared.Fault.TheVariants.{NoHeader, NoBit, NoHexDigit, ManyBytes, OddDigits}
use Rattle.packing.specs.Digits.{digits_ahead, AreDigits}
use Rattle.packing.specs.Lines.{Judged, fine, wrong, header_digits, most_digits, header_judged, payload_judged, then_judged, judged_of}
use Rattle.packing.proofs.Digits.{all_digits}

-- BY THE TESTS
module _ (h : List ℕ) where
  module _ (size : length h ≡ air_bits) (k : ℕ) (is : k ≡ digits_ahead 2 h) where
    pub header_no_bit : k < length h → wrong NoBit (k + 1) ≡ header_judged h
    unfolding header_judged
    header_no_bit few = rw (eq-eqb (length h) air_bits size, ← is, lt-ltb k (length h) few)

    pub header_bits_lem : length h ≤ k → fine ≡ header_judged h
    unfolding header_judged
    header_bits_lem all = rw (eq-eqb (length h) air_bits size, ← is, le-ltb k (length h) all)

  module _ (other : length h ≡ air_bits → ⊥) where
    module _ (size : length h ≡ header_digits) (k : ℕ) (is : k ≡ digits_ahead 16 h) where
      pub header_no_digit : k < length h → wrong NoHexDigit (k + 1) ≡ header_judged h
      unfolding header_judged
      header_no_digit few = rw (ne_eqb (length h) air_bits other, eq-eqb (length h) header_digits size, ← is, lt-ltb k (length h) few)

      pub header_digits_lem : length h ≤ k → fine ≡ header_judged h
      unfolding header_judged
      header_digits_lem all = rw (ne_eqb (length h) air_bits other, eq-eqb (length h) header_digits size, ← is, le-ltb k (length h) all)

    pub header_none : (length h ≡ header_digits → ⊥) → wrong NoHeader (length h + 1) ≡ header_judged h
    unfolding header_judged
    header_none neither = rw (ne_eqb (length h) air_bits other, ne_eqb (length h) header_digits neither)

module _ (column : ℕ) (d : List ℕ) where
  pub payload_many : most_digits < length d → wrong ManyBytes (column + most_digits) ≡ payload_judged column d
  unfolding payload_judged
  payload_many many = rw (lt-ltb most_digits (length d) many)

  module _ (few : length d ≤ most_digits) (k : ℕ) (is : k ≡ digits_ahead 16 d) where
    pub payload_no_digit : k < length d → wrong NoHexDigit (column + k) ≡ payload_judged column d
    unfolding payload_judged
    payload_no_digit h = rw (le-ltb most_digits (length d) few, ← is, lt-ltb k (length d) h)

    module _ (all : length d ≤ k) where
      pub payload_odd : k % 2 ≡ 1 → wrong OddDigits (column + k) ≡ payload_judged column d
      unfolding payload_judged
      payload_odd odd = rw (le-ltb most_digits (length d) few, ← is, le-ltb k (length d) all, eq-eqb (k % 2) 1 odd)

      pub payload_whole : (k % 2 ≡ 1 → ⊥) → fine ≡ payload_judged column d
      unfolding payload_judged
      payload_whole even = rw (le-ltb most_digits (length d) few, ← is, le-ltb k (length d) all, ne_eqb (k % 2) 1 even)

module _ (h d : List ℕ) (j : Judged) (is : j ≡ header_judged h) where
  pub judge_wrong : (why : Wrong) → j ≡ Err why → Err why ≡ judged_of h d
  unfolding judged_of
  judge_wrong why e = rw (← is, e)

  pub judge_on : j ≡ fine → (r : Judged) → r ≡ payload_judged (length h + 2) d → r ≡ judged_of h d
  unfolding judged_of
  judge_on e r then = rw (← is, e) then

-- WHAT IT SAYS
pub fine_wrong : {why : Wrong} → fine ≡ Err why → ⊥
fine_wrong e = let z : ◌≡◌ {A = ℕ} 0 1 = cc in omega arith

pub record HeaderFine (h : List ℕ) : Type 0 where
  pub size : air_bits ≤ length h
  pub digits : length h ≡ header_digits → AreDigits 16 h

pub header_fine : (h : List ℕ) → fine ≡ header_judged h → HeaderFine h
unfolding header_judged
header_fine h e =
    by (eqb (length h) air_bits) refl (eqb (length h) header_digits) refl (ltb (digits_ahead 2 h) (length h)) (ltb (digits_ahead 16 h) (length h)) refl e
  where
    by : (bits : Bool) → eqb (length h) air_bits ≡ bits → (hex : Bool) → eqb (length h) header_digits ≡ hex → (few none : Bool) → ltb (digits_ahead 16 h) (length h) ≡ none
        → fine ≡ cond bits (cond few (wrong NoBit (digits_ahead 2 h + 1)) fine) (cond hex (cond none (wrong NoHexDigit (digits_ahead 16 h + 1)) fine) (wrong NoHeader (length h + 1)))
        → HeaderFine h
    by true b hex x few none n e = let size : length h ≡ air_bits = eqb-true (length h) air_bits b in record { size = omega arith; digits = λ other. absurd (omega arith) }
    by false b true x few true n e = absurd (fine_wrong e)
    by false b true x few false n e =
        let size : length h ≡ header_digits = eqb-true (length h) header_digits x in
        record { size = omega arith; digits = λ same. all_digits 16 h (ltb-false (digits_ahead 16 h) (length h) n) }
    by false b false x few none n e = absurd (fine_wrong e)

pub record PayloadFine (d : List ℕ) : Type 0 where
  pub few : length d ≤ most_digits
  pub digits : AreDigits 16 d

pub payload_fine : (column : ℕ) (d : List ℕ) → fine ≡ payload_judged column d → PayloadFine d
unfolding payload_judged
payload_fine column d e = by (ltb most_digits (length d)) refl (ltb (digits_ahead 16 d) (length d)) refl (eqb (digits_ahead 16 d % 2) 1) e
  where
    by : (many : Bool) → ltb most_digits (length d) ≡ many → (none : Bool) → ltb (digits_ahead 16 d) (length d) ≡ none → (odd : Bool)
        → fine ≡ first fine (check many (wrong ManyBytes (column + most_digits)) ∷ check none (wrong NoHexDigit (column + digits_ahead 16 d)) ∷ check odd (wrong OddDigits (column + digits_ahead 16 d)) ∷ [])
        → PayloadFine d
    by true m none n odd e = absurd (fine_wrong e)
    by false m true n odd e = absurd (fine_wrong e)
    by false m false n odd e = record { few = ltb-false most_digits (length d) m; digits = all_digits 16 d (ltb-false (digits_ahead 16 d) (length d) n) }

pub record BothFine (h d : List ℕ) : Type 0 where
  pub header : fine ≡ header_judged h
  pub payload : fine ≡ payload_judged (length h + 2) d

pub both_fine : (h d : List ℕ) → fine ≡ judged_of h d → BothFine h d
unfolding judged_of
both_fine h d e = by (header_judged h) refl e
  where
    by : (j : Judged) → header_judged h ≡ j → fine ≡ then_judged j (payload_judged (length h + 2) d) → BothFine h d
    by (Ok u) s e = record { header = sym s; payload = e }
    by (Err why) s e = absurd (fine_wrong e)
