-- What stands at the front of some bytes: told by the tests passed, and what it says of the bytes.
-- Assumes nothing.
use mathlib.Core.Path.{◌≡◌, refl, sym, ◌∙◌}
use mathlib.Core.Bool.{Bool, true, false}
use mathlib.Core.List.{List, [], ◌∷◌}
use mathlib.Core.Logic.{⊎_elim}
use Prim.Native.Nat.{ℕ, ◌<◌, ◌≤◌}
use native.Mathlib.Omega.{arith}
use lib.Dec.{ltb}
use lib.ListN.{length}
use borrow.Author.Rules.{rules}
use borrow.Author.Tests.{lt-ltb, le-ltb, ltb-true, ltb-false}
use Rattle.base.specs.Checks.{Check, check, first}
use Rattle.base.proofs.First.{NoneApplies, first_passes}
use Rattle.base.proofs.Tests.{lt_or_ge}
use Rattle.air.specs.Air.{payload_limit}
use Rattle.record.specs.declared.Cut.{Cut}
use Rattle.record.specs.declared.Cut.TheVariants.{Record, TooLong, Short}
use Rattle.record.specs.Records.{length_bytes, length_in, record_size, long_length, ends_early, cut_checks, cut_of}

-- BY THE TESTS
module _ (l : List ℕ) where
  pub no_length : length l < length_bytes → Short ≡ cut_of l
  unfolding cut_of
  no_length few = rw (lt-ltb (length l) length_bytes few)

  abbrev given : List (Check Cut) → Cut
  given rows = first (Record (length_in l)) rows

  module _ (two : length_bytes ≤ length l) (n : ℕ) (is : n ≡ length_in l) where
    past_length : given (long_length l ∷ ends_early l ∷ []) ≡ cut_of l
    unfolding cut_of
    past_length = rw (le-ltb (length l) length_bytes two)

    pub too_long : payload_limit < n → TooLong ≡ cut_of l
    too_long over = rw (← past_length, ← is, lt-ltb payload_limit n over)

    module _ (within : n ≤ payload_limit) where
      past_limit : given (ends_early l ∷ []) ≡ cut_of l
      past_limit = rw (← past_length, ← is, le-ltb payload_limit n within)

      pub ends_early_lem : length l < record_size n → Short ≡ cut_of l
      ends_early_lem few = rw (← past_limit, ← is, lt-ltb (length l) (record_size n) few)

      pub is_whole : record_size n ≤ length l → Record n ≡ cut_of l
      is_whole all = rw (← past_limit, ← is, le-ltb (length l) (record_size n) all)

-- WHAT IT SAYS
-- a whole record: its length is within the limit, and its bytes are there
pub record WholeAt (l : List ℕ) (n : ℕ) : Type 0 where
  pub is : n ≡ length_in l
  pub within : n ≤ payload_limit
  pub there : record_size n ≤ length l

-- a length over the limit
pub record LongAt (l : List ℕ) : Type 0 where
  pub two : length_bytes ≤ length l
  pub over : payload_limit < length_in l

cut_passed : (l : List ℕ) → NoneApplies (cut_checks l) → WholeAt l (length_in l)
cut_passed l none = record {
  is = refl;
  within = ltb-false payload_limit (length_in l) none.1.0;
  there = ltb-false (length l) (record_size (length_in l)) none.1.1.0;
}

short_whole : {n : ℕ} → Short ≡ Record n → ⊥
short_whole e = let z : ◌≡◌ {A = ℕ} 0 1 = cc in omega arith

long_whole : {n : ℕ} → TooLong ≡ Record n → ⊥
long_whole e = let z : ◌≡◌ {A = ℕ} 0 1 = cc in omega arith

short_long : Short ≡ TooLong → ⊥
short_long e = let z : ◌≡◌ {A = ℕ} 0 1 = cc in omega arith

module _ (l : List ℕ) where
  pub whole_at : (n : ℕ) → cut_of l ≡ Record n → WholeAt l n
  unfolding cut_of
  whole_at n e =
      let passed = first_passes (Record (length_in l)) (Record n) (cut_checks l) (search (rules, short_whole, long_whole)) e in
      let same : length_in l ≡ n = cc passed.0 in
      rw same at (cut_passed l passed.1)

  pub long_at : cut_of l ≡ TooLong → LongAt l
  unfolding cut_of
  long_at e = by (ltb (length l) length_bytes) (ltb payload_limit (length_in l)) (ltb (length l) (record_size (length_in l))) (ltb-false (length l) length_bytes) (ltb-true payload_limit (length_in l)) e
    where
      by : (few over early : Bool) → (few ≡ false → length_bytes ≤ length l) → (over ≡ true → payload_limit < length_in l)
          → first (Record (length_in l)) (check few Short ∷ check over TooLong ∷ check early Short ∷ []) ≡ TooLong → LongAt l
      by true over early two more e = absurd (short_long e)
      by false true early two more e = record { two = two refl; over = more refl }
      by false false true two more e = absurd (short_long e)
      by false false false two more e = absurd (long_whole (sym e))

  -- too few bytes for a record: fewer than the longest one has
  pub short_at : cut_of l ≡ Short → length l < record_size payload_limit
  short_at e =
      ⊎_elim (λ (h : length l < record_size payload_limit). h)
      (λ (h : record_size payload_limit ≤ length l).
      ⊎_elim (λ (over : payload_limit < length_in l). absurd (short_long (sym e ∙ sym (too_long l (omega arith) (length_in l) refl over))))
      (λ (within : length_in l ≤ payload_limit). absurd (short_whole (sym e ∙ sym (is_whole l (omega arith) (length_in l) refl within (omega arith)))))
      (lt_or_ge payload_limit (length_in l)))
      (lt_or_ge (length l) (record_size payload_limit))
