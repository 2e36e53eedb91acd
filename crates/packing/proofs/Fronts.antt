-- What stands at the front of some bytes: told by the tests passed, and what it says of the bytes.
-- Assumes nothing.
use Rattle.std.proofs.Common.{◌≡◌, ℕ, ◌<◌, ◌≤◌, Bool, true, false, ltb, List, [], ◌∷◌, length, sym, refl, arith, ltb-false, ltb-true, le-ltb, lt-ltb}
use Rattle.base.specs.Checks.{check, first}
use Rattle.base.specs.Lists.{place_in}
use Rattle.packing.specs.declared.Front.{Front}
use Rattle.packing.specs.declared.Front.TheVariants.{Line, TooLong, Unended}
use Rattle.packing.specs.Lines.{longest_line}
use Rattle.packing.specs.Packing.{front_of}
use Rattle.packing.proofs.Digits.{place_inside}

-- BY THE TESTS
module _ (l : List ℕ) (k : ℕ) (is : k ≡ place_in l 10) where
  pub next_long : longest_line < k → TooLong ≡ front_of l
  unfolding front_of
  next_long over = rw (← is, lt-ltb longest_line k over)

  module _ (within : k ≤ longest_line) where
    pub next_whole : k < length l → Line k ≡ front_of l
    unfolding front_of
    next_whole h = rw (← is, le-ltb longest_line k within, lt-ltb k (length l) h)

    pub next_unended : length l ≤ k → Unended ≡ front_of l
    unfolding front_of
    next_unended h = rw (← is, le-ltb longest_line k within, le-ltb k (length l) h)

-- WHAT IT SAYS
long_line : {n : ℕ} → TooLong ≡ Line n → ⊥
long_line e = let z : ◌≡◌ {A = ℕ} 0 1 = cc in omega arith

unended_line : {n : ℕ} → Unended ≡ Line n → ⊥
unended_line e = let z : ◌≡◌ {A = ℕ} 0 1 = cc in omega arith

long_unended : TooLong ≡ Unended → ⊥
long_unended e = let z : ◌≡◌ {A = ℕ} 0 1 = cc in omega arith

line_same : {m n : ℕ} → Line m ≡ Line n → m ≡ n
line_same e = cc

pub record LineAt (l : List ℕ) (n : ℕ) : Type 0 where
  pub is : place_in l 10 ≡ n
  pub within : n ≤ longest_line
  pub there : n < length l

abbrev rows : List ℕ → Bool → Bool → Front
rows l over whole = first Unended (check over TooLong ∷ check whole (Line (place_in l 10)) ∷ [])

pub line_at : (l : List ℕ) (n : ℕ) → front_of l ≡ Line n → LineAt l n
unfolding front_of
line_at l n e = by (ltb longest_line (place_in l 10)) refl (ltb (place_in l 10) (length l)) refl e
  where
    by : (over : Bool) → ltb longest_line (place_in l 10) ≡ over → (whole : Bool) → ltb (place_in l 10) (length l) ≡ whole → rows l over whole ≡ Line n → LineAt l n
    by true o whole w e = absurd (long_line e)
    by false o true w e =
        let same : place_in l 10 ≡ n = line_same e in
        record { is = same; within = rw (← same) (ltb-false longest_line (place_in l 10) o); there = rw (← same) (ltb-true (place_in l 10) (length l) w) }
    by false o false w e = absurd (unended_line e)

-- a line that has not ended is no longer than any
pub unended_at : (l : List ℕ) → front_of l ≡ Unended → length l ≤ longest_line
unfolding front_of
unended_at l e = by (ltb longest_line (place_in l 10)) refl (ltb (place_in l 10) (length l)) refl e
  where
    by : (over : Bool) → ltb longest_line (place_in l 10) ≡ over → (whole : Bool) → ltb (place_in l 10) (length l) ≡ whole → rows l over whole ≡ Unended → length l ≤ longest_line
    by true o whole w e = absurd (long_unended e)
    by false o true w e = absurd (unended_line (sym e))
    by false o false w e = omega (arith, ltb-false longest_line (place_in l 10) o, ltb-false (place_in l 10) (length l) w)

-- a line that is too long has no line feed among the first letters
pub long_at : (l : List ℕ) → front_of l ≡ TooLong → longest_line < place_in l 10
unfolding front_of
long_at l e = by (ltb longest_line (place_in l 10)) refl (ltb (place_in l 10) (length l)) e
  where
    by : (over : Bool) → ltb longest_line (place_in l 10) ≡ over → (whole : Bool) → rows l over whole ≡ TooLong → longest_line < place_in l 10
    by true o whole e = ltb-true longest_line (place_in l 10) o
    by false o true e = absurd (long_line (sym e))
    by false o false e = absurd (long_unended (sym e))

-- no bytes are no line
pub no_bytes : (l : List ℕ) → length l ≤ 0 → front_of l ≡ Unended
no_bytes l none = sym (next_unended l (place_in l 10) refl (omega (arith, place_inside l 10)) (omega arith))
