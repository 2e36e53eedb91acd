-- The digits of a number: which they are, and how many.
-- Assumes nothing.
use mathlib.Core.Path.{◌≡◌, refl, sym}
use mathlib.Core.Logic.{⊎_elim}
use mathlib.Core.List.{[], ◌∷◌, ◌++◌}
use Prim.Native.Nat.{ℕ, zero, suc, ◌+◌, ◌/◌, ◌%◌, ◌^◌, ◌<◌, ◌≤◌}
use native.Mathlib.Nat.{pow-suc, not-suc-le-zero, le_refl}
use native.Mathlib.Omega.{arith}
use lib.ListN.{length, length-append}
use Rattle.base.proofs.Tests.{lt_or_ge}
use Rattle.text.specs.Text.{digit, digits_in, decimal_of, most_digits}

-- 0 has no digits without a 0 in front
digits_zero : (most : ℕ) → digits_in most 0 ≡ []
digits_zero zero = refl
digits_zero (suc most) = refl

-- any room that is enough gives the same digits
enough : (a b n : ℕ) → n ≤ a → n ≤ b → digits_in a n ≡ digits_in b n
enough zero b n h k = let none : n ≡ 0 = omega arith in rw none (sym (digits_zero b))
enough (suc a) b zero h k = sym (digits_zero b)
enough (suc a) zero (suc m) h k = absurd (not-suc-le-zero k)
enough (suc a) (suc b) (suc m) h k = rw (enough a b (suc m / 10) (omega arith) (omega arith))

-- and they are the digits of the number, unless it is 0
same_digits : (most n : ℕ) → 1 ≤ n → n ≤ most → digits_in most n ≡ decimal_of n
unfolding decimal_of
same_digits most zero some h = absurd (not-suc-le-zero some)
same_digits zero (suc m) some h = absurd (not-suc-le-zero h)
same_digits (suc most) (suc m) some h = rw (enough most (suc m) (suc m / 10) (omega arith) (omega arith))

-- a number below ten is one digit
pub decimal_one : (n : ℕ) → n < 10 → decimal_of n ≡ digit n ∷ []
unfolding decimal_of
decimal_one n h = let none : n / 10 ≡ 0 = omega arith in let all : n % 10 ≡ n = omega arith in rw (none, all, digits_zero)

-- any other has the digits of its tenth, and one more after them
pub decimal_more : (n : ℕ) → 10 ≤ n → decimal_of n ≡ decimal_of (n / 10) ++ (digit (n % 10) ∷ [])
unfolding decimal_of
decimal_more n h = rw (same_digits n (n / 10) (omega arith) (omega arith))

-- So a law is shown below ten, and of a number from its tenth.
pub by_tens : (P : ℕ → Type 0) → ((n : ℕ) → n < 10 → P n) → ((n : ℕ) → 10 ≤ n → P (n / 10) → P n) → (n : ℕ) → P n
by_tens P one more n = go n n (le_refl n)
  where
    go : (most n : ℕ) → n ≤ most → P n
    go zero n h = one n (omega arith)
    go (suc most) n h = ⊎_elim (one n) (λ (large : 10 ≤ n). more n large (go most (n / 10) (omega arith))) (lt_or_ge n 10)

-- and one digit more than its tenth
pub length_more : (n : ℕ) → 10 ≤ n → length (decimal_of n) ≡ length (decimal_of (n / 10)) + 1
length_more n h = rw (decimal_more n h, length-append)

-- there is a digit
pub decimal_some : (n : ℕ) → 1 ≤ length (decimal_of n)
unfolding decimal_of
decimal_some n = rw length-append (omega arith)

-- a number below 10 ^ (j + 1) has no more than j + 1 of them
pub decimal_few : (j n : ℕ) → n < 10 ^ suc j → length (decimal_of n) ≤ suc j
decimal_few zero n h = rw (decimal_one n h) (omega arith)
decimal_few (suc j) n h =
    ⊎_elim
    (λ (small : n < 10). rw (decimal_one n small) (omega arith))
    (λ (large : 10 ≤ n).
    let tenth : n / 10 < 10 ^ suc j = omega (arith, pow-suc 10 (suc j)) in
    omega (arith, length_more n large, decimal_few j (n / 10) tenth))
    (lt_or_ge n 10)

-- a u64 has no more than 20
pub decimal_short : (n : ℕ) → n < 2 ^ 64 → length (decimal_of n) ≤ most_digits
decimal_short n h = decimal_few 19 n (omega arith)
