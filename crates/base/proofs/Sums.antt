-- Sums, and numbers made of their bits.
-- Assumes nothing.
use mathlib.Core.Path.{◌≡◌, refl, sym, ap, ap₂, ◌∙◌}
use mathlib.Core.Logic.{⊎_elim}
use Prim.Native.Nat.{ℕ, zero, suc, ◌+◌, ◌*◌, ◌/◌, ◌%◌, ◌^◌, ◌<◌, ◌≤◌, zero-le}
use native.Mathlib.Nat.{add_comm, pow-suc, mod-eq_of_lt, mod-one, eq-or-lt_of_le, le_of_suc-le-suc, le_refl, le_step, mul-le-mul_right, one-mul, mul-suc}
use native.Mathlib.Numerals.{one-add, add-one}
use native.Mathlib.Omega.{arith}
use lib.Pow.{mod-pow-add, high}
use Rattle.base.proofs.Bits.{bit_below}
use Rattle.base.specs.Lists.{sum_to}

pub sum_none : (f : ℕ → ℕ) → sum_to 0 f ≡ 0
unfolding sum_to
sum_none f = refl

pub sum_same : (n : ℕ) (f g : ℕ → ℕ) → ((i : ℕ) → i < n → f i ≡ g i) → sum_to n f ≡ sum_to n g
unfolding sum_to
sum_same zero f g h = refl
sum_same (suc n) f g h = ap₂ (λ (x y : ℕ). x + y) (sum_same n f g (λ i lt. h i (omega arith))) (h n (le_refl (suc n)))

pub sum_more : (n : ℕ) (f : ℕ → ℕ) (s x : ℕ) → s ≡ sum_to n f → x ≡ f n → s + x ≡ sum_to (n + 1) f
unfolding sum_to
sum_more n f s x so e = rw (so, e, add-one)

pub sum_zero : (n : ℕ) → sum_to n (λ i. 0) ≡ 0
unfolding sum_to
sum_zero zero = refl
sum_zero (suc n) = rw (sum_zero n)

pub sum_le : (m n : ℕ) (f : ℕ → ℕ) → ((i : ℕ) → i < n → f i ≤ m) → sum_to n f ≤ m * n
unfolding sum_to
sum_le m zero f h = zero-le
sum_le m (suc n) f h = rw mul-suc (omega (arith, sum_le m n f (λ i lt. h i (le_step lt)), h n (le_refl (suc n))))

-- a bit times its weight
pub bit_times : (b w : ℕ) → b < 2 → b * w ≤ w
bit_times b w h = rw one-mul at (mul-le-mul_right w (le_of_suc-le-suc h))

-- a number below 2 ^ n is the sum of its bits
pub sum_bits : (n w : ℕ) → sum_to n (λ i. w / 2 ^ i % 2 * 2 ^ i) ≡ w % 2 ^ n
unfolding sum_to
sum_bits zero w = sym (mod-one w)
sum_bits (suc n) w =
    ap (λ (x : ℕ). x + w / 2 ^ n % 2 * 2 ^ n) (sum_bits n w) ∙ add_comm (w % 2 ^ n) (w / 2 ^ n % 2 * 2 ^ n)
    ∙ sym (mod-pow-add w 1 n) ∙ ap (λ (k : ℕ). w % 2 ^ k) (one-add n)

-- a number made of bits has them
module _ (b : ℕ → ℕ) (bit : (i : ℕ) → b i < 2) where
  pub made_lt : (n : ℕ) → sum_to n (λ i. b i * 2 ^ i) < 2 ^ n
  unfolding sum_to
  made_lt zero = omega arith
  made_lt (suc n) = rw pow-suc (omega (arith, made_lt n, bit_times (b n) (2 ^ n) (bit n)))

  pub made_at : (n k : ℕ) → k < n → sum_to n (λ i. b i * 2 ^ i) / 2 ^ k % 2 ≡ b k
  unfolding sum_to
  made_at zero k h = absurd (omega arith)
  made_at (suc n) k h =
      ⊎_elim
      (λ (e : k ≡ n). rw (e, add_comm, high (b n) n (made_lt n)) (mod-eq_of_lt (bit n)))
      (λ (lt : k < n). rw add_comm (bit_below (b n) n (sum_to n (λ i. b i * 2 ^ i)) (made_lt n) k lt) ∙ made_at n k lt)
      (eq-or-lt_of_le (le_of_suc-le-suc h))

-- numbers of w bits with the same bits are the same
pub same_bits : (w x y : ℕ) → ((q : ℕ) → q < w → x / 2 ^ q % 2 ≡ y / 2 ^ q % 2) → x % 2 ^ w ≡ y % 2 ^ w
same_bits w x y same =
    sym (sum_bits w x) ∙ sum_same w _ _ (λ q h. ap (λ (b : ℕ). b * 2 ^ q) (same q h)) ∙ sum_bits w y
