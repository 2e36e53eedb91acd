-- Counts of ones, and the bits of a sum.
-- Assumes nothing.
use mathlib.Core.Path.{◌≡◌, sym, ap, ap₂, ◌∙◌}
use Prim.Native.Nat.{ℕ, zero, suc, ◌+◌, ◌/◌, ◌%◌, ◌^◌, ◌≤◌, ◌<◌, zero-le}
use native.Mathlib.Nat.{div-one}
use native.Mathlib.Numerals.{add-one, one-add}
use native.Mathlib.Omega.{arith}
use lib.Arith.{lt-one}
use lib.Bits.{bit_xor, differ, xor_shr}
use lib.Count.{ones_in, ones, ones_step}
use lib.Pow.{shr_lt, shr-shr}
use Rattle.base.specs.Lists.{sum_to}
use Rattle.base.proofs.Sums.{sum_none, sum_same}
use Rattle.base.proofs.Bits.{bit_of_low}
use Rattle.base.proofs.Doubles.{sum_cons}
use Rattle.base.proofs.Xor.{xor_odd, xor_half, differ_le}

-- a sum has no more ones than its parts have together
pub ones_xor_le : (k a b : ℕ) → ones_in k (bit_xor a b) ≤ ones_in k a + ones_in k b
unfolding ones_in
ones_xor_le zero a b = zero-le
ones_xor_le (suc k) a b =
    rw (xor_odd a b, xor_half a b) (omega (arith, ones_xor_le k (a / 2) (b / 2), differ_le a b))

-- the ones of a number of k bits are those among its k lowest
pub ones_in_lem : (k n : ℕ) → n < 2 ^ k → ones n ≡ ones_in k n
unfolding ones ones_in
ones_in_lem zero n h = ap ones (lt-one h)
ones_in_lem (suc k) n h = ones_step n ∙ ap (λ (m : ℕ). n % 2 + m) (ones_in_lem k (n / 2) (shr_lt k 1 (rw add-one h)))

-- and there is one for each of its bits that is set
pub ones_sum : (k n : ℕ) → ones_in k n ≡ sum_to k (λ i. n / 2 ^ i % 2)
unfolding ones_in
ones_sum zero n = sym (sum_none (λ i. n / 2 ^ i % 2))
ones_sum (suc k) n =
    ap₂ (λ (a b : ℕ). a + b) (sym (ap (λ (x : ℕ). x % 2) (div-one n)))
    (ones_sum k (n / 2) ∙ sum_same k _ _ (λ i h. ap (λ (x : ℕ). x % 2) (shr-shr n 1 i ∙ ap (λ (j : ℕ). n / 2 ^ j) (one-add i))))
    ∙ sym (sum_cons k (λ i. n / 2 ^ i % 2))

-- bit i of a sum
pub xor_bit : (a b i : ℕ) → bit_xor a b / 2 ^ i % 2 ≡ differ (a / 2 ^ i % 2) (b / 2 ^ i % 2)
xor_bit a b i = ap (λ (x : ℕ). x % 2) (xor_shr a b i) ∙ xor_odd (a / 2 ^ i) (b / 2 ^ i)

-- what stands above the k lowest bits is not counted
pub ones_low : (k n : ℕ) → ones_in k (n % 2 ^ k) ≡ ones_in k n
ones_low k n = ones_sum k (n % 2 ^ k) ∙ sum_same k _ _ (λ i h. bit_of_low n k i h) ∙ sym (ones_sum k n)
