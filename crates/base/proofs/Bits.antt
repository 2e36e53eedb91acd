-- Single bits of a number.
-- Assumes nothing.
use mathlib.Core.Path.{◌≡◌, sym, ap, ◌∙◌}
use Prim.Native.Nat.{ℕ, ◌+◌, ◌-◌, ◌*◌, ◌/◌, ◌%◌, ◌^◌, ◌<◌}
use native.Mathlib.Omega.{arith}
use lib.Pow.{shr-shr, high, low, field, mod-mod-pow}

-- the lowest k bits keep those below k
pub bit_of_low : (n k q : ℕ) → q < k → n % 2 ^ k / 2 ^ q % 2 ≡ n / 2 ^ q % 2
bit_of_low n k q h = let e : k ≡ (k - (1 + q)) + 1 + q = omega arith in rw e (from (k - (1 + q)) q)
  where
    from : (j q : ℕ) → n % 2 ^ (j + 1 + q) / 2 ^ q % 2 ≡ n / 2 ^ q % 2
    from j q = ap (λ (x : ℕ). x % 2) (field n (j + 1) q) ∙ mod-mod-pow (n / 2 ^ q) j 1

-- two numbers set side by side: a bit of the lower one, and the upper one moved down
module _ (x k s : ℕ) (small : s < 2 ^ k) where
  pub bit_below : (q : ℕ) → q < k → (x * 2 ^ k + s) / 2 ^ q % 2 ≡ s / 2 ^ q % 2
  bit_below q h = sym (bit_of_low (x * 2 ^ k + s) k q h) ∙ ap (λ (y : ℕ). y / 2 ^ q % 2) (low x k small)

  pub shift_above : (q : ℕ) → (x * 2 ^ k + s) / 2 ^ (k + q) ≡ x / 2 ^ q
  shift_above q = sym (shr-shr (x * 2 ^ k + s) k q) ∙ ap (λ (y : ℕ). y / 2 ^ q) (high x k small)
