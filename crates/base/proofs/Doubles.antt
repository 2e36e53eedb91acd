-- Sums of sums, and counts.
-- Assumes nothing.
use mathlib.Core.Path.{◌≡◌, refl, sym, ap, ◌∙◌}
use mathlib.Core.Bool.{Bool, true, false, cond}
use Prim.Native.Nat.{ℕ, zero, suc, ◌+◌, ◌*◌, ◌≤◌, ◌<◌, zero-le}
use native.Mathlib.Nat.{add-zero, add-suc, add_assoc, mul-suc, mul-zero, le_refl, le_step, add-le-add}
use native.Mathlib.Omega.{arith}
use Rattle.base.specs.Lists.{sum_to, how_many}
use Rattle.base.proofs.Sums.{sum_zero}

-- the first summand apart
pub sum_cons : (n : ℕ) (f : ℕ → ℕ) → sum_to (suc n) f ≡ f 0 + sum_to n (λ i. f (suc i))
unfolding sum_to
sum_cons zero f = omega arith
sum_cons (suc n) f = ap (λ (x : ℕ). x + f (suc n)) (sum_cons n f) ∙ add_assoc (f 0) (sum_to n (λ i. f (suc i))) (f (suc n))

pub sum_plus : (n : ℕ) (f g : ℕ → ℕ) → sum_to n (λ i. f i + g i) ≡ sum_to n f + sum_to n g
unfolding sum_to
sum_plus zero f g = refl
sum_plus (suc n) f g = rw (sum_plus n f g) (omega arith)

-- two stretches
pub sum_add : (m n : ℕ) (f : ℕ → ℕ) → sum_to (m + n) f ≡ sum_to m f + sum_to n (λ i. f (m + i))
unfolding sum_to
sum_add m zero f = rw add-zero (sym (add-zero (sum_to m f)))
sum_add m (suc n) f = rw add-suc (ap (λ (x : ℕ). x + f (m + n)) (sum_add m n f) ∙ add_assoc (sum_to m f) (sum_to n (λ i. f (m + i))) (f (m + n)))

-- stretches of one length
pub sum_blocks : (w m : ℕ) (f : ℕ → ℕ) → sum_to (w * m) f ≡ sum_to m (λ i. sum_to w (λ j. f (w * i + j)))
unfolding sum_to
sum_blocks w zero f = rw mul-zero
sum_blocks w (suc m) f = rw mul-suc (sum_add (w * m) w f ∙ ap (λ (x : ℕ). x + sum_to w (λ j. f (w * m + j))) (sum_blocks w m f))

-- in the other order
pub sum_swap : (m n : ℕ) (g : ℕ → ℕ → ℕ) → sum_to m (λ i. sum_to n (g i)) ≡ sum_to n (λ j. sum_to m (λ i. g i j))
unfolding sum_to
sum_swap zero n g = sym (sum_zero n)
sum_swap (suc m) n g = ap (λ (x : ℕ). x + sum_to n (g m)) (sum_swap m n g) ∙ sym (sum_plus n (λ j. sum_to m (λ i. g i j)) (g m))

-- fewer pass where each that passes one test passes the other
pub many_le : (n : ℕ) (f g : ℕ → Bool) → ((i : ℕ) → i < n → f i ≡ true → g i ≡ true) → how_many n f ≤ how_many n g
unfolding sum_to
many_le zero f g h = zero-le
many_le (suc n) f g h = add-le-add (many_le n f g (λ i lt. h i (le_step lt))) (one (f n) (g n) (h n (le_refl (suc n))))
  where
    one : (a b : Bool) → (a ≡ true → b ≡ true) → cond a 1 0 ≤ cond b 1 0
    one true b h = rw (h refl) (le_refl 1)
    one false b h = zero-le
