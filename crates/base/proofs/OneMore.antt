-- Sums: of zeros, one of the summands, and one of them grown by one.
-- Assumes nothing.
use mathlib.Core.Path.{◌≡◌, refl, sym, ap, ◌∙◌}
use mathlib.Core.Bool.{Bool, true, false, cond}
use mathlib.Core.Logic.{⊎_elim}
use mathlib.Core.List.{List}
use Prim.Native.Nat.{ℕ, zero, suc, ◌+◌, ◌≤◌, ◌<◌}
use native.Mathlib.Nat.{eq-or-lt_of_le, le_of_suc-le-suc}
use native.Mathlib.Numerals.{add-one}
use native.Mathlib.Omega.{arith}
use lib.ListN.{length, get_or, set}
use lib.Seq.{get_or-set_same, get_or-set_other}
use Rattle.base.specs.Lists.{sum_to, how_many}
use Rattle.base.proofs.Sums.{sum_same, sum_more, sum_zero}

-- nothing but zeros
pub sum_zeros : (n : ℕ) (f : ℕ → ℕ) → ((k : ℕ) → f k ≡ 0) → sum_to n f ≡ 0
sum_zeros n f none = sum_same n f (λ k. 0) (λ k h. none k) ∙ sum_zero n

-- the last number apart
sum_suc : (n : ℕ) (f : ℕ → ℕ) → sum_to (suc n) f ≡ sum_to n f + f n
sum_suc n f = ap (λ (k : ℕ). sum_to k f) (sym (add-one n)) ∙ sym (sum_more n f (sum_to n f) (f n) refl refl)

-- each number is at most the sum
pub sum_part : (f : ℕ → ℕ) (i n : ℕ) → i < n → f i ≤ sum_to n f
sum_part f i zero h = absurd (omega arith)
sum_part f i (suc n) h =
    rw (sum_suc n f)
    (⊎_elim
    (λ (e : i ≡ n). rw e (omega arith))
    (λ (lt : i < n). omega (arith, sum_part f i n lt))
    (eq-or-lt_of_le (le_of_suc-le-suc h)))

-- where none of the numbers below n passes a test, k does not
pub many_none : (n : ℕ) (test : ℕ → Bool) → how_many n test ≡ 0 → (k : ℕ) → k < n → test k ≡ false
many_none n test none k h = by (test k) refl
  where
    by : (b : Bool) → test k ≡ b → b ≡ false
    by false e = refl
    by true e = absurd (let one = rw e at (sum_part (λ i. cond (test i) 1 0) k n h) in omega arith)

-- one number is one more, and the others are the same
sum_one_more : (f g : ℕ → ℕ) (i : ℕ) → g i ≡ f i + 1 → ((k : ℕ) → (k ≡ i → ⊥) → g k ≡ f k) → (n : ℕ) → i < n → sum_to n g ≡ sum_to n f + 1
sum_one_more f g i more same zero h = absurd (omega arith)
sum_one_more f g i more same (suc n) h =
    rw (sum_suc n g, sum_suc n f)
    (⊎_elim
    (λ (e : i ≡ n).
    let below : sum_to n g ≡ sum_to n f = sum_same n g f (λ k lt. same k (λ (q : k ≡ i). omega arith)) in
    let last : g n ≡ f n + 1 = rw e at more in
    omega arith)
    (λ (lt : i < n). omega (arith, sum_one_more f g i more same n lt, same n (λ (q : n ≡ i). omega arith)))
    (eq-or-lt_of_le (le_of_suc-le-suc h)))

-- a list in which one element is replaced by one that counts one more
pub sum_set : {A : Type 0} (size : A → ℕ) (d : A) (l : List A) (i : ℕ) (x : A) (n : ℕ) → i < n → i < length l → size x ≡ size (get_or l i d) + 1 → sum_to n (λ k. size (get_or (set l i x) k d)) ≡ sum_to n (λ k. size (get_or l k d)) + 1
sum_set {A} size d l i x n below inside more =
    sum_one_more (λ k. size (get_or l k d)) (λ k. size (get_or (set l i x) k d)) i
    (ap size (get_or-set_same l i x d inside) ∙ more)
    (λ k other. ap size (get_or-set_other l i k x d other)) n below
