-- The lowest number that passes a test: what it is, and the loop that looks for it.
-- Assumes nothing.
use mathlib.Core.Path.{◌≡◌, refl, sym, ◌∙◌, subst}
use mathlib.Core.Bool.{Bool, true, false, not, true≢false}
use mathlib.Core.Logic.{⊎_elim}
use Prim.Native.Nat.{ℕ, zero, suc, ◌+◌, ◌≤◌, ◌<◌, zero-le}
use native.Mathlib.Nat.{zero-add, add-suc, suc-add, eq-or-lt_of_le, le_of_suc-le-suc, le_refl, not-suc-le-zero}
use native.Mathlib.Numerals.{add-one}
use native.Mathlib.Omega.{arith}
use lib.Dec.{T}
use borrow.Author.Tests.{not-false}
use Rattle.base.proofs.Tests.{lt_or_ge}
use Rattle.base.specs.Lists.{lowest_from, lowest}

module _ (test : ℕ → Bool) where
  -- no number below i passes
  abbrev pub NoneBelow : ℕ → Type 0
  NoneBelow i = (k : ℕ) → k < i → test k ≡ false

  one_more : (i : ℕ) → NoneBelow i → test i ≡ false → NoneBelow (suc i)
  one_more i none e k h = ⊎_elim (λ (same : k ≡ i). rw same e) (λ (lt : k < i). none k lt) (eq-or-lt_of_le (le_of_suc-le-suc h))

  -- what the search answers: r is at most n, none below it passes, and it passes where it is below n
  pub record Lowest (n r : ℕ) : Type 0 where
    pub inside : r ≤ n
    pub before : NoneBelow r
    pub passes : r < n → test r ≡ true

  from : (n i : ℕ) → NoneBelow i → Lowest (i + n) (lowest_from i n test)
  from zero i none = record { inside = omega arith; before = none; passes = λ h. absurd (omega arith) }
  from (suc n) i none = by (λ later. from n (suc i) later) (test i) refl
    where
      by : (NoneBelow (suc i) → Lowest (suc i + n) (lowest_from (suc i) n test)) → (b : Bool) → test i ≡ b → Lowest (i + suc n) (lowest_from i (suc n) test)
      by rest true e = rw e (record { inside = omega arith; before = none; passes = λ h. e })
      by rest false e = rw (e, add-suc, ← suc-add) (rest (one_more i none e))

  pub lowest_is : (n : ℕ) → Lowest n (lowest n test)
  unfolding lowest
  lowest_is n = rw zero-add at (from n 0 (λ k h. absurd (not-suc-le-zero h)))

  not_below : (n r s : ℕ) → Lowest n r → Lowest n s → r < s → ⊥
  not_below n r s a b h = true≢false (sym (a.passes (omega (arith, b.inside))) ∙ b.before r h)

  -- there is one such answer
  pub lowest_only : (n r s : ℕ) → Lowest n r → Lowest n s → r ≡ s
  lowest_only n r s a b =
      ⊎_elim (λ (lt : r < s). absurd (not_below n r s a b lt))
      (λ (le : s ≤ r). ⊎_elim (λ (same : s ≡ r). sym same) (λ (lt : s < r). absurd (not_below n s r b a lt)) (eq-or-lt_of_le le))
      (lt_or_ge r s)

pub lowest_none : (n : ℕ) (test : ℕ → Bool) → NoneBelow test n → lowest n test ≡ n
lowest_none n test none =
    lowest_only test n (lowest n test) n (lowest_is test n) (record { inside = le_refl n; before = none; passes = λ h. absurd (omega arith) })

-- a test that every number below n passes, where it is computed that none fails
pub every_below : (n : ℕ) (test : ℕ → Bool) → lowest n (λ k. not (test k)) ≡ n → (k : ℕ) → k < n → T (test k)
every_below n test e k h =
    subst T (sym (not-false (test k) ((rw e at (lowest_is (λ k. not (test k)) n).before) k h))) tt

-- THE LOOP: the numbers below i do not pass
pub record Passed (n : ℕ) (test : ℕ → Bool) (i : ℕ) : Type 0 where
  pub inside : i ≤ n
  pub before : NoneBelow test i

pub starts : (n : ℕ) (test : ℕ → Bool) → Passed n test 0
starts n test = record { inside = zero-le; before = λ k h. absurd (not-suc-le-zero h) }

module _ (n : ℕ) (test : ℕ → Bool) (i : ℕ) (so : Passed n test i) where
  pub goes_on : i < n → test i ≡ false → Passed n test (i + 1)
  goes_on h e = record { inside = omega arith; before = rw add-one (one_more test i so.before e) }

  pub stops : i < n → test i ≡ true → i ≡ lowest n test
  stops h e = lowest_only test n i (lowest n test) (record { inside = so.inside; before = so.before; passes = λ lt. e }) (lowest_is test n)

  pub ends : n ≤ i → i ≡ lowest n test
  ends h =
      let all : i ≡ n = omega (arith, so.inside) in
      all ∙ sym (lowest_none n test (rw all at so.before))
