-- Numbers in a list: their places, and that what a table gives has the number of one of its rows.
-- Assumes nothing.
use mathlib.Core.Path.{◌≡◌, refl, sym, ap, subst, ◌∙◌}
use mathlib.Core.Bool.{Bool, true, false, cond, true≢false}
use mathlib.Core.Logic.{⊎_elim}
use mathlib.Core.List.{List, [], ◌∷◌, map}
use Prim.Native.Nat.{ℕ, suc, ◌≤◌, ◌<◌}
use native.Mathlib.Nat.{zero-lt-suc}
use native.Mathlib.Omega.{arith}
use lib.Dec.{eqb, ltb}
use lib.ListN.{length, get_or}
use borrow.Author.Tests.{eqb-true, eq-eqb, ltb-true}
use Rattle.base.specs.Checks.{Check, first}
use Rattle.base.specs.Lists.{place_in}
use Rattle.base.proofs.Lowest.{lowest_is}
use Rattle.base.proofs.Tests.{lt_or_ge}

-- n is one of the list
pub data Among (n : ℕ) : List ℕ → Type 0 where
  front : {l : List ℕ} → Among n (n ∷ l)
  behind : {m : ℕ} {l : List ℕ} → Among n l → Among n (m ∷ l)

-- where one stands
pub record Stands (n : ℕ) (l : List ℕ) : Type 0 where
  pub place : ℕ
  pub inside : place < length l
  pub is : get_or l place 0 ≡ n

stands : (n : ℕ) (l : List ℕ) → Among n l → Stands n l
stands n (m ∷ l) front = record { place = 0; inside = zero-lt-suc (length l); is = refl }
stands n (m ∷ l) (behind so) = let s = stands n l so in record { place = suc s.place; inside = omega (arith, s.inside); is = s.is }
stands n [] x' = elim x' [ ]

-- it has a place there,
pub place_lt : (l : List ℕ) (n : ℕ) → Among n l → place_in l n < length l
place_lt l n so =
    let s = stands n l so in
    ⊎_elim (λ (h : place_in l n < length l). h)
    (λ (h : length l ≤ place_in l n).
    absurd (true≢false (sym (eq-eqb n (get_or l s.place 0) (sym s.is)) ∙ (lowest_is (λ k. eqb n (get_or l k 0)) (length l)).before s.place (omega (arith, s.inside)))))
    (lt_or_ge (place_in l n) (length l))

-- and no other number has the same
pub place_is : (l : List ℕ) (n : ℕ) → place_in l n < length l → get_or l (place_in l n) 0 ≡ n
place_is l n h = sym (eqb-true n (get_or l (place_in l n) 0) ((lowest_is (λ k. eqb n (get_or l k 0)) (length l)).passes h))

pub place_one : (l : List ℕ) (m n : ℕ) → place_in l m < length l → place_in l n ≡ place_in l m → n ≡ m
place_one l m n h same = sym (place_is l n (rw same h)) ∙ ap (λ (k : ℕ). get_or l k 0) same ∙ place_is l m h

-- each number of a list has a place in another: a test that the checker computes
abbrev pub all_placed : List ℕ → List ℕ → Bool
all_placed l [] = true
all_placed l (n ∷ ns) = cond (ltb (place_in l n) (length l)) (all_placed l ns) false

both : (a b : Bool) → cond a b false ≡ true → (a ≡ true) × (b ≡ true)
both true b h = (refl, h)
both false b h = absurd (true≢false (sym h))

pub placed : (l ns : List ℕ) (n : ℕ) → all_placed l ns ≡ true → Among n ns → place_in l n < length l
placed l (m ∷ ns) n all front = ltb-true (place_in l n) (length l) (both (ltb (place_in l n) (length l)) (all_placed l ns) all).0
placed l (m ∷ ns) n all (behind so) = placed l ns n (both (ltb (place_in l m) (length l)) (all_placed l ns) all).1 so
placed l [] n all x'' = elim x'' [ ]

-- the numbers of a table's rows, in its order
module _ {A : Type 0} (number : A → ℕ) where
  abbrev pub numbers : List (Check A) → List ℕ
  numbers rows = map (λ k. number k.gives) rows

  pub first_number : (other a : A) (rows : List (Check A)) → (other ≡ a → ⊥) → first other rows ≡ a → Among (number a) (numbers rows)
  first_number other a [] n e = absurd (n e)
  first_number other a (k ∷ ks) n e = by (λ h. first_number other a ks n h) k.applies refl
    where
      by : (first other ks ≡ a → Among (number a) (numbers ks)) → (b : Bool) → k.applies ≡ b → Among (number a) (numbers (k ∷ ks))
      by rest true t = subst (λ (x : A). Among (number x) (numbers (k ∷ ks))) (rw t at e) front
      by rest false t = behind (rest (rw t at e))
