-- Lists made by a rule: their length, what they hold, and one element more; and lists of one value.
-- Assumes nothing.
use mathlib.Core.Path.{◌≡◌, refl, sym, ap, ap₂, ◌∙◌}
use mathlib.Core.Logic.{⊎_elim}
use mathlib.Core.List.{List, [], ◌∷◌, ◌++◌, map, map-append}
use Prim.Native.Nat.{ℕ, zero, suc, ◌+◌, ◌≤◌, ◌<◌}
use native.Mathlib.Nat.{add-zero, zero-add, add-suc, suc-add, le_of_suc-le-suc, not-suc-le-zero, le_refl, le_step}
use lib.ListN.{length, get_or, replicate, length-map, get_or-eq_default}
use lib.Seq.{ext_get_or}
use Rattle.base.specs.Lists.{count, tabulate}
use Rattle.base.proofs.Tests.{lt_or_ge}

count_length : (n i : ℕ) → length (count n i) ≡ n
count_length zero i = refl
count_length (suc n) i = ap suc (count_length n (suc i))

count_snoc : (n i : ℕ) → count (suc n) i ≡ count n i ++ ((i + n) ∷ [])
count_snoc zero i = ap (λ (k : ℕ). k ∷ []) (sym (add-zero i))
count_snoc (suc n) i = ap (λ (l : List ℕ). i ∷ l) (count_snoc n (suc i) ∙ ap (λ (k : ℕ). count n (suc i) ++ (k ∷ [])) (suc-add i n ∙ sym (add-suc i n)))

module _ {A : Type 0} (f : ℕ → A) where
  pub tabulate_length : (n : ℕ) → length (tabulate n f) ≡ n
  unfolding tabulate
  tabulate_length n = length-map (count n 0) f ∙ count_length n 0

  from : (d : A) (n i k : ℕ) → k < n → get_or (map f (count n i)) k d ≡ f (i + k)
  from d zero i k h = absurd (not-suc-le-zero h)
  from d (suc n) i zero h = ap f (sym (add-zero i))
  from d (suc n) i (suc k) h = from d n (suc i) k (le_of_suc-le-suc h) ∙ ap f (suc-add i k ∙ sym (add-suc i k))

  pub tabulate_at : (d : A) (n k : ℕ) → k < n → get_or (tabulate n f) k d ≡ f k
  unfolding tabulate
  tabulate_at d n k h = from d n 0 k h ∙ ap f (zero-add k)

  pub tabulate_past : (d : A) (n k : ℕ) → n ≤ k → get_or (tabulate n f) k d ≡ d
  tabulate_past d n k h = get_or-eq_default (tabulate n f) d {n = k} (rw tabulate_length h)

  pub tabulate_more : (n : ℕ) → tabulate (suc n) f ≡ tabulate n f ++ (f n ∷ [])
  unfolding tabulate
  tabulate_more n = ap (map f) (count_snoc n 0) ∙ map-append f (count n 0) ((0 + n) ∷ []) ∙ ap (λ (k : ℕ). map f (count n 0) ++ (f k ∷ [])) (zero-add n)

  -- a list that holds what the rule says is the list made by the rule
  pub tabulate_is : (d : A) (n : ℕ) (l : List A) → length l ≡ n → ((k : ℕ) → k < n → f k ≡ get_or l k d) → tabulate n f ≡ l
  tabulate_is d n l long same =
      ext_get_or d (tabulate n f) l (tabulate_length n ∙ sym long)
      (λ k h. let lt : k < n = rw (tabulate_length n) at h in tabulate_at d n k lt ∙ same k lt)

-- two rules that agree make one list
pub tabulate_same : {A : Type 0} (f g : ℕ → A) (n : ℕ) → ((k : ℕ) → k < n → f k ≡ g k) → tabulate n f ≡ tabulate n g
unfolding tabulate
tabulate_same {A} f g zero h = refl
tabulate_same {A} f g (suc n) h =
    tabulate_more f n ∙ ap₂ (λ (l : List A) (x : A). l ++ (x ∷ [])) (tabulate_same f g n (λ k lt. h k (le_step lt))) (h n (le_refl (suc n)))
    ∙ sym (tabulate_more g n)

-- what holds of every value of the rule, and of zero, holds of every element, and of what is read past the end
pub tabulate_all : (P : ℕ → Type 0) (f : ℕ → ℕ) (n : ℕ) → P 0 → ((k : ℕ) → k < n → P (f k)) → (k : ℕ) → P (get_or (tabulate n f) k 0)
tabulate_all P f n past each k =
    ⊎_elim
    (λ (h : k < n). rw (tabulate_at f 0 n k h) (each k h))
    (λ (h : n ≤ k). rw (tabulate_past f 0 n k h) past)
    (lt_or_ge k n)

-- a list of one value, read anywhere
pub read_replicated : {A : Type 0} (n k : ℕ) (a : A) → get_or (replicate n a) k a ≡ a
read_replicated {A} zero k a = refl
read_replicated {A} (suc n) zero a = refl
read_replicated {A} (suc n) (suc k) a = read_replicated n k a
