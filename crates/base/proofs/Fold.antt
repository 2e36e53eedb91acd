-- A loop that folds a list, from the first element to the last, or from the last to the first.
-- Assumes nothing.
use mathlib.Core.Path.{◌≡◌, refl, sym, ap, ◌∙◌}
use mathlib.Core.List.{List, foldl, foldl-append, reverse, reverse-cons}
use Prim.Native.Nat.{ℕ, suc, ◌+◌, ◌-◌, ◌≤◌, ◌<◌, zero-le}
use native.Mathlib.Nat.{le_refl}
use native.Mathlib.Numerals.{add-one}
use native.Mathlib.Omega.{arith}
use lib.ListN.{length, get_or, drop, drop_of_length-le}
use lib.Seq.{drop-cons, drop-length}

module _ {A S : Type 0} (f : S → A → S) (start : S) (l : List A) where
  -- the elements before i are in the state
  pub record Upward (i : ℕ) (state : S) : Type 0 where
    pub inside : i ≤ length l
    pub left : foldl f start l ≡ foldl f state (drop i l)

  pub up_starts : Upward 0 start
  up_starts = record { inside = zero-le; left = refl }

  -- the elements from i on are in the state, the last first
  pub record Downward (i : ℕ) (state : S) : Type 0 where
    pub inside : i ≤ length l
    pub done : state ≡ foldl f start (reverse (drop i l))

  pub down_starts : Downward (length l) start
  down_starts = record { inside = le_refl (length l); done = rw drop-length }

  module _ (i : ℕ) (state : S) where
    pub up_goes_on : (d : A) → Upward i state → i < length l → (next : S) → next ≡ f state (get_or l i d) → Upward (i + 1) next
    up_goes_on d so h next e = record { inside = omega arith; left = so.left ∙ rw (drop-cons l i d h, add-one, e) }

    pub up_ends : Upward i state → length l ≤ i → state ≡ foldl f start l
    up_ends so h = sym (so.left ∙ ap (foldl f state) (drop_of_length-le l {i = i} h))

    pub down_goes_on : (d : A) → Downward i state → 0 < i → (next : S) → next ≡ f state (get_or l (i - 1) d) → Downward (i - 1) next
    down_goes_on d so h next e =
        let lt : i - 1 < length l = omega (arith, so.inside) in
        let again : suc (i - 1) ≡ i = omega arith in
        record { inside = omega arith; done = rw (drop-cons l (i - 1) d lt, again, reverse-cons, foldl-append, e, so.done) }

    pub down_ends : Downward i state → i ≤ 0 → state ≡ foldl f start (reverse l)
    down_ends so h = let none : i ≡ 0 = omega arith in rw none at so.done
