-- The laws of `first`, for any answers and any table of checks: tables one after the other, and answers that no row gives.
-- Assumes nothing.
use mathlib.Core.Path.{◌≡◌, refl, ap}
use mathlib.Core.Bool.{Bool, true, false, cond}
use mathlib.Core.List.{List, [], ◌∷◌, ◌++◌}
use Rattle.base.specs.Checks.{Check, first}

module _ {A : Type 0} where
  -- two tables, one after the other: the second is asked where no row of the first applies
  pub first_append : (other : A) (ks ls : List (Check A)) → first other (ks ++ ls) ≡ first (first other ls) ks
  first_append other [] ls = refl
  first_append other (k ∷ ks) ls = ap (cond k.applies k.gives) (first_append other ks ls)

  -- what the table gives, where that is not what it gives when no row applies
  pub first_stays : (other new a : A) (ks : List (Check A)) → (other ≡ a → ⊥) → first other ks ≡ a → first new ks ≡ a
  first_stays other new a [] n e = absurd (n e)
  first_stays other new a (k ∷ ks) n e = by (λ h. first_stays other new a ks n h) k.applies refl
    where
      by : (first other ks ≡ a → first new ks ≡ a) → (b : Bool) → k.applies ≡ b → first new (k ∷ ks) ≡ a
      by rest true t = rw t (rw t at e)
      by rest false t = rw t (rest (rw t at e))

  -- a is the answer of no row
  abbrev pub Never : A → List (Check A) → Type 0
  Never a [] = Unit {0}
  Never a (k ∷ ks) = (k.gives ≡ a → ⊥) × Never a ks

  -- no row applies
  abbrev pub NoneApplies : List (Check A) → Type 0
  NoneApplies [] = Unit {0}
  NoneApplies (k ∷ ks) = (k.applies ≡ false) × NoneApplies ks

  -- of two tables none applies exactly when none of either does
  pub none_split : (ks ls : List (Check A)) → NoneApplies (ks ++ ls) → NoneApplies ks × NoneApplies ls
  none_split [] ls none = (tt, none)
  none_split (k ∷ ks) ls none = let rest = none_split ks ls none.1 in ((none.0, rest.0), rest.1)

  pub none_both : (ks ls : List (Check A)) → NoneApplies ks → NoneApplies ls → NoneApplies (ks ++ ls)
  none_both [] ls none more = more
  none_both (k ∷ ks) ls none more = (none.0, none_both ks ls none.1 more)

  pub first_none : (other : A) (ks : List (Check A)) → NoneApplies ks → first other ks ≡ other
  first_none other [] none = refl
  first_none other (k ∷ ks) none = rw none.0 (first_none other ks none.1)

  -- an answer of no row of two tables is one of neither
  pub never_both : (a : A) (ks ls : List (Check A)) → Never a ks → Never a ls → Never a (ks ++ ls)
  never_both a [] ls n m = m
  never_both a (k ∷ ks) ls n m = (n.0, never_both a ks ls n.1 m)

  -- an answer of no row is given where no row applies
  pub first_passes : (other a : A) (ks : List (Check A)) → Never a ks → first other ks ≡ a → (other ≡ a) × NoneApplies ks
  first_passes other a [] n e = (e, tt)
  first_passes other a (k ∷ ks) n e = by (λ h. first_passes other a ks n.1 h) k.applies refl
    where
      by : (first other ks ≡ a → (other ≡ a) × NoneApplies ks) → (b : Bool) → k.applies ≡ b → (other ≡ a) × NoneApplies (k ∷ ks)
      by rest true t = absurd (n.0 (rw t at e))
      by rest false t = let r = rest (rw t at e) in (r.0, (t, r.1))
