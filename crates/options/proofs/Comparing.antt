-- Two lists that are not the same.
-- Assumes nothing.
use mathlib.Core.Path.{◌≡◌, refl, ap₂}
use mathlib.Core.Bool.{Bool, true, false, cond}
use mathlib.Core.List.{List, [], ◌∷◌}
use Prim.Native.Nat.{ℕ}
use lib.Dec.{eqb}
use borrow.Author.Tests.{eqb-true}
use Rattle.options.specs.Words.{same_of}

pub differ : (a b : List ℕ) → (a ≡ b → ⊥) → same_of a b ≡ false
differ [] [] other = absurd (other refl)
differ [] (y ∷ b) other = refl
differ (x ∷ a) [] other = refl
differ (x ∷ a) (y ∷ b) other = by (eqb x y) refl (differ a b)
  where
    by : (same : Bool) → eqb x y ≡ same → ((a ≡ b → ⊥) → same_of a b ≡ false) → cond same (same_of a b) false ≡ false
    by true e rest = rest (λ rests. other (ap₂ (λ (n : ℕ) (l : List ℕ). n ∷ l) (eqb-true x y e) rests))
    by false e rest = refl
