-- Checks in an order: "in this order; the first that applies is given".
-- Assumes nothing.
use Rattle.std.specs.Prelude.{◌≡◌, Bool, true, false, cond, List, [], ◌∷◌, ℕ}
use Rattle.base.specs.declared.Refusal.{Refusal}

-- a row of the paper's table: whether it applies, and what it then gives
pub record Check (A : Type 0) : Type 0 where
  pub applies : Bool
  pub gives : A

abbrev pub check : {A : Type 0} → Bool → A → Check A
check applies gives = record { applies = applies; gives = gives }

-- what the first row that applies gives; `other` where none does
module _ {A : Type 0} (other : A) where
  abbrev pub first : List (Check A) → A
  first [] = other
  first (k ∷ ks) = cond k.applies k.gives (first ks)

-- "given exactly when": a row that gives `a` applies, and no row before it does
pub data Given {A : Type 0} : List (Check A) → A → Type 0 where
  here : {k : Check A} {ks : List (Check A)} → k.applies ≡ true → Given (k ∷ ks) k.gives
  later : {k : Check A} {ks : List (Check A)} {a : A} → k.applies ≡ false → Given ks a → Given (k ∷ ks) a

-- an answer is given exactly when its row applies and no row before it does
abbrev pub Exactly : {A : Type 0} → A → A → List (Check A) → Type 0
Exactly answer a rows = (answer ≡ a → Given rows a) × (Given rows a → answer ≡ a)

-- "A refusal carries number and place only."
abbrev pub refusal : ℕ → ℕ → Refusal
refusal number place = record { number = number; place = place }
