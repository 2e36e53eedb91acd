-- Patterns beside an answer: how they get there, and that they leave the answer as it is.
-- Assumes nothing.
use mathlib.Core.Path.{◌≡◌, refl, sym, ap, ◌∙◌}
use mathlib.Core.List.{List}
use Prim.Native.Nat.{ℕ}
use lib.ListN.{replicate}
use Rattle.std.specs.Prelude.{Ok, Err}
use Rattle.base.specs.declared.Refusal.{Refusal}
use Rattle.air.specs.Air.{word_count}
use Rattle.header.specs.declared.Header.{Header}
use Rattle.header.specs.declared.Read.{Read}
use Rattle.header.specs.Answers.{Answer, accepted, refused}
use Rattle.header.specs.Patterns.{beside}

module _ (patterns : List ℕ) (a : Answer) where
  pub beside_accepted : (h : Header) (flips : ℕ) → a ≡ accepted h flips → ◌≡◌ {A = Read} (record { answer = accepted h flips; patterns = patterns }) (beside patterns a)
  beside_accepted h flips e = rw e

  pub beside_refused : (why : Refusal) → a ≡ refused why → ◌≡◌ {A = Read} (record { answer = refused why; patterns = replicate word_count 0 }) (beside patterns a)
  beside_refused why e = rw e

-- the answer is as it was
pub beside_answer : (patterns : List ℕ) (a : Answer) → (beside patterns a).answer ≡ a
beside_answer patterns (Ok a) = refl
beside_answer patterns (Err why) = refl

-- an answer that stands beside patterns is this one, and of an accepted one the patterns are these
pub beside_parts : (patterns : List ℕ) (a : Answer) (h : Header) (flips : ℕ) (others : List ℕ)
    → beside patterns a ≡ record { answer = accepted h flips; patterns = others } → (a ≡ accepted h flips) × (patterns ≡ others)
beside_parts patterns a h flips others e =
    let answer : a ≡ accepted h flips = sym (beside_answer patterns a) ∙ ap (λ (r : Read). r.answer) e in
    (answer, sym (ap (λ (b : Answer). (beside patterns b).patterns) answer) ∙ ap (λ (r : Read). r.patterns) e)
