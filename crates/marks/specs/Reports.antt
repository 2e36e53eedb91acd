-- For statements on whole recordings: a mark of a place, marks that ascend, and what is got by asking.
-- Assumes nothing.
use Rattle.std.specs.Prelude.{◌≡◌, true, Some, None, List, [], ◌∷◌, ◌++◌, ℕ, suc, ◌+◌, ◌≤◌, drop}
use Rattle.base.specs.Written.{done, refused}
use Rattle.base.specs.declared.Refusal.{Refusal}
use Rattle.marks.specs.declared.Mark.{Mark}
use Rattle.marks.specs.declared.State.{State}
use Rattle.marks.specs.Marked.{marked, mark_at}
use Rattle.marks.specs.Pieces.{verdict_of, moved_on, step_of}

-- m is the mark of a marked place, `at` elements into a list that starts at place p
pub record MarkOf (p : ℕ) (l : List ℕ) (m : Mark) : Type 0 where
  pub at : ℕ
  pub is : marked (drop at l) ≡ true
  pub gives : m ≡ mark_at (p + at) (drop at l)

-- places from p on, "each once, ascending"
abbrev pub Rising : ℕ → List Mark → Type 0
Rising p [] = Unit {0}
Rising p (m ∷ ms) = (p ≤ m.place) × Rising (suc m.place) ms

-- what a loop gets that asks a piece for marks, from `at` on, until there is none
pub data Got (s : State) (piece : List ℕ) : ℕ → List Mark → Type 0 where
  last : {at : ℕ} → (step_of s piece at).mark ≡ None → Got s piece at []
  more : {at : ℕ} {m : Mark} {ms : List Mark} → (step_of s piece at).mark ≡ Some m → Got s piece (step_of s piece at).next ms → Got s piece at (m ∷ ms)

-- what a program gets that offers one piece after the other, and asks each that is accepted for its marks
pub data Run : State → List (List ℕ) → List Mark → Type 0 where
  over : {s : State} → Run s [] []
  passed : {s : State} {piece : List ℕ} {pieces : List (List ℕ)} {ms : List Mark} {why : Refusal} → verdict_of s.total piece ≡ refused why → Run s pieces ms → Run s (piece ∷ pieces) ms
  taken : {s : State} {piece : List ℕ} {pieces : List (List ℕ)} {gs ms : List Mark} → verdict_of s.total piece ≡ done → Got s piece 0 gs → Run (moved_on s piece) pieces ms
      → Run s (piece ∷ pieces) (gs ++ ms)
