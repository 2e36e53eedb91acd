-- A mark is given for each place where the marker is followed by 210 more bits, and for no other; each once, ascending.
-- Assumes nothing.
use mathlib.Core.Path.{◌≡◌, refl}
use mathlib.Core.Bool.{Bool, true, false}
use mathlib.Core.Logic.{⊎_elim}
use mathlib.Core.List.Memᴰ
use mathlib.Core.List.{List, [], ◌∷◌, ◌++◌, Memᴰ}
use Prim.Native.Nat.{ℕ, zero, suc, ◌+◌}
use native.Mathlib.Nat.{add-zero, le_refl}
use native.Mathlib.Omega.{arith}
use lib.ListN.{drop}
use Rattle.marks.specs.declared.Mark.{Mark}
use Rattle.marks.specs.Marked.{marked, mark_at, mark_if, marks_from}
use Rattle.marks.specs.Reports.{MarkOf, Rising}
use Rattle.marks.proofs.Marks.{marked_long}

in_marks : (b : Bool) (q m : Mark) (ms : List Mark) → Memᴰ m ms → Memᴰ m (mark_if b q ++ ms)
in_marks true q m ms h = Memᴰ.tail h
in_marks false q m ms h = h

pub given : (k p : ℕ) (l : List ℕ) → marked (drop k l) ≡ true → Memᴰ (mark_at (p + k) (drop k l)) (marks_from p l)
unfolding marks_from
given zero p [] is = absurd (omega (arith, marked_long [] is))
given zero p (x ∷ xs) is = rw (is, add-zero p) (Memᴰ.head refl)
given (suc k) p [] is = absurd (omega (arith, marked_long [] is))
given (suc k) p (x ∷ xs) is =
    let e : p + suc k ≡ suc p + k = omega arith in
    rw e (in_marks (marked (x ∷ xs)) (mark_at p (x ∷ xs)) (mark_at (suc p + k) (drop k xs)) (marks_from (suc p) xs) (given k (suc p) xs is))

further : (p x : ℕ) (xs : List ℕ) (m : Mark) → MarkOf (suc p) xs m → MarkOf p (x ∷ xs) m
further p x xs m h =
    let e : p + suc h.at ≡ suc p + h.at = omega arith in
    record { at = suc h.at; is = h.is; gives = rw e h.gives }

by_mark : (b : Bool) (p x : ℕ) (xs : List ℕ) (m : Mark) → marked (x ∷ xs) ≡ b → (Memᴰ m (marks_from (suc p) xs) → MarkOf (suc p) xs m)
    → Memᴰ m (mark_if b (mark_at p (x ∷ xs)) ++ marks_from (suc p) xs) → MarkOf p (x ∷ xs) m
by_mark true p x xs m is ih h =
    ⊎_elim
    (λ (e : m ≡ mark_at p (x ∷ xs)). record { at = 0; is = is; gives = rw (add-zero p) e })
    (λ (t : Memᴰ m (marks_from (suc p) xs)). further p x xs m (ih t))
    (Memᴰ.cases_cons h)
by_mark false p x xs m is ih h = further p x xs m (ih h)

pub only : (p : ℕ) (l : List ℕ) (m : Mark) → Memᴰ m (marks_from p l) → MarkOf p l m
unfolding marks_from
only p [] m h = absurd (Memᴰ.not-nil h)
only p (x ∷ xs) m h = by_mark (marked (x ∷ xs)) p x xs m refl (λ t. only (suc p) xs m t) h

-- "each once, ascending"
lower : (p : ℕ) (ms : List Mark) → Rising (suc p) ms → Rising p ms
lower p [] h = tt
lower p (m ∷ ms) h = (omega (arith, h.0), h.1)

rises : (b : Bool) (p x : ℕ) (xs : List ℕ) (ms : List Mark) → Rising (suc p) ms → Rising p (mark_if b (mark_at p (x ∷ xs)) ++ ms)
unfolding mark_at
rises true p x xs ms h = (le_refl p, h)
rises false p x xs ms h = lower p ms h

pub ascending : (p : ℕ) (l : List ℕ) → Rising p (marks_from p l)
unfolding marks_from
ascending p [] = tt
ascending p (x ∷ xs) = rises (marked (x ∷ xs)) p x xs (marks_from (suc p) xs) (ascending (suc p) xs)
