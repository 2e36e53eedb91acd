-- The marks of a recording are those of its first part, and those whose window ends in the second.
-- Assumes nothing.
use mathlib.Core.Path.{◌≡◌, refl, sym}
use mathlib.Core.Logic.{⊎_elim}
use mathlib.Core.List.{List, [], ◌∷◌, ◌++◌, append_assoc}
use Prim.Native.Nat.{ℕ, suc, ◌+◌, ◌-◌, ◌<◌, ◌≤◌}
use native.Mathlib.Nat.{add-zero}
use native.Mathlib.Omega.{arith}
use lib.ListN.{length, drop, length-append}
use Rattle.base.proofs.Tests.{lt_or_ge}
use Rattle.marks.specs.declared.Mark.{Mark}
use Rattle.marks.specs.Marked.{window_bits, marked, mark_at, mark_if, marks_from}
use Rattle.marks.proofs.Marks.{none_short, marked_front, mark_front}

-- the marks whose window is not whole in the first part
abbrev pub later : ℕ → ℕ → List ℕ → List ℕ → List Mark
later n p done piece = marks_from (p + n) (drop n done ++ piece)

-- all of the first part is too short for a window
short_part : (p : ℕ) (done piece : List ℕ) (n : ℕ) → length done < window_bits → n ≡ 0 → marks_from p (done ++ piece) ≡ marks_from p done ++ later n p done piece
short_part p done piece n short e = rw (none_short p done short, e, add-zero)

one_more : (p x : ℕ) (xs piece : List ℕ) (n m : ℕ) → window_bits ≤ length (x ∷ xs) → n ≡ suc m
    → marks_from (suc p) (xs ++ piece) ≡ marks_from (suc p) xs ++ later m (suc p) xs piece
    → marks_from p (x ∷ xs ++ piece) ≡ marks_from p (x ∷ xs) ++ later n p (x ∷ xs) piece
unfolding marks_from
one_more p x xs piece n m long e ih =
    let e₂ : p + suc m ≡ suc p + m = omega arith in
    rw (marked_front (x ∷ xs) piece long (omega (arith, length-append xs piece)), mark_front p (x ∷ xs) piece long, ih, e, e₂)
    (sym (append_assoc (mark_if (marked (x ∷ xs)) (mark_at p (x ∷ xs))) (marks_from (suc p) xs) (later m (suc p) xs piece)))

pub cut : (p : ℕ) (done piece : List ℕ) → marks_from p (done ++ piece) ≡ marks_from p done ++ later (length done - (window_bits - 1)) p done piece
cut p [] piece = short_part p [] piece 0 (omega arith) refl
cut p (x ∷ xs) piece =
    ⊎_elim
    (λ (h : length xs < window_bits - 1). short_part p (x ∷ xs) piece (suc (length xs) - (window_bits - 1)) (omega arith) (omega arith))
    (λ (h : window_bits - 1 ≤ length xs).
    one_more p x xs piece (suc (length xs) - (window_bits - 1)) (length xs - (window_bits - 1)) (omega arith) (omega arith) (cut (suc p) xs piece))
    (lt_or_ge (length xs) (window_bits - 1))
