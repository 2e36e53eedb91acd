-- When a place is marked, and what the marks of a list are by its first place.
-- Assumes nothing.
use mathlib.Core.Path.{◌≡◌, refl}
use mathlib.Core.Bool.{Bool, true, false, ◌&&◌}
use mathlib.Core.List.{List, [], ◌∷◌, ◌++◌}
use Prim.Native.Nat.{ℕ, suc, ◌<◌, ◌≤◌}
use native.Mathlib.Omega.{arith}
use lib.Dec.{leb}
use lib.ListN.{length, take, get_or-append}
use lib.Seq.{take-append-le}
use borrow.Author.Tests.{le-leb, lt-leb, leb-true}
use Rattle.marks.specs.Marked.{window_bits, is_marker, marked, mark_at, marks_from}
use Rattle.marks.proofs.Marker.{same_front}

pub is_marked : (l : List ℕ) → window_bits ≤ length l → is_marker l ≡ true → marked l ≡ true
unfolding marked
is_marked l long e = rw (le-leb window_bits (length l) long, e)

and_false : (b : Bool) → (b && false) ≡ false
and_false true = refl
and_false false = refl

pub no_marker : (l : List ℕ) → is_marker l ≡ false → marked l ≡ false
unfolding marked
no_marker l e = rw e (and_false (leb window_bits (length l)))

pub too_short : (l : List ℕ) → length l < window_bits → marked l ≡ false
unfolding marked
too_short l short = rw (lt-leb window_bits (length l) short)

front_true : (a b : Bool) → (a && b) ≡ true → a ≡ true
front_true true b e = refl
front_true false b e = e

pub marked_long : (l : List ℕ) → marked l ≡ true → window_bits ≤ length l
unfolding marked
marked_long l e = leb-true window_bits (length l) (front_true (leb window_bits (length l)) (is_marker l) e)

-- the first place of a list
pub first_marked : (p x : ℕ) (xs : List ℕ) → marked (x ∷ xs) ≡ true → marks_from p (x ∷ xs) ≡ mark_at p (x ∷ xs) ∷ marks_from (suc p) xs
unfolding marks_from
first_marked p x xs e = rw e

pub first_not : (p x : ℕ) (xs : List ℕ) → marked (x ∷ xs) ≡ false → marks_from p (x ∷ xs) ≡ marks_from (suc p) xs
unfolding marks_from
first_not p x xs e = rw e

pub none_short : (p : ℕ) (l : List ℕ) → length l < window_bits → marks_from p l ≡ []
unfolding marks_from
none_short p [] short = refl
none_short p (x ∷ xs) short = rw (too_short (x ∷ xs) short) (none_short (suc p) xs (omega arith))

-- what stands after a whole window changes nothing at its place
pub marked_front : (l m : List ℕ) → window_bits ≤ length l → length l ≤ length (l ++ m) → marked (l ++ m) ≡ marked l
unfolding marked
marked_front l m long longer =
    rw (
      le-leb window_bits (length l) long,
      le-leb window_bits (length (l ++ m)) (omega arith),
      same_front (l ++ m) l (λ j h. get_or-append l m 0 j (omega arith)),
    )

pub mark_front : (p : ℕ) (l m : List ℕ) → window_bits ≤ length l → mark_at p (l ++ m) ≡ mark_at p l
unfolding mark_at
mark_front p l m long = rw (take-append-le window_bits l m long)

pub window_of : (p : ℕ) (l : List ℕ) → (mark_at p l).window ≡ take window_bits l
unfolding mark_at
window_of p l = refl
