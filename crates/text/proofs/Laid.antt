-- Text laid over a list: none, one byte, the last byte first, and one text after another.
-- Assumes nothing.
use mathlib.Core.Path.{◌≡◌, refl, sym, ap, ◌∙◌}
use mathlib.Core.List.{List, [], ◌∷◌, ◌++◌, append_assoc, append-nil}
use Prim.Native.Nat.{ℕ, suc, ◌+◌, ◌<◌, ◌≤◌}
use native.Mathlib.Nat.{add-zero}
use native.Mathlib.Numerals.{add-one}
use native.Mathlib.Omega.{arith}
use lib.ListN.{length, take, drop, set, length-append, take-append-drop}
use lib.Seq.{length-take-le, take_at, take-append_seam, drop_at, drop-drop, take-set-le, set_split, append_snoc}
use Rattle.text.specs.Text.{laid, Put}

-- no text changes nothing: where a loop that puts text after text starts
pub put_none : {l : List ℕ} {at : ℕ} → at ≤ length l → Put l at [] l at
unfolding laid
put_none {l} {at} h = record { bytes = rw (add-zero, append-nil) (sym (take-append-drop at l)); place = rw add-zero; fits = h; kept = refl }

-- one byte
pub laid_one : (l : List ℕ) (at x : ℕ) → at < length l → laid l at (x ∷ []) ≡ set l at x
unfolding laid
laid_one l at x h = rw (set_split l at x h, add-one, append_snoc)

-- the last byte may be put first, and the rest of the text then
pub laid_last : (l : List ℕ) (at : ℕ) (text : List ℕ) (x : ℕ) → at + length text < length l
    → laid l at (text ++ (x ∷ [])) ≡ laid (set l (at + length text) x) at text
unfolding laid
laid_last l at text x h =
    let p : ℕ = at + length text in
    let past : at + length (text ++ (x ∷ [])) ≡ suc p = omega (arith, length-append text (x ∷ [])) in
    let there : drop p (set l p x) ≡ x ∷ drop (suc p) l =
    rw (set_split l p x h) (drop_at (take p l) (x ∷ drop (suc p) l) p (length-take-le p l (omega arith))) in
    rw (past, there, take-set-le at l p x (omega arith), ← append_assoc (take at l) text (x ∷ []), append_snoc)

-- one text laid after another: together they are one text
laid_then : (l : List ℕ) (at : ℕ) (a b : List ℕ) → at ≤ length l → laid (laid l at a) (at + length a) b ≡ laid l at (a ++ b)
unfolding laid
laid_then l at a b h =
    let p : ℕ = at + length a in
    let head : List ℕ = take at l ++ a in
    let long : length head ≡ p = rw (length-append, length-take-le at l h) in
    let past : p + length b ≡ at + length (a ++ b) = omega (arith, length-append a b) in
    let tail : drop (p + length b) (head ++ drop p l) ≡ drop (p + length b) l =
    rw (← drop-drop (length b) p (head ++ drop p l), drop_at head (drop p l) p long) (drop-drop (length b) p l) in
    rw (take_at head (drop p l) p long, tail, past, append_assoc (take at l) a b)

-- and so for what was put
pub put_then : {l m n : List ℕ} {at p q : ℕ} {a b : List ℕ} → Put l at a m p → Put m p b n q → Put l at (a ++ b) n q
put_then {l} {m} {n} {at} {p} {q} {a} {b} first second =
    let size : length (a ++ b) ≡ length a + length b = length-append a b in
    let start : at ≤ length l = omega (arith, first.place, first.fits) in
    record {
      bytes = second.bytes ∙ rw (first.bytes, first.place) (laid_then l at a b start);
      place = omega (arith, first.place, second.place);
      fits = omega (arith, second.fits, first.kept);
      kept = second.kept ∙ first.kept;
    }

-- three texts. (Where the first starts with known bytes `++` computes, and `search` does not find the law.)
pub put_three : {l m n o : List ℕ} {at p q r : ℕ} {a b c : List ℕ} → Put l at a m p → Put m p b n q → Put n q c o r → Put l at (a ++ b ++ c) o r
put_three i j k = put_then (put_then i j) k

-- what was put at the front is what stands before the place after it
pub put_front : {l m : List ℕ} {p : ℕ} {a : List ℕ} → Put l 0 a m p → take p m ≡ a
unfolding laid
put_front {l} {m} {p} {a} put =
    let past : 0 + length a ≡ length a = omega arith in
    rw (put.bytes, put.place) (ap (λ (n : ℕ). take n (a ++ drop n l)) past ∙ take-append_seam a (drop (length a) l))
