-- A form put in parts, one after the other.
-- Assumes nothing.
use mathlib.Core.Path.{◌≡◌, refl}
use mathlib.Core.List.{List, [], ◌∷◌, ◌++◌, append_assoc}
use Prim.Native.Nat.{ℕ}
use lib.ListN.{drop}
use lib.Seq.{drop-drop}
use Rattle.text.specs.Text.{Put}
use Rattle.text.specs.Forms.{taken_by, taken_in, form_of}
use Rattle.text.proofs.Laid.{put_then}

-- one form after another is one form; the second takes the numbers that the first leaves
form_append : (a b numbers piece : List ℕ) → form_of (a ++ b) numbers piece ≡ form_of a numbers piece ++ form_of b (drop (taken_in a) numbers) piece
unfolding form_of
form_append [] b numbers piece = refl
form_append (x ∷ a) b numbers piece = rw (form_append a b (drop (taken_by x) numbers) piece, drop-drop (taken_in a) (taken_by x) numbers, append_assoc)

-- and so for what was put
pub put_forms : {l m n : List ℕ} {at p q : ℕ} (a b numbers piece : List ℕ)
    → Put l at (form_of a numbers piece) m p → Put m p (form_of b (drop (taken_in a) numbers) piece) n q → Put l at (form_of (a ++ b) numbers piece) n q
put_forms a b numbers piece first second = rw (form_append a b numbers piece) (put_then first second)

-- three forms
pub form_three : (a b c numbers piece : List ℕ)
    → form_of (a ++ (b ++ c)) numbers piece ≡ form_of a numbers piece ++ form_of b (drop (taken_in a) numbers) piece ++ form_of c (drop (taken_in b) (drop (taken_in a) numbers)) piece
form_three a b c numbers piece = rw (form_append a (b ++ c) numbers piece, form_append b c (drop (taken_in a) numbers) piece, append_assoc)
