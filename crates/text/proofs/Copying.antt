-- What `put_text` leaves: a text copied over a part of the slice.
-- Assumes nothing.
use mathlib.Core.Path.{◌≡◌, refl, ap, ◌∙◌}
use mathlib.Core.List.{List}
use Prim.Native.Nat.{ℕ, ◌+◌, ◌-◌, ◌≤◌}
use native.Mathlib.Nat.{le_refl}
use native.Mathlib.Omega.{arith}
use lib.ListN.{length}
use lib.Seq.{take-length, paste, length-paste}
use borrow.Rule.Slice.PartMut.{put_mid}
use Rattle.std.proofs.lemmas.Slice.{put_mid-paste}
use Rattle.text.specs.Text.{laid, Put}

pub copied : (l : List ℕ) (at : ℕ) (w m : List ℕ) → at + length w ≤ length l → m ≡ w → Put l at w (put_mid at (at + length w - at) l m) (at + length w)
unfolding laid
copied l at w m h e =
    let pasted : put_mid at (at + length w - at) l m ≡ paste l at w (length w) = put_mid-paste at (at + length w - at) l m w (length w) e (omega arith) refl in
    record {
      bytes = pasted ∙ rw (take-length w);
      place = refl;
      fits = h;
      kept = ap length pasted ∙ length-paste l at w (length w) h (le_refl (length w));
    }
