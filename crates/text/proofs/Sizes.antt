-- The first bytes of a slice, as they are lent: how many there are.
-- Assumes nothing.
use mathlib.Core.Path.{◌≡◌, sym}
use mathlib.Core.List.{List}
use Prim.Native.Nat.{ℕ, ◌≤◌}
use native.Mathlib.Omega.{arith}
use lib.ListN.{length, take}
use lib.Seq.{length-take-le}
use Rattle.text.specs.Text.{Put}

-- the first n bytes are n
pub part_size : (l : List ℕ) (n : ℕ) → n ≤ length l → n ≡ length (take n l)
part_size l n inside = sym (length-take-le n l inside)

-- and so is what was put, with all before it
pub put_size : {before text after : List ℕ} {at next : ℕ} → Put before at text after next → next ≡ length (take next after)
put_size {before} {text} {after} {at} {next} put = part_size after next (omega (arith, put.fits, put.kept))
