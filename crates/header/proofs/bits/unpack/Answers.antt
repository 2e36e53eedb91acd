-- `unpack` meets its contract: each field is a part of its number.
-- Assumes nothing.
use mathlib.Core.Path.{refl}
use native.Mathlib.Nat.{div-one}
use Rattle.header.specs.HalfWidths.{halves_header}
use Rattle.header.proofs.bits.unpack.Goals as goal

pub returns : goal.returns
unfolding halves_header
returns c = rw (div-one c.args.hi, div-one c.args.lo) refl
