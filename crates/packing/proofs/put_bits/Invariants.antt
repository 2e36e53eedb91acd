-- `put_bits` meets its contract. Invariant: the bytes of the first i digits are put.
-- Assumes nothing.
use Rattle.std.proofs.Common.{drop}
use Rattle.packing.specs.Digits.{bits_in}
use Rattle.packing.proofs.Digits.{Bytes}
use Rattle.packing.proofs.put_bits.Given as goal

abbrev pub invariant-loop-i : goal.invariant-loop-i
invariant-loop-i l = Bytes l.initial.out l.at (bits_in l.letters) (bits_in (drop l.i l.letters)) l.letters l.out l.to l.i
