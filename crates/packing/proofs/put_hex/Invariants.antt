-- `put_hex` meets its contract. Invariant: the bytes of the first k pairs of digits are put.
-- Assumes nothing.
use Rattle.std.proofs.Common.{◌*◌, drop}
use Rattle.packing.specs.Digits.{AreDigits, bytes_in}
use Rattle.packing.proofs.Digits.{Bytes}
use Rattle.packing.proofs.put_hex.Given as goal

abbrev pub invariant-loop-k : goal.invariant-loop-k
invariant-loop-k l = Bytes l.initial.out l.at (bytes_in l.letters) (bytes_in (drop (2 * l.k) l.letters)) l.letters l.out l.to (2 * l.k) × AreDigits 16 l.letters
