-- `put_bytes` meets its contract. Invariant: the digits of the first i bytes are put.
-- Assumes nothing.
use Rattle.unpacking.proofs.Lines.{Digits}
use Rattle.unpacking.proofs.put_bytes.Given as goal

abbrev pub invariant-loop-byte : goal.invariant-loop-byte
invariant-loop-byte l = Digits l.initial.out l.at l.base l.width l.bytes l.out l.to l.byte-index
