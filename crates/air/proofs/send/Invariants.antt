-- `air::send` meets its contract. Invariant: the air bits before n are written, and the bytes from n on are as they were.
-- Assumes nothing.
use Rattle.base.proofs.Fill.{Filled}
use Rattle.air.specs.Air.{air_bits, air_bit}
use Rattle.air.proofs.send.Given as goal

abbrev pub invariant-loop-n : goal.invariant-loop-n
invariant-loop-n l = Filled (air_bit l.words) air_bits l.initial.out l.n l.out
