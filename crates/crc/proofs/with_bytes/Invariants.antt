-- `crc::with_bytes` meets its contract. Invariant: the first j bytes are added.
-- Assumes nothing.
use Prim.Native.Nat.{◌+◌}
use lib.Bits.{bit_xor}
use lib.ListN.{get_or}
use Rattle.base.proofs.Fill.{Filled}
use Rattle.crc.specs.Around.{around_bytes}
use Rattle.crc.proofs.with_bytes.Given as goal

abbrev pub invariant-loop-j : goal.invariant-loop-j
invariant-loop-j l = Filled (λ k. bit_xor (get_or l.sum k 0) (get_or l.bytes (l.at + k) 0)) around_bytes l.initial.next l.j l.next
