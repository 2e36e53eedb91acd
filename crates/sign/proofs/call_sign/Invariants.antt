-- `sign::call_sign` meets its contract. Invariant: the bits before n are the call sign's.
-- Assumes nothing.
use Rattle.base.proofs.Fill.{Filled}
use Rattle.sign.specs.CallSigns.{sign_bit, sign_width}
use Rattle.sign.proofs.call_sign.Given as goal

abbrev pub invariant-loop-n : goal.invariant-loop-n
invariant-loop-n l = Filled (sign_bit l.satellite) sign_width l.initial.bits l.n l.bits
