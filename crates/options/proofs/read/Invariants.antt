-- `read` meets its contract: each word is read once. Invariant: what is asked for is what the words before i ask for.
-- Assumes nothing.
use Rattle.options.proofs.Asking.{Asking}
use Rattle.options.proofs.read.Given as goal

abbrev pub invariant-loop-i : goal.invariant-loop-i
invariant-loop-i l = Asking l.asked
