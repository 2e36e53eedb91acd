-- `list` is safe. Invariant: the buffers keep their lengths, there is room to read on, and the frames can be counted.
-- Assumes nothing.
use Rattle.beesat_list.proofs.Rounds.{Counting}
use Rattle.beesat_list.proofs.list.Given as goal

abbrev pub invariant-loop-turn : goal.invariant-loop-turn
invariant-loop-turn l = Counting l.initial.buf l.initial.out l.buf l.out l.counts l.kept l.turn
