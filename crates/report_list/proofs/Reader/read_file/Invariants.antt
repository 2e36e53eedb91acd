-- `read_file` is safe. Invariant: the buffer keeps its length, and there is room to read on.
-- Assumes nothing.
use Rattle.report_list.proofs.Rounds.{Reading}
use Rattle.report_list.proofs.Reader.read_file.Given as goal

abbrev pub invariant-loop : goal.invariant-loop
invariant-loop g l = Reading 65536 l.buf l.left
