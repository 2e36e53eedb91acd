-- `header_writer::first_above` meets its contract. Invariant: the fields before k are in range.
-- Assumes nothing.
use Rattle.header.proofs.Ranges.{Checked}
use Rattle.header_writer.proofs.first_above.Given as goal

abbrev pub invariant-loop-k : goal.invariant-loop-k
invariant-loop-k l = Checked l.edition l.values l.k
