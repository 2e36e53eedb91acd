-- `read_words` is safe: there is a value for each field.
-- Assumes nothing.
use mathlib.Core.Path.{◌≡◌}
use lib.ListN.{length}
use Rattle.header.specs.Fields.{field_count}
use Rattle.write.proofs.read_words.Given as goal

abbrev pub invariant-loop-k : goal.invariant-loop-k
invariant-loop-k l = length l.values ≡ field_count
