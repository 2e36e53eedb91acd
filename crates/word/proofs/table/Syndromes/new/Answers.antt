-- `word::table::Syndromes::new` meets its contract: the constant is the list that is computed from the rule, all 1,024 rows of it.
-- Assumes nothing.
use lib.Count.{ones_in}
use Rattle.base.specs.Lists.{tabulate}
use Rattle.word.proofs.Rows.{listed, flips_among, syndromes_among}
use Rattle.word.proofs.table.Syndromes.new.Goals as goal

pub invariant_of-result : goal.invariant_of-result
unfolding tabulate flips_among listed ones_in
invariant_of-result c = record { exact = syndromes_among }
