use borrow.Author.Rules.{rules}
use Rattle.header.proofs.WordData.{gather_goes_on, number_fits, joined_fits}
use Rattle.header.proofs.bits.collect.Goals as goal

pub overflow_mul-number : goal.overflow_mul-number
overflow_mul-number c = search (rules, number_fits)

pub overflow_add-number : goal.overflow_add-number
overflow_add-number c = search (rules, joined_fits)

pub loop-word-preserved : goal.loop-word-preserved
loop-word-preserved c = search (rules, gather_goes_on)
