use borrow.Author.Rules.{rules}
use Rattle.base.proofs.Fill.{fill_starts, fill_goes_on, fill_whole}
use Rattle.air.specs.Air.{words_of}
use Rattle.air.proofs.Gathering.{bit_lt, top_lt, top_in}
use Rattle.air.proofs.words.Goals as goal

pub loop-j-init : goal.loop-j-init
loop-j-init c = search (rules, fill_starts)

pub with_bit-requires : goal.with_bit-requires
with_bit-requires c = search (rules, top_lt, bit_lt)

pub loop-j-preserved : goal.loop-j-preserved
loop-j-preserved c = search (rules, fill_goes_on, top_in)

pub returns : goal.returns
unfolding words_of
returns c = search (rules, fill_whole)
