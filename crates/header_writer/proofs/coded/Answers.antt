use borrow.Author.Rules.{rules}
use Rattle.base.proofs.Fill.{fill_starts, fill_goes_on, fill_whole}
use Rattle.header.specs.Fields.{coded_of}
use Rattle.header.proofs.Coding.{coded_asked, coded_word}
use Rattle.header_writer.proofs.coded.Goals as goal

pub loop-j-init : goal.loop-j-init
loop-j-init c = search (rules, fill_starts)

pub encode-requires : goal.encode-requires
encode-requires c = search (rules, coded_asked)

pub loop-j-preserved : goal.loop-j-preserved
loop-j-preserved c = search (rules, fill_goes_on, coded_word)

pub returns : goal.returns
unfolding coded_of
returns c = search (rules, fill_whole)
