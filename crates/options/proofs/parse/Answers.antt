use borrow.Author.Rules.{rules}
use Rattle.options.proofs.Parsing.{no_word, starts}
use Rattle.options.proofs.parse.Goals as goal

pub returns-then-is_empty : goal.returns-then-is_empty
returns-then-is_empty c = search (rules, no_word)

pub loop-letter-init : goal.loop-letter-init
loop-letter-init c = search (rules, starts)
