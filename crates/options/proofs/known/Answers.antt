-- `known` meets its contract: the word that the bytes are.
-- Assumes nothing.
use borrow.Author.Rules.{rules}
use Rattle.options.proofs.Asking.{is_strict, is_edition, is_flown, is_corrected, is_other}
use Rattle.options.proofs.known.Goals as goal

pub returns-then-eq : goal.returns-then-eq
returns-then-eq c = search (rules, is_strict)

pub returns-then-eq-2 : goal.returns-then-eq-2
returns-then-eq-2 c = search (rules, is_edition)

pub returns-then-eq-3 : goal.returns-then-eq-3
returns-then-eq-3 c = search (rules, is_flown)

pub returns-then-eq-4 : goal.returns-then-eq-4
returns-then-eq-4 c = search (rules, is_corrected)

pub returns : goal.returns
returns c = search (rules, is_other)
