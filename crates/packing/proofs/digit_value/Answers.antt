-- `digit_value` meets its contract: the cases say what the letter is.
-- Assumes nothing.
use Rattle.std.proofs.Common.{rules}
use Rattle.base.proofs.Tests.{tests}
use Rattle.packing.specs.Digits.{digit_value}
use Rattle.packing.proofs.digit_value.Goals as goal

pub returns-in-48-to-57 : goal.returns-in-48-to-57
unfolding digit_value
returns-in-48-to-57 c = search (rules, tests)

pub returns-in-65-to-70 : goal.returns-in-65-to-70
unfolding digit_value
returns-in-65-to-70 c = search (rules, tests)

pub returns-in-97-to-102 : goal.returns-in-97-to-102
unfolding digit_value
returns-in-97-to-102 c = search (rules, tests)

pub returns-in_default : goal.returns-in_default
unfolding digit_value
returns-in_default c = search (rules, tests)

pub returns-in_default-2 : goal.returns-in_default-2
unfolding digit_value
returns-in_default-2 c = search (rules, tests)

pub returns-in_default-3 : goal.returns-in_default-3
unfolding digit_value
returns-in_default-3 c = search (rules, tests)

pub returns-in_default-4 : goal.returns-in_default-4
unfolding digit_value
returns-in_default-4 c = search (rules, tests)
