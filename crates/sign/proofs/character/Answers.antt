-- `sign::character` meets its contract.
-- Assumes nothing.
use borrow.Author.Rules.{rules}
use Rattle.sign.proofs.Spelling.{character_0, character_1, character_2, character_3, character_4, character_5, no_more, no_character}
use Rattle.sign.proofs.character.Goals as goal

pub returns-then-satellite-ge-SATELLITES : goal.returns-then-satellite-ge-SATELLITES
returns-then-satellite-ge-SATELLITES c = search (rules, no_character)

pub returns-in-0 : goal.returns-in-0
returns-in-0 c = search (rules, character_0)

pub returns-in-1 : goal.returns-in-1
returns-in-1 c = search (rules, character_1)

pub returns-in-2 : goal.returns-in-2
returns-in-2 c = search (rules, character_2)

pub returns-in-3 : goal.returns-in-3
returns-in-3 c = search (rules, character_3)

pub returns-in-4 : goal.returns-in-4
returns-in-4 c = search (rules, character_4)

pub returns-in-5 : goal.returns-in-5
returns-in-5 c = search (rules, character_5)

pub returns-in_default : goal.returns-in_default
returns-in_default c = search (rules, no_more)
