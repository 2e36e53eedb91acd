-- `sign::sign_bit` meets its contract.
-- Assumes nothing.
use borrow.Author.Rules.{rules}
use Rattle.sign.proofs.Spelling.{bit_of_lem}
use Rattle.sign.proofs.sign_bit.Goals as goal

pub returns : goal.returns
returns c = search (rules, bit_of_lem)
