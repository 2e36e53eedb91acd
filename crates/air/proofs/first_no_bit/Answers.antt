-- `air::first_no_bit` meets its contract: a union below 2 says that all are bits.
-- Assumes nothing.
use borrow.Author.Rules.{rules}
use Rattle.air.proofs.Bits.{union_bits}
use Rattle.air.proofs.first_no_bit.Goals as goal

pub returns-then-union-lt2 : goal.returns-then-union-lt2
returns-then-union-lt2 c = search (rules, union_bits)
