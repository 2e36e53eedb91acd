-- `word::remainder` meets its contract: the valid word of the same data is taken off.
-- Assumes nothing.
use mathlib.Core.Path.{ap}
use lib.Bits.{bit_xor}
use Rattle.word.specs.Repairs.{remainder_of}
use Rattle.word.proofs.remainder.Goals as goal

pub returns : goal.returns
unfolding remainder_of
returns c = ap (bit_xor c.args.w) c.encode.ensures
