-- `word::encode` meets its contract: the sum of the valid words of the single data bits.
-- Assumes nothing.
use borrow.Author.Rules.{rules}
use Rattle.word.proofs.Multiples.{encode_bits}
use Rattle.word.proofs.encode.Goals as goal

pub returns : goal.returns
returns c = search (rules, encode_bits)
