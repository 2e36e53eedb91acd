-- `header_writer::coded` meets its contract. Invariant: the words before j are coded.
-- Assumes nothing.
use Rattle.base.proofs.Fill.{Filled}
use Rattle.word.specs.Words.{encode_of}
use Rattle.air.specs.Air.{word_count}
use Rattle.header.specs.Fields.{data_at}
use Rattle.crc.specs.Halves.{header_bits}
use Rattle.header_writer.proofs.coded.Given as goal

abbrev pub invariant-loop-j : goal.invariant-loop-j
invariant-loop-j l = Filled (λ k. encode_of (data_at (header_bits l.bits.hi l.bits.lo) k)) word_count l.initial.words l.j l.words
