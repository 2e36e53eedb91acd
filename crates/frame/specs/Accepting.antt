-- DEMAND 2, as a statement of its own: which frames "the published rules accept", with which header, how many flips and which.
-- It is written from the paper's rules, and names no reader.
-- Assumes nothing.
use Rattle.std.specs.Prelude.{◌≡◌, List, ℕ, length}
use Rattle.crc.specs.Crc.{crc13_of}
use Rattle.header.specs.declared.Header.{Header}
use Rattle.header_reader.specs.Accepting.{AcceptsHeader}
use Rattle.frame.specs.Frames.{Frame}

pub record Accepts (f : Frame) (header : Header) (flips : ℕ) (patterns : List ℕ) : Type 0 where
  -- its header is accepted so
  pub head : AcceptsHeader f.head header flips patterns
  -- and the checks of the paper's table, 7 and 8, do not apply
  pub same_length : length f.payload ≡ header.pdu_length
  pub same_crc13 : crc13_of f.payload ≡ header.«crc13»
