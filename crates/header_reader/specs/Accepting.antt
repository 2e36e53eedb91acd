-- DEMAND 2 for a header, as a statement of its own: which headers "the published rules accept", with how many flips and which.
-- It is written from the paper's rules, and names no reader.
-- Assumes nothing.
use Rattle.std.specs.Prelude.{◌≡◌, List, ℕ, ◌≤◌, length}
use Rattle.base.specs.Lists.{AreBits}
use Rattle.crc.specs.Crc5.{crc5_of}
use Rattle.air.specs.Air.{air_bits, words_of}
use Rattle.air.specs.WordRepairs.{flip_total}
use Rattle.air.specs.Closeness.{AllClose, differences}
use Rattle.air.specs.Flips.{most_flips}
use Rattle.sign.specs.Calls.{looked_at, Agrees}
use Rattle.header.specs.declared.Header.{Header}
use Rattle.header.specs.Fields.{last_source_of, last_coding, satellite_of, header_of, bits_of_words}
use Rattle.header_reader.specs.Reading.{Signal}

pub record AcceptsHeader (s : Signal) (header : Header) (flips : ℕ) (patterns : List ℕ) : Type 0 where
  -- "The header arrives as 210 bytes, each 0 or 1."
  pub long : length s.air ≡ air_bits
  pub bits : AreBits s.air
  -- "A word becomes the valid word that differs in at most three places": fourteen such words
  pub words : List ℕ
  pub close : AllClose (words_of s.air) words
  -- the header is made of their data
  pub made : header ≡ header_of (bits_of_words words)
  -- the checks of the paper's table, 4 to 6, do not apply
  pub same_crc5 : crc5_of s.rules.edition (bits_of_words words) ≡ header.«crc5»
  pub known_source : header.«fields».src_id ≤ last_source_of s.rules.edition
  -- "Where they are looked at", the call sign bits are "48 elements, each 0 or 1, that spell the call sign of the repaired header's satellite"
  pub same_sign : Agrees (looked_at s.rules.edition s.call) (satellite_of header.«fields».src_id)
  pub known_coding : header.«fields».ai_type_src ≤ last_coding
  -- the patterns are the places in which the words differ from those that they became, "the total being their ones"
  pub patterned : patterns ≡ differences (words_of s.air) words
  pub counted : flips ≡ flip_total patterns
  -- "a limit of at most 42 and the total of flips to be at most the limit"
  pub known_limit : s.rules.limit ≤ most_flips
  pub within_limit : flips ≤ s.rules.limit
