-- What is written: what fields and a payload have to be for it, its words and bits, and that only they carry its header.
-- Assumes nothing.
use mathlib.Core.Path.{◌≡◌, sym, ap, ◌∙◌}
use mathlib.Core.List.{List, [], append-nil}
use Prim.Native.Nat.{ℕ, ◌^◌, ◌≤◌, ◌<◌}
use lib.Dec.{lit<}
use lib.Pow.{high}
use lib.ListN.{length, take, drop}
use lib.Seq.{take_at}
use borrow.Author.Rules.{rules}
use borrow.Author.Tests.{ltb-false}
use Rattle.base.specs.declared.Edition.{Edition}
use Rattle.base.specs.Written.{done}
use Rattle.base.specs.Lists.{AreBits}
use Rattle.base.specs.Parts.{joined}
use Rattle.base.proofs.First.{NoneApplies, first_passes}
use Rattle.base.proofs.Exactly.{not_done}
use Rattle.base.proofs.Joined.{parts_join, join_lt}
use Rattle.crc.specs.Crc5.{header_width, crc5_of}
use Rattle.crc.proofs.Width.{crc5_lt}
use Rattle.crc.proofs.Unseen.{carried_same}
use Rattle.air.specs.Air.{air_bits, payload_limit, words_of, air_of}
use Rattle.air.specs.Closeness.{ValidWords}
use Rattle.air.proofs.Places.{air_length, words_back, air_bits_lem}
use Rattle.header.specs.declared.Fields.{Fields}
use Rattle.header.specs.declared.Header.{Header}
use Rattle.header.specs.Fields.{widths, field_count, values_of, header_from, header_of, bits_of_words, coded_of}
use Rattle.header.specs.Writing.{first_over, write_checks, write_header_of, bits_with, bits_for, header_for, air_for, HeaderWritten}
use Rattle.header.proofs.Packing.{values_within}
use Rattle.header.proofs.Unpacking.{values_in, header_bits_lem}
use Rattle.header.proofs.Carried.{coded_valid, valid_words, coded_bits, carried_lt, coded_only}

-- 14 and 15: what the fields and the payload have to be for a header to be written
pub record Writable (edition : Edition) (f : Fields) (payload : List ℕ) : Type 0 where
  pub ranges : field_count ≤ first_over edition (values_of f)
  pub short : length payload ≤ payload_limit

pub write_passed : (edition : Edition) (f : Fields) (payload : List ℕ) (room : ℕ) → NoneApplies (write_checks edition f payload room) → Writable edition f payload
write_passed edition f payload room none = record {
  ranges = ltb-false (first_over edition (values_of f)) field_count none.1.0;
  short = ltb-false payload_limit (length payload) none.1.1.0;
}

pub air_for_length : (edition : Edition) (f : Fields) (payload : List ℕ) → length (air_for edition f payload) ≡ air_bits
unfolding air_for
air_for_length edition f payload = air_length (coded_of (bits_for edition f payload))

-- the words of what is written are those that carry its bits
pub written_words : (edition : Edition) (f : Fields) (payload : List ℕ) → words_of (air_for edition f payload) ≡ coded_of (bits_for edition f payload)
unfolding air_for
written_words edition f payload =
    let coded : List ℕ = coded_of (bits_for edition f payload) in
    let ok : ValidWords coded = coded_valid (bits_for edition f payload) in
    ap words_of (sym (append-nil (air_of coded))) ∙ words_back coded [] ok.long (valid_words coded ok)

pub written_are_bits : (edition : Edition) (f : Fields) (payload : List ℕ) → AreBits (air_for edition f payload)
unfolding air_for
written_are_bits edition f payload = air_bits_lem (coded_of (bits_for edition f payload))

module _ (edition : Edition) (f : Fields) (payload : List ℕ) (ok : Writable edition f payload) where
  abbrev crc5 : ℕ
  crc5 = crc5_of edition (bits_with f payload 0)

  -- its fields are those that were written
  pub written_header : header_of (bits_for edition f payload) ≡ header_for edition f payload
  unfolding header_of bits_for
  written_header = ap header_from (parts_join 0 (values_within edition f payload ok.ranges ok.short crc5 (crc5_lt edition (bits_with f payload 0))))

  -- CRC5 does not look at itself
  pub written_crc5 : crc5_of edition (bits_for edition f payload) ≡ crc5
  unfolding bits_for
  written_crc5 = carried_same edition (bits_for edition f payload) (bits_with f payload 0) (high _ 5 (crc5_lt edition (bits_with f payload 0)) ∙ sym (high _ 5 (lit< tt)))

  pub written_lt : bits_for edition f payload < 2 ^ header_width
  unfolding bits_for
  written_lt = join_lt (values_within edition f payload ok.ranges ok.short crc5 (crc5_lt edition (bits_with f payload 0)))

  pub written_bits : bits_of_words (coded_of (bits_for edition f payload)) ≡ bits_for edition f payload
  written_bits = coded_bits (bits_for edition f payload) written_lt

-- a header that was written: nothing stood against it, and its bits stand in front
pub record Sent (edition : Edition) (f : Fields) (payload after : List ℕ) : Type 0 where
  pub writable : Writable edition f payload
  pub air : take air_bits after ≡ air_for edition f payload

pub sent : (edition : Edition) (f : Fields) (payload before after : List ℕ) → HeaderWritten edition f payload before done after → Sent edition f payload after
unfolding write_header_of
sent edition f payload before after so = record {
  writable = write_passed edition f payload (length before) (first_passes done done (write_checks edition f payload (length before)) (search (rules, not_done)) (sym so.answered)).1;
  air = rw so.bytes (take_at (air_for edition f payload) (drop air_bits before) air_bits (air_for_length edition f payload));
}

-- valid words that carry the header of some fields and a payload are those that are written for them
pub words_only : (edition : Edition) (f : Fields) (payload words : List ℕ) → ValidWords words → header_for edition f payload ≡ header_of (bits_of_words words) → words ≡ coded_of (bits_for edition f payload)
unfolding bits_for
words_only edition f payload words ok made =
    let same : bits_for edition f payload ≡ bits_of_words words = ap (λ (h : Header). joined widths (values_in h)) made ∙ header_bits_lem (bits_of_words words) (carried_lt words ok) in
    sym (coded_only words ok) ∙ ap coded_of (sym same)
