-- A header written: refused with 13 to 15, or its 210 bits.
-- Assumes nothing.
use Rattle.std.specs.Prelude.{◌≡◌, cond, List, [], ◌∷◌, ◌++◌, ℕ, ◌-◌, ◌^◌, eqb, ltb, length, get_or, drop, Ok, Err}
use Rattle.base.specs.declared.Edition.{Edition}
use Rattle.base.specs.Checks.{Check, check, first, refusal}
use Rattle.base.specs.Lists.{lowest}
use Rattle.base.specs.Parts.{joined}
use Rattle.crc.specs.Crc.{crc13_of}
use Rattle.crc.specs.Crc5.{crc5_of}
use Rattle.air.specs.Air.{air_bits, payload_limit, air_of}
use Rattle.header.specs.declared.Fields.{Fields}
use Rattle.header.specs.declared.Header.{Header}
use Rattle.base.specs.Written.{Written, done, refused}
use Rattle.header.specs.Fields.{widths, field_count, last_source_of, last_coding, values_of, coded_of}

-- the most that field k may be: "widths bound it, also SrcId to 7 and AiTypeSrc to 3", which are fields 0 and 5; under the corrected edition
-- "the writer allows 0 to 127"
abbrev pub most_of : Edition → ℕ → ℕ
most_of edition k = cond (eqb k 0) (last_source_of edition) (cond (eqb k 5) last_coding (2 ^ get_or widths k 0 - 1))

-- "the lowest such field's number in the list above, from 0"; 14 where all are in range
abbrev pub first_over : Edition → List ℕ → ℕ
first_over edition values = lowest field_count (λ k. ltb (most_of edition k) (get_or values k 0))

-- THE PAPER'S TABLE, rows 13 to 15
-- 13, "output under 210": its length
abbrev pub short_output : ℕ → Check Written
short_output room = check (ltb room air_bits) (refused (refusal 13 room))

-- 14, "a field out of range": the lowest
abbrev pub out_of_range : Edition → Fields → Check Written
out_of_range edition f = check (ltb (first_over edition (values_of f)) field_count) (refused (refusal 14 (first_over edition (values_of f))))

-- 15, "payload over 1,023": its length
abbrev pub long_payload : List ℕ → Check Written
long_payload payload = check (ltb payload_limit (length payload)) (refused (refusal 15 (length payload)))

abbrev pub write_checks : Edition → Fields → List ℕ → ℕ → List (Check Written)
write_checks edition f payload room = short_output room ∷ out_of_range edition f ∷ long_payload payload ∷ []

unfoldable pub write_header_of : Edition → Fields → List ℕ → ℕ → Written
write_header_of edition f payload room = first done (write_checks edition f payload room)

-- "The writer works out PduLength and both checksums": the header's bits, with some CRC5
abbrev pub bits_with : Fields → List ℕ → ℕ → ℕ
bits_with f payload crc5 = joined widths (values_of f ++ (length payload ∷ crc13_of payload ∷ crc5 ∷ []))

-- CRC5 is worked out from bits 0 to 64, so of the header without it
unfoldable pub bits_for : Edition → Fields → List ℕ → ℕ
bits_for edition f payload = bits_with f payload (crc5_of edition (bits_with f payload 0))

-- the header that is written for some fields and a payload
abbrev pub header_for : Edition → Fields → List ℕ → Header
header_for edition f payload = record {
  «fields» = f;
  pdu_length = length payload;
  «crc13» = crc13_of payload;
  «crc5» = crc5_of edition (bits_with f payload 0);
}

-- the 210 bits on air
unfoldable pub air_for : Edition → Fields → List ℕ → List ℕ
air_for edition f payload = air_of (coded_of (bits_for edition f payload))

-- the output afterwards: "bytes past 210 keep what they held", and on a refusal all do
abbrev pub after_write : Written → Edition → Fields → List ℕ → List ℕ → List ℕ
after_write (Ok u) edition f payload out = air_for edition f payload ++ drop air_bits out
after_write (Err why) edition f payload out = out

-- what a call of the writer leaves: its answer, and every byte of the output
pub record HeaderWritten (edition : Edition) (f : Fields) (payload before : List ℕ) (answer : Written) (after : List ℕ) : Type 0 where
  pub answered : answer ≡ write_header_of edition f payload (length before)
  pub bytes : after ≡ after_write answer edition f payload before
