-- The record of a line that is well, put together from its parts.
-- Assumes nothing.
use Rattle.std.specs.Prelude.{Err}
use Rattle.std.proofs.Common.{◌≡◌, ℕ, ◌+◌, ◌*◌, ◌/◌, ◌≤◌, List, length, sym, ◌∙◌, arith, eq-eqb, ne_eqb}
use Rattle.air.specs.Air.{payload_limit}
use Rattle.text.specs.Text.{Put}
use Rattle.text.proofs.Laid.{put_none, put_three}
use Rattle.record.specs.Records.{length_of}
use Rattle.packing.specs.declared.Wrong.{Wrong}
use Rattle.packing.specs.Digits.{AreDigits, bits_in, bytes_in}
use Rattle.packing.specs.Lines.{Judged, fine, header_digits, header_judged, judged_of, header_bytes, record_of, packed_parts}
use Rattle.packing.specs.Promises.{PacksParts}
use Rattle.packing.proofs.Judging.{header_fine, PayloadFine, payload_fine, BothFine, both_fine}

-- a header of hex digits, and one of bits
pub hex_header : (h : List ℕ) → fine ≡ header_judged h → length h ≡ header_digits → AreDigits 16 h
hex_header h fine size = (header_fine h fine).digits size

module _ {l m : List ℕ} {at next : ℕ} where
  pub put_hex_header : (h : List ℕ) → length h ≡ header_digits → Put l at (bytes_in h) m next → Put l at (header_bytes h) m next
  unfolding header_bytes
  put_hex_header h size put = rw (eq-eqb (length h) header_digits size) put

  pub put_bit_header : (h : List ℕ) → (length h ≡ header_digits → ⊥) → Put l at (bits_in h) m next → Put l at (header_bytes h) m next
  unfolding header_bytes
  put_bit_header h other put = rw (ne_eqb (length h) header_digits other) put

-- the parts of a line that is well
module _ (h d : List ℕ) (so : fine ≡ judged_of h d) where
  both : BothFine h d
  both = both_fine h d so

  pub header_is_fine : fine ≡ header_judged h
  header_is_fine = both.header

  well : PayloadFine d
  well = payload_fine (length h + 2) d both.payload

  pub payload_digits : AreDigits 16 d
  payload_digits = well.digits

  pub few_bytes : length d / 2 ≤ payload_limit
  few_bytes = omega (arith, well.few)

  some_letters : 2 ≤ length h
  some_letters = omega (arith, (header_fine h both.header).size)

pub put_parts : {l m n o : List ℕ} {at p q r : ℕ} (h d : List ℕ) → Put l at (length_of (length d / 2)) m p → Put m p (header_bytes h) n q → Put n q (bytes_in d) o r
    → Put l at (record_of h d) o r
unfolding record_of
put_parts h d first second third = put_three first second third

-- the answer, by what is wrong
module _ (h d : List ℕ) (j : Judged) (is : j ≡ judged_of h d) where
  pub is_fine : j ≡ fine → fine ≡ judged_of h d
  is_fine e = sym e ∙ is

  pub parts_room : (at room : ℕ) → j ≡ fine → at + 2 * (length h + length d) ≤ room → at + (2 + (length h + length d)) ≤ room
  parts_room at room e h₁ = omega (arith, some_letters h d (is_fine e))

  module _ (before : List ℕ) (at : ℕ) (room : at + 2 * (length h + length d) ≤ length before) where
    pub parts_wrong : (why : Wrong) → j ≡ Err why → PacksParts h d before at before (record { judged = Err why; to = at })
    unfolding packed_parts
    parts_wrong why e = record { judged_is = rw (← is, e); put = rw (← is, e) (put_none (omega arith)); short = omega arith }

    pub parts_fine : j ≡ fine → (after : List ℕ) (next : ℕ) → Put before at (record_of h d) after next → next ≤ at + (2 + (length h + length d))
        → PacksParts h d before at after (record { judged = fine; to = next })
    unfolding packed_parts
    parts_fine e after next put short =
        record { judged_is = rw (← is, e); put = rw (← is, e) put; short = omega (arith, some_letters h d (is_fine e)) }
