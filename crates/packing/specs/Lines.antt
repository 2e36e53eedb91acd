-- What a line packs to: nothing, a record, or what is wrong with it.
-- Assumes nothing.
use Rattle.std.specs.Prelude.{ℕ, ◌+◌, ◌-◌, ◌*◌, ◌/◌, ◌%◌, Bool, true, cond, List, [], ◌∷◌, ◌++◌, length, take, drop, ◌==◌, nat_lt, slice_index, Result, Ok, Err}
use Rattle.base.specs.Checks.{check, first}
use Rattle.base.specs.Lists.{place_in}
use Rattle.air.specs.Air.{air_bits, payload_limit}
use Rattle.record.specs.Records.{length_of}
use Rattle.packing.specs.declared.Wrong.{Wrong}
use Rattle.packing.specs.declared.Fault.{Fault}
use Rattle.packing.specs.declared.Fault.TheVariants.{NoHeader, NoBit, NoHexDigit, ManyBytes, OddDigits}
use Rattle.packing.specs.Digits.{digits_ahead, bits_in, bytes_in}

-- the most letters of a line
abbrev pub longest_line : ℕ
longest_line = 4095

-- two hex digits for each byte
abbrev pub header_digits : ℕ
header_digits = 2 * air_bits

abbrev pub most_digits : ℕ
most_digits = 2 * payload_limit

-- whether a line is well, or what is wrong with it and at which column
abbrev pub Judged : Type 0
Judged = Result (Unit {0}) Wrong

abbrev pub fine : Judged
fine = Ok tt

abbrev pub wrong : Fault → ℕ → Judged
wrong fault column = Err (record { fault = fault; column = column })

-- a header is 210 bits or 420 hex digits; columns count from 1
unfoldable pub header_judged : List ℕ → Judged
header_judged header =
    cond (length header == air_bits) (cond (nat_lt (digits_ahead 2 header) (length header)) (wrong NoBit (digits_ahead 2 header + 1)) fine)
    (cond (length header == header_digits) (cond (nat_lt (digits_ahead 16 header) (length header)) (wrong NoHexDigit (digits_ahead 16 header + 1)) fine)
    (wrong NoHeader (length header + 1)))

-- a payload, whose first digit stands at a column, is up to 1,023 whole bytes in hex
unfoldable pub payload_judged : ℕ → List ℕ → Judged
payload_judged column digits =
    first fine
    (check (nat_lt most_digits (length digits)) (wrong ManyBytes (column + most_digits))
    ∷ check (nat_lt (digits_ahead 16 digits) (length digits)) (wrong NoHexDigit (column + digits_ahead 16 digits))
    ∷ check (digits_ahead 16 digits % 2 == 1) (wrong OddDigits (column + digits_ahead 16 digits))
    ∷ [])

-- the payload is looked at where the header is well
abbrev pub then_judged : Judged → Judged → Judged
then_judged (Err why) next = Err why
then_judged (Ok u) next = next

-- the two parts of a line: the payload's first digit stands after the header and a space
unfoldable pub judged_of : List ℕ → List ℕ → Judged
judged_of header digits = then_judged (header_judged header) (payload_judged (length header + 2) digits)

unfoldable pub header_bytes : List ℕ → List ℕ
header_bytes header = cond (length header == header_digits) (bytes_in header) (bits_in header)

-- the record of two parts that are well
unfoldable pub record_of : List ℕ → List ℕ → List ℕ
record_of header digits = length_of (length digits / 2) ++ header_bytes header ++ bytes_in digits

-- what a line packs to: whether it is well, and its record's bytes
pub record Packing : Type 0 where
  pub judged : Judged
  pub bytes : List ℕ

abbrev pub packed_by : Judged → List ℕ → Packing
packed_by (Ok u) bytes = record { judged = Ok u; bytes = bytes }
packed_by (Err why) bytes = record { judged = Err why; bytes = [] }

unfoldable pub packed_parts : List ℕ → List ℕ → Packing
packed_parts header digits = packed_by (judged_of header digits) (record_of header digits)

-- the letters of a line: a carriage return at its end is none of them
unfoldable pub end_in : List ℕ → ℕ
end_in line = cond (slice_index line (length line - 1) == 13) (length line - 1) (length line)

abbrev pub letters_in : List ℕ → List ℕ
letters_in line = take (end_in line) line

-- passed over: no letters, and those that start with "#"
unfoldable pub passed_over : List ℕ → Bool
passed_over [] = true
passed_over (x ∷ l) = x == 35

-- the header stands before the first space, the payload after it
abbrev pub header_in : List ℕ → List ℕ
header_in l = take (place_in l 32) l

unfoldable pub digits_from : List ℕ → ℕ
digits_from l = cond (nat_lt (place_in l 32) (length l)) (place_in l 32 + 1) (place_in l 32)

abbrev pub digits_in : List ℕ → List ℕ
digits_in l = drop (digits_from l) l

-- WHAT A LINE PACKS TO
abbrev pub pack_letters : List ℕ → Packing
pack_letters l = cond (passed_over l) (packed_by fine []) (packed_parts (header_in l) (digits_in l))

unfoldable pub pack_of : List ℕ → Packing
pack_of line = pack_letters (letters_in line)
