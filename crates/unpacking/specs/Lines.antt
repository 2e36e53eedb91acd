-- The line of a record: its header's bits, and its payload in hex.
-- Assumes nothing.
use Rattle.std.specs.Prelude.{cond, List, [], ◌∷◌, ◌++◌, ℕ, ltb, length}
use Rattle.air.specs.Air.{first_no_bit}
use Rattle.text.specs.Text.{ascii, fixed_of}
use Rattle.record.specs.Records.{air_in, payload_in}

-- so many digits of a base for each byte
abbrev pub digits_of : ℕ → ℕ → List ℕ → List ℕ
digits_of base width [] = []
digits_of base width (b ∷ l) = fixed_of base width b ++ digits_of base width l

-- a digit for each bit, and two hex digits for each byte
abbrev pub bit_digits : List ℕ → List ℕ
bit_digits l = digits_of 2 1 l

abbrev pub hex_digits : List ℕ → List ℕ
hex_digits l = digits_of 16 2 l

-- a header: its bits, or two hex digits for each of its bytes where these are not all 0 or 1
unfoldable pub header_text : List ℕ → List ℕ
header_text header = cond (ltb (first_no_bit header) (length header)) (hex_digits header) (bit_digits header)

-- a payload after a space; an empty one has neither
unfoldable pub payload_text : List ℕ → List ℕ
payload_text [] = []
payload_text (b ∷ l) = ascii " " ++ hex_digits (b ∷ l)

unfoldable pub text_line : List ℕ → List ℕ → List ℕ
text_line header payload = header_text header ++ payload_text payload ++ ascii "\n"

-- the line of the record at the front of some bytes, which has n payload bytes
abbrev pub text_line_in : ℕ → List ℕ → List ℕ
text_line_in n l = text_line (air_in l) (payload_in n l)
