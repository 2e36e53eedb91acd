-- For contracts inside: bytes so far apart that CRC13 counts them alike, added to each other.
-- Assumes nothing.
use mathlib.Core.List.{List, zip_with}
use Rattle.std.specs.Prelude.{ℕ, take, drop}
use Rattle.std.specs.Int.Bits.{bit_xor}

-- x has the order 178 modulo CRC13's polynomial, and 89 bytes are four times as many bits
abbrev pub around_bytes : ℕ
around_bytes = 89

-- so many bytes, and those from a place on added to them one by one
unfoldable pub added_at : List ℕ → ℕ → List ℕ → List ℕ
added_at sum at bytes = zip_with bit_xor sum (take around_bytes (drop at bytes))
