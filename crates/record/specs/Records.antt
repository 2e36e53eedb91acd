-- Records, cut out of the bytes at hand.
-- Assumes nothing.
use Rattle.std.specs.Prelude.{List, [], ◌∷◌, ℕ, ◌+◌, ◌*◌, ◌/◌, ◌%◌, ltb, length, get_or, take, drop}
use Rattle.base.specs.Checks.{Check, check, first}
use Rattle.air.specs.Air.{air_bits, payload_limit}
use Rattle.record.specs.declared.Cut.{Cut}
use Rattle.record.specs.declared.Cut.TheVariants.{Record, TooLong, Short}

-- "records of a two-byte length, high byte first, 210 header bytes, that many payload bytes"
abbrev pub length_bytes : ℕ
length_bytes = 2

-- the bytes of a length, and the length that they say
abbrev pub length_of : ℕ → List ℕ
length_of n = n / 256 ∷ n % 256 ∷ []

abbrev pub length_in : List ℕ → ℕ
length_in l = get_or l 0 0 * 256 + get_or l 1 0

abbrev pub air_in : List ℕ → List ℕ
air_in l = take air_bits (drop length_bytes l)

abbrev pub payload_start : ℕ
payload_start = length_bytes + air_bits

abbrev pub payload_in : ℕ → List ℕ → List ℕ
payload_in n l = take n (drop payload_start l)

-- the bytes of a record with n payload bytes
abbrev pub record_size : ℕ → ℕ
record_size n = payload_start + n

-- "A length over 1,023 or a record that ends early", inside its length or after it
abbrev pub no_length : List ℕ → Check Cut
no_length l = check (ltb (length l) length_bytes) Short

abbrev pub long_length : List ℕ → Check Cut
long_length l = check (ltb payload_limit (length_in l)) TooLong

abbrev pub ends_early : List ℕ → Check Cut
ends_early l = check (ltb (length l) (record_size (length_in l))) Short

abbrev pub cut_checks : List ℕ → List (Check Cut)
cut_checks l = no_length l ∷ long_length l ∷ ends_early l ∷ []

-- what stands at the front of some bytes
unfoldable pub cut_of : List ℕ → Cut
cut_of l = first (Record (length_in l)) (cut_checks l)
