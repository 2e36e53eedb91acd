-- "On air. Bit n of the 210 is position n div 14 of word n mod 14."
-- Assumes nothing.
use Rattle.std.specs.Prelude.{ℕ, ◌+◌, ◌*◌, ◌/◌, ◌%◌, ◌^◌, List, ltb, length, get_or}
use Rattle.word.specs.Words.{positions}
use Rattle.base.specs.Lists.{tabulate, sum_to, lowest}

-- the header's words, and its bits on air
abbrev pub word_count : ℕ
word_count = 14

abbrev pub air_bits : ℕ
air_bits = word_count * positions

-- the most bytes of a payload: "the field has 10 bits, so 1,023 is the limit"
abbrev pub payload_limit : ℕ
payload_limit = 1023

-- position i of word j is air bit 14 i + j: that is the n with n div 14 = i and n mod 14 = j
unfoldable pub word_at : List ℕ → ℕ → ℕ
word_at air j = sum_to positions (λ i. get_or air (word_count * i + j) 0 * 2 ^ i)

unfoldable pub words_of : List ℕ → List ℕ
words_of air = tabulate word_count (word_at air)

-- air bit n of some words
unfoldable pub air_bit : List ℕ → ℕ → ℕ
air_bit words n = get_or words (n % word_count) 0 / 2 ^ (n / word_count) % 2

unfoldable pub air_of : List ℕ → List ℕ
air_of words = tabulate air_bits (air_bit words)

-- the lowest index of an element above 1; the length where all are 0 or 1
unfoldable pub first_no_bit : List ℕ → ℕ
first_no_bit l = lowest (length l) (λ k. ltb 1 (get_or l k 0))
