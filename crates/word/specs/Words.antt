-- Words, the 32 valid ones, and in how many places two words differ.
-- "Position i is the coefficient of x^i, and bit i when the word is written as a number", so the sum of two words is `bit_xor`.
-- Assumes nothing.
use Rattle.std.specs.Prelude.{◌≡◌, ℕ, zero, suc, ◌*◌, ◌/◌, ◌%◌, ◌^◌, ◌<◌, eqb}
use Rattle.std.specs.Int.Bits.{bit_xor}
use Rattle.std.specs.Int.Count.{ones_in}
use Rattle.base.specs.Lists.{lowest}

-- the positions of a word
abbrev pub positions : ℕ
positions = 15

-- numbers below it are words: "A number above 32,767 is no word"
abbrev pub word_limit : ℕ
word_limit = 2 ^ positions

-- the product of two polynomials, of which a has k coefficients
abbrev pub product : ℕ → ℕ → ℕ → ℕ
product zero a b = 0
product (suc k) a b = bit_xor (a % 2 * b) (product k (a / 2) (b * 2))

-- "0x537 (x^10+x^8+x^5+x^4+x^2+x+1)"
abbrev pub generator : ℕ
generator = 0x537

-- the sum of those of five words that the bits of n name
abbrev pub combined : ℕ → ℕ → ℕ → ℕ → ℕ → ℕ → ℕ
combined n a b c d e = bit_xor (bit_xor (bit_xor (bit_xor (n % 2 * a) (n / 2 % 2 * b)) (n / 4 % 2 * c)) (n / 8 % 2 * d)) (n / 16 % 2 * e)

-- its multiple with the multiplier q, which has five coefficients: `all_multiples` shows that those of degree below 15 are these
unfoldable pub multiple_of : ℕ → ℕ
multiple_of q = product 5 q generator

-- "A valid word is a multiple, of degree below 15, of 0x537 .. There are 32"
abbrev pub valid_count : ℕ
valid_count = 32

pub record Valid (v : ℕ) : Type 0 where
  pub multiplier : ℕ
  pub small : multiplier < valid_count
  pub is : multiple_of multiplier ≡ v

-- the five data bits of a word: header bit 5j+t "stands at position 14-t", so they are its five highest, and ten stand below them
abbrev pub parity_bits : ℕ
parity_bits = 10

abbrev pub data_of : ℕ → ℕ
data_of w = w / 2 ^ parity_bits

-- the valid word whose data are d
unfoldable pub encode_of : ℕ → ℕ
encode_of d = multiple_of (lowest valid_count (λ q. eqb (data_of (multiple_of q)) d))

-- flips of a word are a number too, its flip pattern: bit i is set where position i is flipped. Its ones are the count of the flips
abbrev pub flip_count : ℕ → ℕ
flip_count e = ones_in positions e

-- the number of places in which a and b differ
unfoldable pub distance : ℕ → ℕ → ℕ
distance a b = flip_count (bit_xor a b)
