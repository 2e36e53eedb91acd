-- Texts and numbers as bytes, and what a call that puts text into a lent slice promises.
-- Assumes nothing.
use Rattle.std.specs.Prelude.{◌≡◌, List, [], ◌∷◌, ◌++◌, cond, ℕ, zero, suc, ◌+◌, ◌/◌, ◌%◌, ◌≤◌, ltb, length, take, drop}
use Prim.Native.Char.{code}
use Prim.Native.String.{String, [] as none, ◌∷◌ as ◌then◌}

-- the codes of a text's characters, which are its bytes where all of them are ASCII
abbrev pub ascii : String → List ℕ
ascii none = []
ascii (◌then◌ c s) = code c ∷ ascii s

-- the ASCII code of a digit: that of "0" is 48
abbrev pub digit : ℕ → ℕ
digit d = 48 + d

-- the digits of n, the highest first and no 0 in front, so that 0 has none; there is room for `most` of them
abbrev pub digits_in : ℕ → ℕ → List ℕ
digits_in zero n = []
digits_in (suc most) zero = []
digits_in (suc most) (suc m) = digits_in most (suc m / 10) ++ (digit (suc m % 10) ∷ [])

-- "Numbers are decimal": the digits of n / 10, never more than n, and then the last digit of n, which 0 has too
unfoldable pub decimal_of : ℕ → List ℕ
decimal_of n = digits_in n (n / 10) ++ (digit (n % 10) ∷ [])

-- the ASCII code of a digit of a base up to 16: that of "a" is 97
abbrev pub letter_of : ℕ → ℕ
letter_of d = cond (ltb d 10) (digit d) (87 + d)

-- the last `width` digits of n in a base, with 0s in front where it has fewer
unfoldable pub fixed_of : ℕ → ℕ → ℕ → List ℕ
fixed_of base zero n = []
fixed_of base (suc width) n = fixed_of base width (n / base) ++ (letter_of (n % base) ∷ [])

-- the most digits that a number below 2 ^ 64 has
abbrev pub most_digits : ℕ
most_digits = 20

-- the list l with `text` over it from place `at` on
unfoldable pub laid : List ℕ → ℕ → List ℕ → List ℕ
laid l at text = take at l ++ text ++ drop (at + length text) l

-- `text` was put at `at`: all the bytes afterwards, and the place after the text; it fits, and there are as many bytes as before
pub record Put (before : List ℕ) (at : ℕ) (text : List ℕ) (after : List ℕ) (next : ℕ) : Type 0 where
  pub bytes : after ≡ laid before at text
  pub place : next ≡ at + length text
  pub fits : next ≤ length before
  pub kept : length after ≡ length before
