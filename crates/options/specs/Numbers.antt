-- What a word says that is to be a number: decimal digits, and no more than 4,294,967,295.
-- Assumes nothing.
use Rattle.std.specs.Prelude.{◌≡◌, ◌||◌, cond, List, [], ◌∷◌, ℕ, ◌+◌, ◌-◌, ◌*◌, ltb, Option, None, Some}
use Rattle.text.specs.Text.{digit}

-- "4,294,967,295"
abbrev pub most : ℕ
most = 0xFFFF_FFFF

-- the number that some digits and one more make; more than the most where that is no digit
abbrev pub digit_of : ℕ → ℕ → ℕ
digit_of number letter = cond (ltb letter (digit 0) || ltb (digit 9) letter) (most + 1) (number * 10 + (letter - digit 0))

-- that number, where it is no more than the most
abbrev pub number_after : ℕ → ℕ → Option ℕ
number_after number letter = cond (ltb most (digit_of number letter)) None (Some (digit_of number letter))

-- digits one after another, none of which takes the number past the most
abbrev pub number_from : ℕ → List ℕ → Option ℕ
number_from number [] = Some number
number_from number (letter ∷ word) = cond (ltb most (digit_of number letter)) None (number_from (digit_of number letter) word)

-- there is at least one
unfoldable pub parsed_of : List ℕ → Option ℕ
parsed_of [] = None
parsed_of (letter ∷ word) = number_from 0 (letter ∷ word)

-- what is said of a number that a word says, since the system hands the word over: it is that of some word
pub record Said (r : Option ℕ) : Type 0 where
  pub word : List ℕ
  pub is : r ≡ parsed_of word
