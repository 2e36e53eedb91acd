-- Letters as digits, and the bytes that they make.
-- Assumes nothing.
use Rattle.std.specs.Prelude.{ℕ, ◌+◌, ◌-◌, ◌*◌, ◌<◌, leb, List, [], ◌∷◌, length, nat_le, nat_lt, slice_index}
use Rattle.base.specs.Checks.{check, first}
use Rattle.base.specs.Lists.{lowest}

-- what stands for a letter that is no digit
abbrev pub no_digit : ℕ
no_digit = 16

-- what a letter is worth: "0" to "9" have the codes 48 to 57, "A" to "F" 65 to 70, "a" to "f" 97 to 102
unfoldable pub digit_value : ℕ → ℕ
digit_value x =
    first no_digit
    (check (nat_lt x 48) no_digit
    ∷ check (nat_le x 57) (x - 48)
    ∷ check (nat_lt x 65) no_digit
    ∷ check (nat_le x 70) (10 + (x - 65))
    ∷ check (nat_lt x 97) no_digit
    ∷ check (nat_le x 102) (10 + (x - 97))
    ∷ [])

-- how many digits of a base stand in front: the place of the first letter that is none, the length where all are
unfoldable pub digits_ahead : ℕ → List ℕ → ℕ
digits_ahead base l = lowest (length l) (λ k. leb base (digit_value (slice_index l k)))

-- all are digits of a base
pub record AreDigits (base : ℕ) (l : List ℕ) : Type 0 where
  pub each : (k : ℕ) → k < length l → digit_value (slice_index l k) < base

-- a byte for each digit, and one for every two
abbrev pub bits_in : List ℕ → List ℕ
bits_in [] = []
bits_in (x ∷ l) = digit_value x ∷ bits_in l

abbrev pub bytes_in : List ℕ → List ℕ
bytes_in [] = []
bytes_in (x ∷ []) = []
bytes_in (x ∷ y ∷ l) = (digit_value x * 16 + digit_value y) ∷ bytes_in l
