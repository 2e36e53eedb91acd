-- Numbers with a sign as texts.
-- Assumes nothing.
use Rattle.std.specs.Prelude.{cond, List, [], ◌++◌, ℕ, ◌+◌, ℤ, nat_abs}
use Rattle.std.specs.Int.Signed.{non_neg}
use Rattle.text.specs.Text.{ascii, decimal_of, most_digits}

-- a minus sign where the number is below 0
unfoldable pub minus_of : ℤ → List ℕ
minus_of x = cond (non_neg x) [] (ascii "-")

-- a number in decimal, with its sign
unfoldable pub signed_of : ℤ → List ℕ
signed_of x = minus_of x ++ decimal_of (nat_abs x)

-- the most bytes that one of 64 bits takes
abbrev pub signed_room : ℕ
signed_room = 1 + most_digits
