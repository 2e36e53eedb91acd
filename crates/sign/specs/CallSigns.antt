-- The call signs of the four satellites, and their bits.
-- Assumes nothing.
use Rattle.std.specs.Prelude.{List, [], ◌∷◌, ℕ, ◌/◌, ◌%◌, ◌^◌, get_or, replicate}
use Rattle.base.specs.Lists.{tabulate}
use Rattle.text.specs.Text.{ascii}

-- "they must spell DP0TBB, DP0TBC, DP0TBD or DP0TBE for A to D": A is 0. "Table 2 of 001 prints a letter O; the digit of its Table 1 is right."
abbrev pub call_signs : List (List ℕ)
call_signs = ascii "DP0TBB" ∷ ascii "DP0TBC" ∷ ascii "DP0TBD" ∷ ascii "DP0TBE" ∷ []

-- "six ASCII characters"; for a number that is no satellite's they are 0
unfoldable pub call_sign : ℕ → List ℕ
call_sign satellite = get_or call_signs satellite (replicate 6 0)

-- "in reading order, each lowest bit first": bit n
unfoldable pub sign_bit : ℕ → ℕ → ℕ
sign_bit satellite n = get_or (call_sign satellite) (n / 8) 0 / 2 ^ (n % 8) % 2

-- "the 48 call sign bits"
abbrev pub sign_width : ℕ
sign_width = 48

unfoldable pub sign_of : ℕ → List ℕ
sign_of satellite = tabulate sign_width (sign_bit satellite)
