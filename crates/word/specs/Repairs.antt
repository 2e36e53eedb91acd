-- Repair: the nearest valid word, what is answered of it, and the table of flip patterns.
-- Assumes nothing.
use Rattle.std.specs.Prelude.{Bool, true, false, cond, List, Option, Some, None, ℕ, ◌^◌, ◌≤◌, leb, ltb, eqb}
use Rattle.std.specs.Int.Bits.{bit_xor}
use Rattle.base.specs.Lists.{lowest, tabulate}
use Rattle.word.specs.Words.{word_limit, multiple_of, Valid, valid_count, parity_bits, data_of, encode_of, distance}
use Rattle.word.specs.declared.Repaired.{Repaired}

-- the nearest valid word, if there is one
abbrev pub Near : Type 0
Near = Option ℕ

abbrev pub at : ℕ → Near
at = Some

abbrev pub none : Near
none = None

-- "at most three places"
abbrev pub radius : ℕ
radius = 3

-- THE RULE: v is a "valid word that differs in at most three places" from w. The rules that accept a header ask for it (`AllClose`), and
-- `repaired_exactly` shows that repair finds it.
pub record Close (w v : ℕ) : Type 0 where
  pub valid : Valid v
  pub near : distance w v ≤ radius

-- how it is found: the valid word of multiplier q differs from w in no more places than that
abbrev pub within : ℕ → ℕ → Bool
within w q = leb (distance w (multiple_of q)) radius

-- "the valid word that differs in at most three places, if there is one": the first of the 32 that does
abbrev pub nearest_word : ℕ → Near
nearest_word q = cond (ltb q valid_count) (at (multiple_of q)) none

-- "A number above 32,767 is no word: both call it beyond repair"
unfoldable pub nearest : ℕ → Near
nearest w = cond (ltb w word_limit) (nearest_word (lowest valid_count (within w))) none

-- an answer: the word v with the flip pattern e, or "beyond repair"
abbrev pub found : ℕ → ℕ → Option Repaired
found v e = Some (record { word = v; flips = e })

abbrev pub beyond : Option Repaired
beyond = None

-- what is answered of the nearest valid word: it, and "the flip pattern itself", the places in which w differs from it
abbrev pub repaired_to : ℕ → Near → Option Repaired
repaired_to w (Some v) = found v (bit_xor w v)
repaired_to w None = beyond

-- the answer of repair
unfoldable pub repair_of : ℕ → Option Repaired
repair_of w = repaired_to w (nearest w)

-- the parts of an answer; 0 where there is none
abbrev pub is_beyond : Option Repaired → Bool
is_beyond (Some r) = false
is_beyond None = true

abbrev pub word_of : Option Repaired → ℕ
word_of (Some r) = r.word
word_of None = 0

abbrev pub pattern_of : Option Repaired → ℕ
pattern_of (Some r) = r.flips
pattern_of None = 0

-- the remainder modulo 0x537: the multiple with the same five highest coefficients is taken off
unfoldable pub remainder_of : ℕ → ℕ
remainder_of w = bit_xor w (encode_of (data_of w))

-- what the table holds for an answer: its flip pattern, or the mark of a word "beyond repair"
abbrev pub mark : ℕ
mark = 65535

abbrev pub row_for : Option Repaired → ℕ
row_for (Some r) = r.flips
row_for None = mark

-- a row of the table: the flips of the words with the remainder r, of which r is one
unfoldable pub row_of : ℕ → ℕ
row_of r = row_for (repair_of r)

-- "The table is indexed by the 10-bit remainder modulo 0x537: 1,024 rows"
abbrev pub table_rows : ℕ
table_rows = 2 ^ parity_bits

unfoldable pub syndromes : List ℕ
syndromes = tabulate table_rows row_of

-- what a row makes of a word: nothing where it is marked, else the word with the row's flips undone, and these flips
abbrev pub by_row : ℕ → ℕ → Option Repaired
by_row w e = cond (eqb e mark) beyond (found (bit_xor w e) e)
