-- The rows of the table, in the form in which they are computed: the 32 valid words are written out once.
-- Assumes nothing.
use mathlib.Core.Path.{◌≡◌, refl, sym, ap}
use mathlib.Core.Bool.{Bool, true, false, cond}
use mathlib.Core.List.{List, [], ◌∷◌, map}
use Prim.Native.Nat.{ℕ, zero, suc, ◌+◌, ◌<◌}
use native.Mathlib.Nat.{add-suc, suc-add}
use native.Mathlib.Omega.{arith}
use lib.Bits.{bit_xor}
use lib.Count.{ones_in}
use lib.Dec.{leb, ltb, eqb}
use borrow.Author.Tests.{lt-ltb, le-ltb}
use Rattle.base.specs.Lists.{count, tabulate, lowest_from, lowest, sum_to, how_many}
use Rattle.base.proofs.Tabulate.{tabulate_same}
use Rattle.base.proofs.Sums.{sum_same}
use Rattle.word.specs.Words.{word_limit, multiple_of, flip_count, distance}
use Rattle.word.specs.Repairs.{at, none, within, nearest, repaired_to, repair_of, mark, row_for, row_of, syndromes, radius, table_rows}

unfoldable pub listed : List ℕ
listed = 0x0 ∷ 0x537 ∷ 0xA6E ∷ 0xF59 ∷ 0x14DC ∷ 0x11EB ∷ 0x1EB2 ∷ 0x1B85 ∷ 0x29B8 ∷ 0x2C8F ∷ 0x23D6 ∷ 0x26E1 ∷ 0x3D64 ∷ 0x3853 ∷ 0x370A ∷ 0x323D ∷ 0x5370 ∷ 0x5647 ∷ 0x591E ∷ 0x5C29 ∷ 0x47AC ∷ 0x429B ∷ 0x4DC2 ∷ 0x48F5 ∷ 0x7AC8 ∷ 0x7FFF ∷ 0x70A6 ∷ 0x7591 ∷ 0x6E14 ∷ 0x6B23 ∷ 0x647A ∷ 0x614D ∷ []

listed_is : map multiple_of (count 32 0) ≡ listed
unfolding multiple_of listed
listed_is = refl

-- the flips from r to the first of some words that is within three
unfoldable pub flips_among : ℕ → List ℕ → ℕ
flips_among r [] = mark
flips_among r (v ∷ vs) = cond (leb (flip_count (bit_xor r v)) radius) (bit_xor r v) (flips_among r vs)

-- what the table holds for r, where the valid words are those of n multipliers from i on
abbrev row_from : ℕ → ℕ → ℕ → ℕ
row_from r n i = row_for (repaired_to r (cond (ltb (lowest_from i n (within r)) (i + n)) (at (multiple_of (lowest_from i n (within r)))) none))

among : (r n i : ℕ) → flips_among r (map multiple_of (count n i)) ≡ row_from r n i
unfolding flips_among distance
among r zero i = rw (le-ltb i (i + 0) (omega arith))
among r (suc n) i = by (among r n (suc i)) (within r i) refl
  where
    by : flips_among r (map multiple_of (count n (suc i))) ≡ row_from r n (suc i) → (b : Bool) → within r i ≡ b → flips_among r (map multiple_of (count (suc n) i)) ≡ row_from r (suc n) i
    by rest true e = rw (e, lt-ltb i (i + suc n) (omega arith))
    by rest false e = rw (e, add-suc, ← suc-add) rest

pub row_among : (r : ℕ) → r < table_rows → row_of r ≡ flips_among r listed
unfolding row_of repair_of nearest lowest
row_among r h = rw (lt-ltb r word_limit (omega arith), ← listed_is) (sym (among r 32 0))

pub syndromes_among : tabulate table_rows (λ r. flips_among r listed) ≡ syndromes
unfolding syndromes
syndromes_among = sym (tabulate_same row_of (λ r. flips_among r listed) 1024 row_among)

counted : (test : ℕ → Bool) → how_many table_rows (λ r. test (row_of r)) ≡ how_many table_rows (λ r. test (flips_among r listed))
counted test = sum_same 1024 _ _ (λ r h. ap (λ (e : ℕ). cond (test e) 1 0) (row_among r h))

-- "576 with a flip pattern of at most three bits, 448 marked as beyond repair"
pub rows_with_pattern : how_many table_rows (λ r. leb (flip_count (row_of r)) radius) ≡ 576
unfolding sum_to flips_among listed ones_in
rows_with_pattern = counted (λ e. leb (flip_count e) radius)

pub rows_marked : how_many table_rows (λ r. eqb (row_of r) mark) ≡ 448
unfolding sum_to flips_among listed ones_in
rows_marked = counted (λ e. eqb e mark)
