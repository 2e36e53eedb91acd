-- The counts of refusals, one for each number that is counted.
-- Assumes nothing.
use Rattle.std.specs.Prelude.{ℕ, cond, List, [], ◌∷◌, length, nat_lt, slice_index, slice_set}
use Rattle.base.specs.Lists.{sum_to, place_in}
use Rattle.source.specs.Records.{add_of}

-- "and a count for each of the refusals 1 to 8"; 20 and 21, "The sheet counts both"; 23 and 24, "Both are counted by the sheet"
abbrev pub counted : List ℕ
counted = 1 ∷ 2 ∷ 3 ∷ 4 ∷ 5 ∷ 6 ∷ 7 ∷ 8 ∷ 20 ∷ 21 ∷ 23 ∷ 24 ∷ []

abbrev pub refusal_counts : ℕ
refusal_counts = length counted

-- the number that count k is of; 0 where there is none
abbrev pub counted_at : ℕ → ℕ
counted_at k = slice_index counted k

-- the place of a number's count; past the last where it is not counted
unfoldable pub slot_of : ℕ → ℕ
slot_of number = place_in counted number

-- "A frame refused with 1 to 8", 20, 21, 23 or 24 "adds one to that refusal's count and touches no frame record." Any other number changes nothing.
unfoldable pub counts_after : List ℕ → ℕ → List ℕ
counts_after counts number = cond (nat_lt (slot_of number) refusal_counts) (slice_set counts (slot_of number) (add_of (slice_index counts (slot_of number)) 1)) counts

-- "refused over all numbers"
abbrev pub total_in : List ℕ → ℕ
total_in counts = sum_to refusal_counts (λ k. slice_index counts k)
