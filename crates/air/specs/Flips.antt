-- Flips on the way: the places in which two headers on air differ.
-- Assumes nothing.
use Rattle.std.specs.Prelude.{◌≡◌, Bool, true, not, cond, List, ℕ, ◌+◌, ◌*◌, ◌^◌, ◌<◌, ◌≤◌, eqb, get_or}
use Rattle.base.specs.Lists.{tabulate, sum_to, how_many}
use Rattle.air.specs.Air.{word_count, air_bits}
use Rattle.word.specs.Words.{positions}
use Rattle.word.specs.Repairs.{radius}

abbrev pub differs_at : List ℕ → List ℕ → ℕ → Bool
differs_at x y n = not (eqb (get_or x n 0) (get_or y n 0))

-- in how many of the 210 places
unfoldable pub flips_between : List ℕ → List ℕ → ℕ
flips_between x y = how_many air_bits (differs_at x y)

-- in how many places of word j
unfoldable pub flips_in_word : List ℕ → List ℕ → ℕ → ℕ
flips_in_word x y j = how_many positions (λ i. differs_at x y (word_count * i + j))

-- "the exact pattern of every word": bit i of the pattern of word j is 1 where air bit 14 i + j differs, else 0
unfoldable pub flip_pattern : List ℕ → List ℕ → ℕ → ℕ
flip_pattern x y j = sum_to positions (λ i. cond (differs_at x y (word_count * i + j)) 1 0 * 2 ^ i)

unfoldable pub flip_patterns : List ℕ → List ℕ → List ℕ
flip_patterns x y = tabulate word_count (flip_pattern x y)

-- the most flips that repair undoes in one header, 42: three in each of fourteen words
abbrev pub most_flips : ℕ
most_flips = radius * word_count

-- "a burst" of up to so many "neighbouring bits": the two differ only in these places from `start` on
abbrev pub Burst : ℕ → ℕ → List ℕ → List ℕ → Type 0
Burst size start x y = (n : ℕ) → n < air_bits → differs_at x y n ≡ true → (start ≤ n) × (n < start + size)
