-- Fourteen words repaired: the lowest beyond repair, or the valid words and the flip patterns.
-- Assumes nothing.
use Rattle.std.specs.Prelude.{ℕ, zero, suc, cond, List, Option, Result, Ok, Err, ltb, leb, get_or}
use Rattle.base.specs.Lists.{tabulate, sum_to, lowest}
use Rattle.word.specs.declared.Repaired.{Repaired}
use Rattle.word.specs.Words.{flip_count}
use Rattle.word.specs.Repairs.{repair_of, is_beyond, word_of, pattern_of}
use Rattle.air.specs.declared.RepairedWords.{RepairedWords}
use Rattle.air.specs.Air.{word_count}

-- the answer of repair for word j
abbrev pub repair_at : List ℕ → ℕ → Option Repaired
repair_at words j = repair_of (get_or words j 0)

-- the lowest word beyond repair; 14 where there is none
unfoldable pub first_beyond : List ℕ → ℕ
first_beyond words = lowest word_count (λ j. is_beyond (repair_at words j))

-- the valid words that the words become
unfoldable pub repaired_of : List ℕ → List ℕ
repaired_of words = tabulate word_count (λ j. word_of (repair_at words j))

-- "fourteen patterns": those of the words
unfoldable pub patterns_in : List ℕ → List ℕ
patterns_in words = tabulate word_count (λ j. pattern_of (repair_at words j))

-- "the total being their ones"
abbrev pub flip_total : List ℕ → ℕ
flip_total patterns = sum_to word_count (λ j. flip_count (get_or patterns j 0))

unfoldable pub flips_in : List ℕ → ℕ
flips_in words = flip_total (patterns_in words)

-- an answer: all words repaired, or a word beyond repair, which has nothing beside it
abbrev pub all_repaired : RepairedWords → Result RepairedWords ℕ
all_repaired m = Ok m

abbrev pub stopped_at : ℕ → Result RepairedWords ℕ
stopped_at place = Err place

unfoldable pub repair_words_of : List ℕ → Result RepairedWords ℕ
repair_words_of words =
    cond (ltb (first_beyond words) word_count)
    (stopped_at (first_beyond words))
    (all_repaired (record { words = repaired_of words; patterns = patterns_in words; flips = flips_in words }))

-- the greatest of f 0, f 1, .. f (n - 1); 0 where there is none
unfoldable pub greatest : ℕ → (ℕ → ℕ) → ℕ
greatest zero f = 0
greatest (suc n) f = cond (ltb (greatest n f) (f n)) (f n) (greatest n f)

-- "the lowest word with the most flips", of fourteen patterns
unfoldable pub worst_of : List ℕ → ℕ
worst_of patterns =
    let flips : ℕ → ℕ = λ j. flip_count (get_or patterns j 0) in
    lowest word_count (λ j. leb (greatest word_count flips) (flips j))
