-- Fourteen valid words, and words that become them.
-- Assumes nothing.
use Rattle.std.specs.Prelude.{◌≡◌, List, ℕ, ◌<◌, length, get_or}
use Rattle.std.specs.Int.Bits.{bit_xor}
use Rattle.base.specs.Lists.{tabulate, sum_to}
use Rattle.word.specs.Words.{Valid, distance}
use Rattle.word.specs.Repairs.{Close}
use Rattle.air.specs.Air.{word_count}

-- fourteen valid words
pub record ValidWords (words : List ℕ) : Type 0 where
  pub long : length words ≡ word_count
  pub each : (j : ℕ) → j < word_count → Valid (get_or words j 0)

-- "A word becomes the valid word that differs in at most three places": fourteen words, each beside the one that it becomes
pub record AllClose (words valid : List ℕ) : Type 0 where
  pub long : length valid ≡ word_count
  pub each : (j : ℕ) → j < word_count → Close (get_or words j 0) (get_or valid j 0)

-- in which places the words differ from these
abbrev pub differences : List ℕ → List ℕ → List ℕ
differences words valid = tabulate word_count (λ j. bit_xor (get_or words j 0) (get_or valid j 0))

-- and in how many
abbrev pub distances : List ℕ → List ℕ → ℕ
distances words valid = sum_to word_count (λ j. distance (get_or words j 0) (get_or valid j 0))
