-- For contracts inside: sixteen lanes, of which the first fourteen are the words of a header.
-- Assumes nothing.
use Rattle.std.specs.Prelude.{List, ℕ, ◌+◌, ◌*◌, ◌^◌, get_or}
use Rattle.base.specs.Lists.{tabulate, sum_to}
use Rattle.word.specs.Words.{flip_count}
use Rattle.air.specs.Air.{word_count}

abbrev pub lane_count : ℕ
lane_count = 16

-- the top position of a word
abbrev pub top_position : ℕ
top_position = 14

-- what the positions below i make of lane j: for a word, what `word_at` makes of all
abbrev pub lane_to : List ℕ → ℕ → ℕ → ℕ
lane_to air i j = sum_to i (λ p. get_or air (word_count * p + j) 0 * 2 ^ p)

unfoldable pub lanes_to : List ℕ → ℕ → List ℕ
lanes_to air i = tabulate lane_count (lane_to air i)

-- fourteen patterns, and 0 past them
unfoldable pub padded : List ℕ → List ℕ
padded patterns = tabulate lane_count (λ k. get_or patterns k 0)

-- the flips of each pattern
unfoldable pub counts_of : List ℕ → List ℕ
counts_of patterns = tabulate lane_count (λ k. flip_count (get_or patterns k 0))

-- all lanes added
unfoldable pub lane_sum : List ℕ → ℕ
lane_sum counts = sum_to lane_count (λ k. get_or counts k 0)
