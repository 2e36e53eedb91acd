-- Where bits stand: a word's positions are its air bits, and what is sent is gathered again.
-- Assumes nothing.
use mathlib.Core.Path.{◌≡◌, ap, ◌∙◌}
use mathlib.Core.List.{List, ◌++◌}
use Prim.Native.Nat.{ℕ, ◌+◌, ◌*◌, ◌/◌, ◌%◌, ◌^◌, ◌<◌}
use native.Mathlib.Nat.{mod-eq_of_lt, mod-lt}
use native.Mathlib.Omega.{arith}
use lib.Dec.{lit<}
use lib.ListN.{length, get_or, get_or-append}
use Rattle.base.specs.Lists.{AreBits}
use Rattle.base.proofs.Tabulate.{tabulate_length, tabulate_at, tabulate_is, tabulate_all}
use Rattle.base.proofs.Sums.{sum_same, sum_bits, made_lt, made_at}
use Rattle.word.specs.Words.{word_limit, positions}
use Rattle.air.specs.Air.{word_count, air_bits, word_at, words_of, air_bit, air_of}

-- the words, one by one
pub words_at : (air : List ℕ) (j : ℕ) → j < word_count → get_or (words_of air) j 0 ≡ word_at air j
unfolding words_of
words_at air j h = tabulate_at (word_at air) 0 word_count j h

-- position i of word j is air bit 14 i + j, and a word has fifteen positions
module _ (air : List ℕ) (bits : AreBits air) where
  pub word_at_lem : (i j : ℕ) → i < positions → word_at air j / 2 ^ i % 2 ≡ get_or air (word_count * i + j) 0
  unfolding word_at
  word_at_lem i j h = made_at (λ i. get_or air (word_count * i + j) 0) (λ i. bits (word_count * i + j)) positions i h

  pub word_lt : (j : ℕ) → word_at air j < word_limit
  unfolding word_at
  word_lt j = made_lt (λ i. get_or air (word_count * i + j) 0) (λ i. bits (word_count * i + j)) positions

  pub words_lt : (j : ℕ) → get_or (words_of air) j 0 < word_limit
  unfolding words_of
  words_lt = tabulate_all (λ w. w < word_limit) (word_at air) word_count (lit< tt) (λ j h. word_lt j)

pub air_length : (words : List ℕ) → length (air_of words) ≡ air_bits
unfolding air_of
air_length words = tabulate_length (air_bit words) air_bits

pub air_bits_lem : (words : List ℕ) → AreBits (air_of words)
unfolding air_of air_bit
air_bits_lem words = tabulate_all (λ b. b < 2) (air_bit words) air_bits (lit< tt) (λ n h. mod-lt (get_or words (n % word_count) 0 / 2 ^ (n / word_count)) (lit< tt))

-- there and back
module _ (words rest : List ℕ) where
  pub air_at : (j i : ℕ) → j < word_count → i < positions → get_or (air_of words ++ rest) (word_count * i + j) 0 ≡ get_or words j 0 / 2 ^ i % 2
  unfolding air_of air_bit
  air_at j i h k =
      let word : (word_count * i + j) % word_count ≡ j = omega arith in
      let place : (word_count * i + j) / word_count ≡ i = omega arith in
      get_or-append (air_of words) rest 0 (word_count * i + j) (rw (tabulate_length (air_bit words) air_bits) (omega arith))
      ∙ tabulate_at (air_bit words) 0 air_bits (word_count * i + j) (omega arith) ∙ rw (word, place)

  word_back : (j : ℕ) → j < word_count → get_or words j 0 < word_limit → word_at (air_of words ++ rest) j ≡ get_or words j 0
  unfolding word_at
  word_back j h small =
      sum_same positions _ _ (λ i k. ap (λ (x : ℕ). x * 2 ^ i) (air_at j i h k)) ∙ sum_bits positions (get_or words j 0) ∙ mod-eq_of_lt small

  pub words_back : length words ≡ word_count → ((j : ℕ) → get_or words j 0 < word_limit) → words_of (air_of words ++ rest) ≡ words
  unfolding words_of
  words_back long small = tabulate_is (word_at (air_of words ++ rest)) 0 word_count words long (λ j h. word_back j h (small j))
