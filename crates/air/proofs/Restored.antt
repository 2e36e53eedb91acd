-- Damage that is undone: where every word lies within three places of a valid one, these valid words come back.
-- Assumes nothing.
use mathlib.Core.Path.{◌≡◌, refl, sym, ap, ◌∙◌}
use mathlib.Core.List.{List}
use Prim.Native.Nat.{ℕ, ◌<◌, zero-le}
use lib.Bits.{bit_xor, xor_self}
use lib.ListN.{get_or, replicate}
use Rattle.base.proofs.Lowest.{lowest_none, lowest_is}
use Rattle.base.proofs.Tabulate.{tabulate_length, tabulate_at, tabulate_is, tabulate_same, read_replicated}
use Rattle.base.proofs.Sums.{sum_same, sum_zero}
use Rattle.word.specs.Words.{word_limit, flip_count}
use Rattle.word.specs.Repairs.{found, is_beyond, word_of, pattern_of}
use Rattle.word.proofs.Valids.{distance_is, distance_self}
use Rattle.word.proofs.Answer.{repair_close, repaired_close}
use Rattle.air.specs.Air.{word_count}
use Rattle.air.specs.WordRepairs.{repair_at, first_beyond, repaired_of, patterns_in, flip_total, flips_in}
use Rattle.air.specs.Closeness.{AllClose, differences, distances, ValidWords}
use Rattle.air.proofs.Answers.{flips_are_ones}

-- the places in which words differ, counted
pub distances_are : (words valid : List ℕ) → distances words valid ≡ flip_total (differences words valid)
distances_are words valid =
    sum_same word_count _ _
    (λ j h. distance_is (get_or words j 0) (get_or valid j 0) ∙ ap flip_count (sym (tabulate_at (λ j. bit_xor (get_or words j 0) (get_or valid j 0)) 0 word_count j h)))

module _ (words : List ℕ) (small : (j : ℕ) → get_or words j 0 < word_limit) where
  module _ (valid : List ℕ) (so : AllClose words valid) where
    restored_at : (j : ℕ) → j < word_count → repair_at words j ≡ found (get_or valid j 0) (bit_xor (get_or words j 0) (get_or valid j 0))
    restored_at j h = repair_close (get_or words j 0) (get_or valid j 0) (small j) (so.each j h)

    pub restored_none : first_beyond words ≡ word_count
    unfolding first_beyond
    restored_none = lowest_none word_count (λ j. is_beyond (repair_at words j)) (λ j h. ap is_beyond (restored_at j h))

    pub restored_words : repaired_of words ≡ valid
    unfolding repaired_of
    restored_words = tabulate_is (λ j. word_of (repair_at words j)) 0 word_count valid so.long (λ j h. ap word_of (restored_at j h))

    -- with the very places in which they differ
    pub restored_patterns : patterns_in words ≡ differences words valid
    unfolding patterns_in
    restored_patterns = tabulate_same _ _ word_count (λ j h. ap pattern_of (restored_at j h))

    pub restored_flips : flips_in words ≡ distances words valid
    restored_flips = flips_are_ones words ∙ ap flip_total restored_patterns ∙ sym (distances_are words valid)

  -- and the words that repair gives, where none is beyond it, are close
  pub repaired_all_close : first_beyond words ≡ word_count → AllClose words (repaired_of words)
  unfolding first_beyond repaired_of
  repaired_all_close none = record {
    long = tabulate_length (λ j. word_of (repair_at words j)) word_count;
    each = λ j h.
        rw (tabulate_at (λ j. word_of (repair_at words j)) 0 word_count j h)
        (repaired_close (get_or words j 0) (small j) ((rw none at (lowest_is (λ j. is_beyond (repair_at words j)) word_count).before) j h));
  }

-- the words that they become are valid
pub close_valid : (words valid : List ℕ) → AllClose words valid → ValidWords valid
close_valid words valid so = record { long = so.long; each = λ j h. (so.each j h).valid }

-- nothing is flipped in words that came as they were sent
pub close_self : (words : List ℕ) → ValidWords words → AllClose words words
close_self words ok = record { long = ok.long; each = λ j h. record { valid = ok.each j h; near = rw (distance_self (get_or words j 0)) zero-le } }

pub differences_self : (words : List ℕ) → differences words words ≡ replicate word_count 0
differences_self words =
    tabulate_is _ 0 word_count (replicate word_count 0) refl
    (λ j h. xor_self (get_or words j 0) ∙ sym (read_replicated word_count j 0))

pub distances_self : (words : List ℕ) → distances words words ≡ 0
distances_self words = sum_same word_count _ _ (λ j h. distance_self (get_or words j 0)) ∙ sum_zero word_count
