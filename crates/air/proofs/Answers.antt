-- What the answer of `repair_words` says: the lowest word beyond repair, or the valid words and their flip patterns.
-- Assumes nothing.
use mathlib.Core.Path.{◌≡◌, refl, sym, ap, ◌∙◌}
use mathlib.Core.Logic.{⊎_elim}
use mathlib.Core.List.{List, []}
use mathlib.Core.Bool.{Bool, true, false, true≢false}
use Rattle.std.specs.Prelude.{Result, Ok, Err}
use Prim.Native.Nat.{ℕ, ◌<◌, ◌≤◌, zero-le}
use native.Mathlib.Omega.{arith}
use lib.Count.{ones_in}
use lib.Dec.{lit<}
use lib.ListN.{length, get_or}
use borrow.Author.Tests.{lt-ltb, le-ltb}
use Rattle.base.proofs.Tests.{lt_or_ge}
use Rattle.base.proofs.Lowest.{lowest_is}
use Rattle.base.proofs.Tabulate.{tabulate_length, tabulate_all}
use Rattle.word.specs.Words.{word_limit, flip_count}
use Rattle.word.specs.Repairs.{is_beyond, word_of, pattern_of, radius}
use Rattle.word.proofs.Answer.{repaired_lt, repair_few, pattern_lt}
use Rattle.air.specs.declared.RepairedWords.{RepairedWords}
use Rattle.air.specs.Air.{word_count}
use Rattle.air.specs.WordRepairs.{repair_at, first_beyond, repaired_of, patterns_in, flip_total, flips_in, all_repaired, stopped_at, repair_words_of}

-- the parts of an answer: the lowest word beyond repair, 14 where there is none; whether there is one; and what is repaired
abbrev place_in : Result RepairedWords ℕ → ℕ
place_in (Ok m) = word_count
place_in (Err place) = place

abbrev stops_in : Result RepairedWords ℕ → Bool
stops_in (Ok m) = false
stops_in (Err place) = true

abbrev words_in : Result RepairedWords ℕ → List ℕ
words_in (Ok m) = m.words
words_in (Err place) = []

abbrev patterns_of : Result RepairedWords ℕ → List ℕ
patterns_of (Ok m) = m.patterns
patterns_of (Err place) = []

abbrev flips_of : Result RepairedWords ℕ → ℕ
flips_of (Ok m) = m.flips
flips_of (Err place) = 0

module _ (words : List ℕ) where
  pub beyond_le : first_beyond words ≤ word_count
  unfolding first_beyond
  beyond_le = (lowest_is (λ j. is_beyond (repair_at words j)) word_count).inside

  pub repaired_words : (k : ℕ) → get_or (repaired_of words) k 0 < word_limit
  unfolding repaired_of
  repaired_words = tabulate_all (λ w. w < word_limit) (λ j. word_of (repair_at words j)) word_count (lit< tt) (λ j h. repaired_lt (get_or words j 0))

  -- each pattern is "a 15-bit number with at most three ones", and the total is the ones of all
  pub patterns_length : length (patterns_in words) ≡ word_count
  unfolding patterns_in
  patterns_length = tabulate_length (λ j. pattern_of (repair_at words j)) word_count

  pub patterns_lt : (k : ℕ) → get_or (patterns_in words) k 0 < word_limit
  unfolding patterns_in
  patterns_lt = tabulate_all (λ e. e < word_limit) (λ j. pattern_of (repair_at words j)) word_count (lit< tt) (λ j h. pattern_lt (get_or words j 0))

  pub patterns_few : (k : ℕ) → flip_count (get_or (patterns_in words) k 0) ≤ radius
  unfolding patterns_in ones_in
  patterns_few = tabulate_all (λ e. flip_count e ≤ radius) (λ j. pattern_of (repair_at words j)) word_count zero-le (λ j h. repair_few (get_or words j 0))

  pub flips_are_ones : flips_in words ≡ flip_total (patterns_in words)
  unfolding flips_in
  flips_are_ones = refl

  stopped : first_beyond words < word_count → repair_words_of words ≡ stopped_at (first_beyond words)
  unfolding repair_words_of
  stopped h = rw (lt-ltb (first_beyond words) word_count h)

  whole : word_count ≤ first_beyond words → repair_words_of words ≡ all_repaired (record { words = repaired_of words; patterns = patterns_in words; flips = flips_in words })
  unfolding repair_words_of
  whole h = rw (le-ltb (first_beyond words) word_count h)

  told_place : (r : Result RepairedWords ℕ) → r ≡ repair_words_of words → place_in r ≡ first_beyond words
  told_place r is =
      ⊎_elim (λ (h : first_beyond words < word_count). ap place_in (is ∙ stopped h))
      (λ (h : word_count ≤ first_beyond words). ap place_in (is ∙ whole h) ∙ omega (arith, beyond_le))
      (lt_or_ge (first_beyond words) word_count)

  pub told_beyond : (place : ℕ) → stopped_at place ≡ repair_words_of words → place ≡ first_beyond words
  told_beyond place is = told_place (stopped_at place) is

  pub told_inside : (place : ℕ) → stopped_at place ≡ repair_words_of words → place < word_count
  told_inside place is =
      ⊎_elim (λ (h : first_beyond words < word_count). rw (told_beyond place is) h)
      (λ (h : word_count ≤ first_beyond words). absurd (true≢false (ap stops_in (is ∙ whole h))))
      (lt_or_ge (first_beyond words) word_count)

  -- where no word is beyond repair, all are repaired
  pub record AllRepaired (m : RepairedWords) : Type 0 where
    pub none_beyond : first_beyond words ≡ word_count
    pub all : m.words ≡ repaired_of words
    pub patterned : m.patterns ≡ patterns_in words
    pub counted : m.flips ≡ flips_in words

  pub told_all : (m : RepairedWords) → all_repaired m ≡ repair_words_of words → AllRepaired m
  told_all m is =
      let none : word_count ≡ first_beyond words = told_place (all_repaired m) is in
      let so = is ∙ whole (omega arith) in
      record { none_beyond = sym none; all = ap words_in so; patterned = ap patterns_of so; counted = ap flips_of so }
