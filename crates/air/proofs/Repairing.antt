-- The loop that repairs fourteen words.
-- Assumes nothing.
use mathlib.Core.Path.{◌≡◌, refl, sym, ap, ◌∙◌}
use mathlib.Core.Bool.{Bool}
use mathlib.Core.List.{List}
use Prim.Native.Nat.{ℕ, ◌+◌, ◌<◌, ◌≤◌}
use native.Mathlib.Nat.{le_refl}
use lib.ListN.{set, replicate}
use borrow.Author.Tests.{lt-ltb, le-ltb}
use Rattle.base.specs.Lists.{tabulate, lowest}
use Rattle.base.proofs.Lowest.{Passed, starts, goes_on, stops, ends}
use Rattle.base.proofs.Fill.{Filled, fill_starts, fill_goes_on, fill_whole}
use Rattle.word.specs.declared.Repaired.{Repaired}
use Rattle.std.specs.Prelude.{Option, Some}
use Rattle.word.specs.Repairs.{beyond, is_beyond, word_of, pattern_of}
use Rattle.air.specs.Air.{word_count}
use Rattle.air.specs.WordRepairs.{repair_at, first_beyond, repaired_of, patterns_in, flips_in, flip_total, all_repaired, stopped_at, repair_words_of}

module _ (words : List ℕ) where
  abbrev beyond_at : ℕ → Bool
  beyond_at j = is_beyond (repair_at words j)

  abbrev word_repaired : ℕ → ℕ
  word_repaired j = word_of (repair_at words j)

  abbrev pattern_at : ℕ → ℕ
  pattern_at j = pattern_of (repair_at words j)

  -- the words before j are repaired and their patterns kept
  pub record Repairing (j : ℕ) (repaired patterns : List ℕ) : Type 0 where
    pub passed : Passed word_count beyond_at j
    pub filled : Filled word_repaired word_count (replicate word_count 0) j repaired
    pub patterned : Filled pattern_at word_count (replicate word_count 0) j patterns

  pub repairs_start : Repairing 0 (replicate word_count 0) (replicate word_count 0)
  repairs_start = record {
    passed = starts word_count beyond_at;
    filled = fill_starts word_repaired word_count (replicate word_count 0) (le_refl word_count);
    patterned = fill_starts pattern_at word_count (replicate word_count 0) (le_refl word_count);
  }

  module _ (j : ℕ) (repaired patterns : List ℕ) (so : Repairing j repaired patterns) where
    module _ (answer : Option Repaired) (r : Repaired) (h : j < word_count) (is : answer ≡ repair_at words j) (found : answer ≡ Some r) where
      here : repair_at words j ≡ Some r
      here = sym is ∙ found

      pattern_is : r.flips ≡ pattern_at j
      pattern_is = sym (ap pattern_of here)

      pub repairs_go_on : Repairing (j + 1) (set repaired j r.word) (set patterns j r.flips)
      repairs_go_on = record {
        passed = goes_on word_count beyond_at j so.passed h (ap is_beyond here);
        filled = fill_goes_on word_repaired word_count (replicate word_count 0) j repaired so.filled r.word h (sym (ap word_of here));
        patterned = fill_goes_on pattern_at word_count (replicate word_count 0) j patterns so.patterned r.flips h pattern_is;
      }

    pub repairs_stop : j < word_count → beyond ≡ repair_at words j → stopped_at j ≡ repair_words_of words
    unfolding repair_words_of first_beyond
    repairs_stop h is =
        let at : j ≡ lowest word_count beyond_at = stops word_count beyond_at j so.passed h (ap is_beyond (sym is)) in
        rw (← at, lt-ltb j word_count h)

    pub repairs_end : (total : ℕ) → word_count ≤ j → total ≡ flip_total patterns → all_repaired (record { words = repaired; patterns = patterns; flips = total }) ≡ repair_words_of words
    unfolding repair_words_of first_beyond repaired_of patterns_in flips_in
    repairs_end total h flips =
        let none : j ≡ lowest word_count beyond_at = ends word_count beyond_at j so.passed h in
        let full : repaired ≡ tabulate word_count word_repaired = fill_whole word_repaired word_count (replicate word_count 0) j repaired so.filled h refl in
        let kept : patterns ≡ tabulate word_count pattern_at = fill_whole pattern_at word_count (replicate word_count 0) j patterns so.patterned h refl in
        rw (← none, le-ltb j word_count h, full, flips, kept)
