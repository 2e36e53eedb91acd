-- The loop that looks for the lowest word with the most flips.
-- Assumes nothing.
use mathlib.Core.Path.{◌≡◌, refl, sym, ◌∙◌}
use mathlib.Core.Logic.{⊎_elim}
use mathlib.Core.List.{List}
use Prim.Native.Nat.{ℕ, zero, suc, ◌+◌, ◌%◌, ◌≤◌, ◌<◌, zero-le}
use native.Mathlib.Nat.{eq-or-lt_of_le, le_of_suc-le-suc, not-suc-le-zero, mod-lt}
use native.Mathlib.Numerals.{add-one}
use native.Mathlib.Omega.{arith}
use lib.Count.{ones}
use lib.Dec.{leb, lit<}
use lib.ListN.{get_or}
use lib.Pow.{pow_pos}
use borrow.Author.Tests.{lt-ltb, le-ltb, le-leb, lt-leb}
use Rattle.base.proofs.Tests.{lt_or_ge}
use Rattle.base.proofs.Lowest.{lowest_is, lowest_only}
use Rattle.base.proofs.Ones.{ones_in_lem, ones_low}
use Rattle.word.specs.Words.{positions, word_limit, flip_count}
use Rattle.air.specs.Air.{word_count}
use Rattle.air.specs.WordRepairs.{greatest, worst_of}

-- the ones of a pattern at the positions of a word
pub count_is : (pattern : ℕ) → ones (pattern % word_limit) ≡ flip_count pattern
count_is pattern = ones_in_lem positions (pattern % word_limit) (mod-lt pattern (pow_pos positions)) ∙ ones_low positions pattern

-- each is at most the greatest
greatest_le : (n : ℕ) (f : ℕ → ℕ) (k : ℕ) → k < n → f k ≤ greatest n f
unfolding greatest
greatest_le zero f k h = absurd (not-suc-le-zero h)
greatest_le (suc n) f k h =
    ⊎_elim
    (λ (more : greatest n f < f n).
    rw (lt-ltb (greatest n f) (f n) more)
    (⊎_elim (λ (same : k ≡ n). rw same (omega arith)) (λ (below : k < n). omega (arith, greatest_le n f k below)) (eq-or-lt_of_le (le_of_suc-le-suc h))))
    (λ (less : f n ≤ greatest n f).
    rw (le-ltb (greatest n f) (f n) less)
    (⊎_elim (λ (same : k ≡ n). rw same less) (λ (below : k < n). greatest_le n f k below) (eq-or-lt_of_le (le_of_suc-le-suc h))))
    (lt_or_ge (greatest n f) (f n))

greatest_more : (n : ℕ) (f : ℕ → ℕ) → greatest n f < f n → greatest (n + 1) f ≡ f n
unfolding greatest
greatest_more n f h = rw (add-one, lt-ltb (greatest n f) (f n) h)

greatest_same : (n : ℕ) (f : ℕ → ℕ) → f n ≤ greatest n f → greatest (n + 1) f ≡ greatest n f
unfolding greatest
greatest_same n f h = rw (add-one, le-ltb (greatest n f) (f n) h)

module _ (patterns : List ℕ) where
  abbrev flips : ℕ → ℕ
  flips j = flip_count (get_or patterns j 0)

  -- of the words before j, `worst` is the lowest with the most flips
  pub record Worst (j worst most : ℕ) : Type 0 where
    pub inside : j ≤ word_count
    pub among : worst < word_count
    pub is : most ≡ greatest j flips
    pub fewer : (k : ℕ) → k < worst → flips k < most
    pub there : most ≤ flips worst

  pub worst_starts : Worst 0 0 0
  unfolding greatest
  worst_starts = record { inside = zero-le; among = lit< tt; is = refl; fewer = λ k h. absurd (not-suc-le-zero h); there = zero-le }

  module _ (j worst most : ℕ) (so : Worst j worst most) where
    module _ (h : j < word_count) (n : ℕ) (counted : n ≡ flips j) where
      pub worst_is_next : most < n → Worst (j + 1) j n
      worst_is_next more =
          let above : greatest j flips < flips j = omega (arith, so.is) in
          record {
            inside = omega arith;
            among = h;
            is = counted ∙ sym (greatest_more j flips above);
            fewer = λ k below. omega (arith, greatest_le j flips k below, above);
            there = omega arith;
          }

      pub worst_stays : n ≤ most → Worst (j + 1) worst most
      worst_stays less = record {
        inside = omega arith;
        among = so.among;
        is = so.is ∙ sym (greatest_same j flips (omega (arith, so.is)));
        fewer = so.fewer;
        there = so.there;
      }

    pub worst_ends : word_count ≤ j → worst ≡ worst_of patterns
    unfolding worst_of
    worst_ends h =
        let all : j ≡ word_count = omega (arith, so.inside) in
        let most-is : most ≡ greatest word_count flips = rw all at so.is in
        lowest_only (λ k. leb (greatest word_count flips) (flips k)) word_count worst _
        (record {
          inside = omega (arith, so.among);
          before = λ k below. lt-leb (greatest word_count flips) (flips k) (omega (arith, so.fewer k below, most-is));
          passes = λ lt. le-leb (greatest word_count flips) (flips worst) (omega (arith, so.there, most-is));
        })
        (lowest_is (λ k. leb (greatest word_count flips) (flips k)) word_count)
