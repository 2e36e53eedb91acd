-- The places in which words differ, as patterns and counted, are the places in which their air bits do, and all places are those of the
-- fourteen words.
-- Assumes nothing.
use mathlib.Core.Path.{◌≡◌, refl, sym, ap, ap₂, ◌∙◌}
use mathlib.Core.Bool.{Bool, true, false, not, cond}
use mathlib.Core.List.{List}
use Prim.Native.Nat.{ℕ, zero, suc, ◌+◌, ◌*◌, ◌/◌, ◌%◌, ◌^◌, ◌<◌}
use native.Mathlib.Nat.{mod-eq_of_lt}
use native.Mathlib.Omega.{arith}
use lib.Bits.{bit_xor, differ, xor_lt}
use lib.Dec.{eqb, lit<}
use lib.ListN.{length, get_or}
use lib.Seq.{ext_get_or}
use borrow.Author.Tests.{eqb-true, not-false}
use Rattle.base.specs.Lists.{sum_to, AreBits}
use Rattle.base.proofs.Sums.{sum_same, sum_bits, made_at}
use Rattle.base.proofs.Tabulate.{tabulate_at, tabulate_same}
use Rattle.base.proofs.OneMore.{many_none}
use Rattle.base.proofs.Doubles.{sum_blocks, sum_swap}
use Rattle.base.proofs.Ones.{ones_sum, xor_bit}
use Rattle.word.specs.Words.{flip_count, distance, positions}
use Rattle.word.proofs.Valids.{distance_is}
use Rattle.air.specs.Air.{word_count, air_bits, word_at, words_of}
use Rattle.air.specs.WordRepairs.{flip_total}
use Rattle.air.specs.Closeness.{differences}
use Rattle.air.specs.Flips.{differs_at, flips_between, flips_in_word, flip_pattern, flip_patterns}
use Rattle.air.proofs.Places.{words_at, word_at_lem, word_lt}

-- whether position i of word j was flipped, as a bit
abbrev flip_at : List ℕ → List ℕ → ℕ → ℕ → ℕ
flip_at x y j i = cond (differs_at x y (word_count * i + j)) 1 0

flip_lt : (b : Bool) → cond b 1 0 < 2
flip_lt true = lit< tt
flip_lt false = lit< tt

bits_differ : (a b : ℕ) → a < 2 → b < 2 → differ a b ≡ cond (not (eqb a b)) 1 0
bits_differ zero zero h k = refl
bits_differ zero (suc zero) h k = refl
bits_differ (suc zero) zero h k = refl
bits_differ (suc zero) (suc zero) h k = refl
bits_differ (suc (suc a)) b h k = absurd (omega arith)
bits_differ zero (suc (suc b)) h k = absurd (omega arith)
bits_differ (suc zero) (suc (suc b)) h k = absurd (omega arith)

-- a pattern, bit by bit: 1 exactly where the air bits differ
pub flip_pattern_bit : (x y : List ℕ) (i j : ℕ) → i < positions → flip_pattern x y j / 2 ^ i % 2 ≡ cond (differs_at x y (word_count * i + j)) 1 0
unfolding flip_pattern
flip_pattern_bit x y i j h = made_at (flip_at x y j) (λ i. flip_lt (differs_at x y (word_count * i + j))) positions i h

pub flip_pattern_count : (x y : List ℕ) (j : ℕ) → flip_count (flip_pattern x y j) ≡ flips_in_word x y j
unfolding flips_in_word
flip_pattern_count x y j = ones_sum positions (flip_pattern x y j) ∙ sum_same positions _ _ (λ i h. flip_pattern_bit x y i j h)

-- the words of two headers on air
module _ (x y : List ℕ) (bits-x : AreBits x) (bits-y : AreBits y) where
  pub word_pattern : (j : ℕ) → bit_xor (word_at x j) (word_at y j) ≡ flip_pattern x y j
  unfolding flip_pattern
  word_pattern j =
      sym (mod-eq_of_lt (xor_lt positions (word_at x j) (word_at y j) (word_lt x bits-x j) (word_lt y bits-y j)))
      ∙ sym (sum_bits positions (bit_xor (word_at x j) (word_at y j)))
      ∙ sum_same positions _ _ (λ i h. ap (λ (b : ℕ). b * 2 ^ i) (bit_at i h))
    where
      bit_at : (i : ℕ) → i < positions → bit_xor (word_at x j) (word_at y j) / 2 ^ i % 2 ≡ flip_at x y j i
      bit_at i h =
          xor_bit (word_at x j) (word_at y j) i
          ∙ ap₂ differ (word_at_lem x bits-x i j h) (word_at_lem y bits-y i j h)
          ∙ bits_differ (get_or x (word_count * i + j) 0) (get_or y (word_count * i + j) 0) (bits-x (word_count * i + j)) (bits-y (word_count * i + j))

  pub word_flips : (j : ℕ) → distance (word_at x j) (word_at y j) ≡ flips_in_word x y j
  word_flips j = distance_is (word_at x j) (word_at y j) ∙ ap flip_count (word_pattern j) ∙ flip_pattern_count x y j

  pub all_patterns : differences (words_of x) (words_of y) ≡ flip_patterns x y
  unfolding flip_patterns
  all_patterns = tabulate_same _ _ word_count (λ j h. ap₂ bit_xor (words_at x j h) (words_at y j h) ∙ word_pattern j)

pub all_flips : (x y : List ℕ) → sum_to word_count (flips_in_word x y) ≡ flips_between x y
unfolding flips_between flips_in_word
all_flips x y =
    let flip : ℕ → ℕ = λ n. cond (differs_at x y n) 1 0 in
    sym (sum_blocks word_count positions flip ∙ sum_swap positions word_count (λ i j. flip (word_count * i + j)))

-- the fourteen patterns: bit i of pattern j says whether air bit 14 i + j was flipped, and their ones are all flips
module _ (x y : List ℕ) where
  patterns_at : (j : ℕ) → j < word_count → get_or (flip_patterns x y) j 0 ≡ flip_pattern x y j
  unfolding flip_patterns
  patterns_at j h = tabulate_at (flip_pattern x y) 0 word_count j h

  pub flip_patterns_bit : (i j : ℕ) → i < positions → j < word_count → get_or (flip_patterns x y) j 0 / 2 ^ i % 2 ≡ cond (differs_at x y (word_count * i + j)) 1 0
  flip_patterns_bit i j h k = ap (λ (e : ℕ). e / 2 ^ i % 2) (patterns_at j k) ∙ flip_pattern_bit x y i j h

  pub flip_patterns_total : flip_total (flip_patterns x y) ≡ flips_between x y
  flip_patterns_total = sum_same word_count _ _ (λ j h. ap flip_count (patterns_at j h) ∙ flip_pattern_count x y j) ∙ all_flips x y

-- two headers on air that differ in no place are the same
pub no_flips : (x y : List ℕ) → length x ≡ air_bits → length y ≡ air_bits → flips_between x y ≡ 0 → x ≡ y
unfolding flips_between
no_flips x y long-x long-y none =
    ext_get_or 0 x y (long-x ∙ sym long-y)
    (λ k h. eqb-true (get_or x k 0) (get_or y k 0) (not-false (eqb (get_or x k 0) (get_or y k 0)) (many_none air_bits (differs_at x y) none k (rw long-x at h))))
