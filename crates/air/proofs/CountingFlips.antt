-- The flips of fourteen patterns, counted in lanes.
-- Assumes nothing.
use mathlib.Core.Path.{◌≡◌, refl, sym, ap, ◌∙◌}
use mathlib.Core.List.{List, append_assoc}
use Prim.Native.Nat.{ℕ, ◌+◌, ◌*◌, ◌/◌, ◌%◌, ◌^◌, ◌<◌, ◌≤◌, zero-le}
use native.Mathlib.Nat.{mod-lt, mod-le, le_of_suc-le-suc, lt_of_le_of_lt}
use native.Mathlib.Omega.{arith}
use lib.Count.{ones, ones_in}
use lib.Dec.{lit<}
use lib.ListN.{length, get_or, replicate, get_or-eq_default}
use mir.Syntax.{w16}
use mir.Val.{Fits}
use Rattle.base.specs.Lists.{sum_to}
use Rattle.base.proofs.Sums.{sum_none, sum_same, sum_more, sum_le}
use Rattle.base.proofs.Tabulate.{tabulate_at, tabulate_same, tabulate_all, tabulate_more}
use Rattle.base.proofs.Fill.{Filled, fill_ends, fill_whole}
use Rattle.base.proofs.Ones.{ones_in_lem, ones_sum}
use Rattle.word.specs.Words.{positions, flip_count}
use Rattle.air.specs.Air.{word_count}
use Rattle.air.specs.WordRepairs.{flip_total}
use Rattle.air.specs.Lanes.{lane_count, padded, counts_of, lane_sum}

-- of w bits no more than w are set
ones_le : (w n : ℕ) → ones_in w n ≤ w
ones_le w n = rw (ones_sum w n) (omega (arith, sum_le 1 w (λ i. n / 2 ^ i % 2) (λ i h. le_of_suc-le-suc (mod-lt (n / 2 ^ i) (lit< tt)))))

pub few : (pattern : ℕ) → flip_count pattern ≤ positions
few = ones_le positions

none_flipped : flip_count 0 ≡ 0
unfolding ones_in
none_flipped = refl

-- so those of a number of 16 bits, taken modulo any other, fit such a number
pub ones_fits : (n m : ℕ) → Fits w16 n → Fits w16 (ones (n % m))
ones_fits n m fit = record { fits = rw (ones_in_lem 16 (n % m) (lt_of_le_of_lt (mod-le n m) fit.fits)) (omega (arith, ones_le 16 (n % m))) }

module _ (patterns : List ℕ) where
  pub pad_ends : (lanes₀ : List ℕ) (j : ℕ) (lanes : List ℕ) → length patterns ≡ word_count → lanes₀ ≡ replicate lane_count 0
      → Filled (λ k. get_or patterns k 0) word_count lanes₀ j lanes → word_count ≤ j → lanes ≡ padded patterns
  unfolding padded
  pad_ends lanes₀ j lanes long none so h =
      let past : (k : ℕ) → word_count ≤ k → get_or patterns k 0 ≡ 0 = λ k le. get_or-eq_default patterns 0 {n = k} (omega arith) in
      fill_ends (λ k. get_or patterns k 0) word_count lanes₀ j lanes so h
      ∙ rw (none, tabulate_more (λ k. get_or patterns k 0) 15, tabulate_more (λ k. get_or patterns k 0) 14, past 14 (omega arith), past 15 (omega arith), append_assoc)

  pub counts_end : (counts₀ : List ℕ) (j : ℕ) (counts : List ℕ) → counts₀ ≡ replicate lane_count 0 → Filled (λ k. flip_count (get_or patterns k 0)) lane_count counts₀ j counts → lane_count ≤ j
      → counts ≡ counts_of patterns
  unfolding counts_of
  counts_end counts₀ j counts none so h = fill_whole (λ k. flip_count (get_or patterns k 0)) lane_count counts₀ j counts so h (rw none)

  -- the lanes past the words change no count
  pub counts_padded : (lanes counts : List ℕ) → lanes ≡ padded patterns → counts ≡ counts_of lanes → counts ≡ counts_of patterns
  unfolding padded counts_of
  counts_padded lanes counts is e =
      e ∙ rw is (tabulate_same _ _ lane_count (λ k h. ap flip_count (tabulate_at (λ k. get_or patterns k 0) 0 lane_count k h)))

  module _ (counts : List ℕ) (is : counts ≡ counts_of patterns) where
    pub count_at : (j x : ℕ) → j < word_count → x ≡ get_or counts j 0 → x ≡ flip_count (get_or patterns j 0)
    unfolding counts_of
    count_at j x h e = e ∙ rw is (tabulate_at (λ k. flip_count (get_or patterns k 0)) 0 lane_count j (omega arith))

    pub counts_few : (k : ℕ) → get_or counts k 0 ≤ positions
    unfolding counts_of
    counts_few k = rw is (tabulate_all (λ x. x ≤ positions) (λ k. flip_count (get_or patterns k 0)) lane_count zero-le (λ k h. few (get_or patterns k 0)) k)

    pub total_is : (n : ℕ) → length patterns ≡ word_count → n ≡ lane_sum counts → n ≡ flip_total patterns
    unfolding counts_of sum_to lane_sum
    total_is n long e =
        let past : (k : ℕ) → word_count ≤ k → get_or patterns k 0 ≡ 0 = λ k le. get_or-eq_default patterns 0 {n = k} (omega arith) in
        let none : (k : ℕ) → word_count ≤ k → flip_count (get_or patterns k 0) ≡ 0 = λ k le. ap flip_count (past k le) ∙ none_flipped in
        let each : sum_to lane_count (λ k. get_or counts k 0) ≡ sum_to lane_count (λ k. flip_count (get_or patterns k 0)) =
        sum_same lane_count (λ k. get_or counts k 0) (λ k. flip_count (get_or patterns k 0)) (λ k h. rw is (tabulate_at (λ k. flip_count (get_or patterns k 0)) 0 lane_count k h)) in
        e ∙ each ∙ omega (arith, none 14 (omega arith), none 15 (omega arith))

-- the loop that adds the counts
module _ (counts : List ℕ) where
  pub record Summed (j sum : ℕ) : Type 0 where
    pub inside : j ≤ lane_count
    pub is : sum ≡ sum_to j (λ k. get_or counts k 0)

  pub sum_starts : Summed 0 0
  sum_starts = record { inside = zero-le; is = sym (sum_none (λ k. get_or counts k 0)) }

  module _ (j sum : ℕ) (so : Summed j sum) where
    pub sum_fits : ((k : ℕ) → get_or counts k 0 ≤ positions) → j < lane_count → Fits w16 (sum + get_or counts j 0)
    sum_fits each h =
        let before : sum ≤ positions * j = rw so.is (sum_le positions j (λ k. get_or counts k 0) (λ k lt. each k)) in
        record { fits = omega (arith, before, each j) }

    pub sum_goes_on : j < lane_count → Summed (j + 1) (sum + get_or counts j 0)
    sum_goes_on h = record { inside = omega arith; is = sum_more j (λ k. get_or counts k 0) sum (get_or counts j 0) so.is refl }

    pub sum_ends : lane_count ≤ j → sum ≡ lane_sum counts
    unfolding lane_sum
    sum_ends h = let all : j ≡ lane_count = omega (arith, so.inside) in rw all at so.is
