-- The rows of a header, taken into sixteen lanes from the lowest position up.
-- Assumes nothing.
use mathlib.Core.Path.{◌≡◌, refl, ◌∙◌}
use mathlib.Core.List.{List}
use Prim.Native.Nat.{ℕ, ◌+◌, ◌*◌, ◌^◌, ◌<◌, ◌≤◌}
use native.Mathlib.Nat.{pow-suc}
use native.Mathlib.Numerals.{add-one}
use native.Mathlib.Omega.{arith}
use lib.ListN.{get_or, replicate}
use lib.Pow.{pow_mono}
use mir.Syntax.{w16}
use mir.Val.{Fits}
use Rattle.base.specs.Lists.{tabulate, sum_to, AreBits}
use Rattle.base.proofs.Sums.{sum_more, bit_times, made_lt}
use Rattle.base.proofs.Tabulate.{tabulate_at}
use Rattle.base.proofs.Fill.{Filled, fill_whole}
use Rattle.air.specs.Air.{word_count, word_at}
use Rattle.air.specs.Lanes.{lane_count, top_position, lane_to, lanes_to}

-- a bit of some weight above what is below it has room in sixteen bits
module _ (word bit weight : ℕ) (low : word < weight) (is-bit : bit < 2) (light : weight ≤ 2 ^ top_position) where
  pub product_fits : Fits w16 (bit * weight)
  product_fits = record { fits = omega (arith, bit_times bit weight is-bit) }

  pub sum_fits : Fits w16 (word + bit * weight)
  sum_fits = record { fits = omega (arith, bit_times bit weight is-bit) }

module _ (air lanes : List ℕ) (i j : ℕ) (is : lanes ≡ lanes_to air i) (h : j < lane_count) where
  -- what a lane holds before position i
  lane_is : get_or lanes j 0 ≡ lane_to air i j
  unfolding lanes_to
  lane_is = rw is (tabulate_at (lane_to air i) 0 lane_count j h)

  pub lane_lt : (weight : ℕ) → weight ≡ 2 ^ i → AreBits air → get_or lanes j 0 < weight
  lane_lt weight heavy bits = rw (lane_is, heavy) (made_lt (λ p. get_or air (word_count * p + j) 0) (λ p. bits (word_count * p + j)) i)

  -- and after it
  pub lane_next : (weight x : ℕ) → weight ≡ 2 ^ i → x ≡ get_or lanes j 0 + get_or air (word_count * i + j) 0 * weight → x ≡ lane_to air (i + 1) j
  lane_next weight x heavy e =
      e ∙ sum_more i (λ p. get_or air (word_count * p + j) 0 * 2 ^ p) (get_or lanes j 0) (get_or air (word_count * i + j) 0 * weight) lane_is (rw heavy)

pub bit_lt : (air : List ℕ) (k : ℕ) → AreBits air → get_or air k 0 < 2
bit_lt air k bits = bits k

pub weight_light : (i weight : ℕ) → i < top_position → weight ≡ 2 ^ i → weight ≤ 2 ^ top_position
weight_light i weight h heavy = rw heavy (pow_mono {i = i} {j = top_position} (omega arith))

pub row_ends : (air : List ℕ) (i : ℕ) (next₀ : List ℕ) (j : ℕ) (next : List ℕ) → Filled (lane_to air (i + 1)) lane_count next₀ j next → lane_count ≤ j → next₀ ≡ replicate lane_count 0
    → next ≡ lanes_to air (i + 1)
unfolding lanes_to
row_ends air i next₀ j next so h none = fill_whole (lane_to air (i + 1)) lane_count next₀ j next so h (rw none)

-- no position is in
pub lanes_start : (air : List ℕ) → replicate lane_count 0 ≡ lanes_to air 0
unfolding lanes_to tabulate sum_to
lanes_start air = refl

pub weight_fits : (i weight : ℕ) → i < top_position → weight ≡ 2 ^ i → Fits w16 (weight * 2)
weight_fits i weight h heavy = record { fits = omega (arith, weight_light i weight h heavy) }

pub weight_next : (i weight : ℕ) → weight ≡ 2 ^ i → weight * 2 ≡ 2 ^ (i + 1)
weight_next i weight heavy = rw (heavy, add-one, pow-suc)

pub lanes_end : (air lanes : List ℕ) (i : ℕ) → i ≤ top_position → top_position ≤ i → lanes ≡ lanes_to air i → lanes ≡ lanes_to air top_position
lanes_end air lanes i le ge is = let e : i ≡ top_position = omega arith in rw e at is

-- the top position makes the words
module _ (air lanes : List ℕ) (j : ℕ) (is : lanes ≡ lanes_to air top_position) (h : j < word_count) where
  pub top_lt : AreBits air → get_or lanes j 0 < 2 ^ top_position
  top_lt bits = lane_lt air lanes top_position j is (omega arith) (2 ^ top_position) refl bits

  pub top_in : (x : ℕ) → x ≡ get_or lanes j 0 + get_or air (word_count * top_position + j) 0 * 2 ^ top_position → x ≡ word_at air j
  unfolding word_at
  top_in x e = lane_next air lanes top_position j is (omega arith) (2 ^ top_position) x refl e
