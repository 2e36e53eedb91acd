-- The loop that adds n numbers, none of them above the most that one can be; and so the frames of n sources.
-- Assumes nothing.
use Rattle.std.proofs.Common.{◌≡◌, ℕ, ◌+◌, ◌*◌, ◌^◌, ◌<◌, ◌≤◌, List, sym, zero-le, mul-le-mul_right, arith, w32, w64, Fits}
use Rattle.base.specs.Lists.{sum_to}
use Rattle.base.proofs.Sums.{sum_none, sum_more}
use Rattle.source.specs.declared.Source.{Source}
use Rattle.source.specs.Records.{count_limit}
use Rattle.source.specs.Lanes.{lanes, frames_of, source_in}

-- a count is at most 4,294,967,295
pub count_le : (x : ℕ) → Fits w32 x → x ≤ count_limit
count_le x b = omega (arith, b.fits)

module _ (n most : ℕ) (f : ℕ → ℕ) where
  -- the numbers before k are in the sum
  pub record Summed (k sum : ℕ) : Type 0 where
    pub inside : k ≤ n
    pub small : sum ≤ k * most
    pub is : sum ≡ sum_to k f

  -- nothing is summed
  pub sum_starts : Summed 0 0
  sum_starts = record { inside = zero-le; small = zero-le; is = sym (sum_none f) }

  module _ (k sum : ℕ) (so : Summed k sum) where
    -- so few numbers have room in 64 bits
    pub sum_fits : n * most < 2 ^ 64 → k < n → (x : ℕ) → x ≤ most → Fits w64 (sum + x)
    sum_fits few h x b = record { fits = omega (arith, so.small, mul-le-mul_right most h) }

    -- a number more
    pub sum_goes_on : k < n → (x : ℕ) → x ≤ most → x ≡ f k → Summed (k + 1) (sum + x)
    sum_goes_on h x b e = record { inside = omega arith; small = omega (arith, so.small); is = sum_more k f sum x so.is e }

    -- all n are summed
    pub sum_ends : n ≤ k → sum ≡ sum_to n f
    sum_ends h = let all : k ≡ n = omega (arith, so.inside) in rw all at so.is

    -- how large the sum can be
    pub sum_small : sum ≤ n * most
    sum_small = omega (arith, so.small, mul-le-mul_right most so.inside)

-- the frames of the sources before k are in the sum
abbrev pub FramesSummed : ℕ → List Source → ℕ → ℕ → Type 0
FramesSummed n sources k sum = Summed n (lanes * count_limit) (λ k. frames_of (source_in sources k)) k sum
