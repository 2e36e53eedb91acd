-- The loop of `width`: one digit more for each power of ten from 10 up to the number.
-- Assumes nothing.
use mathlib.Core.Path.{◌≡◌, ap}
use Prim.Native.Nat.{ℕ, ◌+◌, ◌*◌, ◌/◌, ◌^◌, ◌<◌, ◌≤◌}
use native.Mathlib.Nat.{div-one, div-div-eq-div-mul, le-div_iff_mul-le, div-lt_iff_lt-mul}
use native.Mathlib.Omega.{arith}
use lib.ListN.{length}
use Rattle.text.specs.Text.{decimal_of, most_digits}
use Rattle.text.proofs.Decimal.{decimal_one, length_more, decimal_short}

-- the last k digits are counted, and the first of these has the weight `unit`; so n / unit ends with it
pub record Counted (n unit k : ℕ) : Type 0 where
  pub some : 1 ≤ k
  pub few : k ≤ unit
  pub left : length (decimal_of n) + 1 ≡ k + length (decimal_of (n / unit))

-- the last digit has the weight 1
pub starts : (n : ℕ) → Counted n 1 1
starts n = record { some = omega arith; few = omega arith; left = rw div-one (omega arith) }

module _ (n unit k : ℕ) (so : Counted n unit k) where
  -- a weight is not 0
  positive : 0 < unit
  positive = omega (arith, so.some, so.few)

  -- there is one before the k counted
  pub goes_on : unit ≤ n / 10 → Counted n (unit * 10) (k + 1)
  goes_on h =
      let more : 10 ≤ n / unit = (le-div_iff_mul-le positive).1 (omega arith) in
      record {
        some = omega arith;
        few = omega (arith, so.few, positive);
        left = rw (← div-div-eq-div-mul n unit 10) (omega (arith, so.left, length_more (n / unit) more));
      }

  -- there is none before them
  pub ends : n / 10 < unit → k ≡ length (decimal_of n)
  ends h =
      let last : n / unit < 10 = (div-lt_iff_lt-mul positive).1 (omega arith) in
      omega (arith, so.left, ap length (decimal_one (n / unit) last))

  -- and of a u64 there are few
  pub ends_short : n / 10 < unit → n < 2 ^ 64 → k ≤ most_digits
  ends_short h small = omega (arith, ends h, decimal_short n small)
