-- Windows: no more than w of the numbers below n are among w neighbours.
-- Assumes nothing.
use mathlib.Core.Bool.{Bool, false, cond}
use mathlib.Core.Logic.{⊎_elim}
use Prim.Native.Nat.{ℕ, zero, suc, ◌+◌, ◌-◌, ◌≤◌, ◌<◌, zero-le}
use native.Mathlib.Omega.{arith}
use lib.Dec.{leb, ltb}
use borrow.Author.Tests.{le-leb, lt-leb, lt-ltb, le-ltb}
use Rattle.base.specs.Lists.{sum_to, how_many}
use Rattle.base.proofs.Tests.{lt_or_ge}

-- the w numbers from a on
abbrev pub window : ℕ → ℕ → ℕ → Bool
window a w i = cond (leb a i) (ltb i (a + w)) false

-- no more than w numbers, and none below a, are among them
pub window_few : (a w n : ℕ) → (how_many n (window a w) ≤ n - a) × (how_many n (window a w) ≤ w)
unfolding sum_to
window_few a w zero = (zero-le, zero-le)
window_few a w (suc n) = by (window_few a w n)
  where
    by : (how_many n (window a w) ≤ n - a) × (how_many n (window a w) ≤ w) → (how_many (suc n) (window a w) ≤ suc n - a) × (how_many (suc n) (window a w) ≤ w)
    by so =
        ⊎_elim
        (λ (below : n < a). rw (lt-leb a n below) (omega (arith, so.0), omega (arith, so.1)))
        (λ (from : a ≤ n).
        ⊎_elim
        (λ (inside : n < a + w). rw (le-leb a n from, lt-ltb n (a + w) inside) (omega (arith, so.0), omega (arith, so.0)))
        (λ (past : a + w ≤ n). rw (le-leb a n from, le-ltb n (a + w) past) (omega (arith, so.0), omega (arith, so.1)))
        (lt_or_ge n (a + w)))
        (lt_or_ge n a)
