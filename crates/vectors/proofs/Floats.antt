-- Where an f64 may be made of bits: nowhere at a NaN.
-- Assumes nothing.
use mathlib.Core.Path.{◌≡◌}
use mathlib.Core.Bool.{Bool, true, false, not, ◌&&◌}
use mathlib.Core.Logic.{⊎_elim}
use Prim.Native.Nat.{ℕ, ◌/◌, ◌%◌, ◌^◌, ◌<◌, ◌≤◌}
use native.Mathlib.Omega.{arith}
use borrow.Author.Tests.{eq-eqb, ne_eqb}
use lib.Dec.{T, eqb}
use lib.Ieee.{binary64, nan_bits}
use Rattle.base.proofs.Tests.{lt_or_ge}

-- the exponent of bits is not all ones
small_exponent : (bits : ℕ) → (bits % 2 ^ 63 / 2 ^ 52 ≡ 2047 → ⊥) → T (not (nan_bits binary64 bits))
unfolding nan_bits
small_exponent bits h = rw (ne_eqb (bits % 2 ^ 63 / 2 ^ 52) 2047 h) tt

-- no bit below the exponent is set
no_digits : (bits : ℕ) → bits % 2 ^ 52 ≡ 0 → T (not (nan_bits binary64 bits))
unfolding nan_bits
no_digits bits h = rw (eq-eqb (bits % 2 ^ 52) 0 h) (never (eqb (bits % 2 ^ 63 / 2 ^ 52) 2047))
  where
    never : (b : Bool) → T (not (b && false))
    never true = tt
    never false = tt

-- no bits above those of an infinity, but for the sign
pub no_nan : (bits : ℕ) → bits % 2 ^ 63 ≤ 0x7FF0_0000_0000_0000 → T (not (nan_bits binary64 bits))
no_nan bits h =
    ⊎_elim (λ (some : 0 < bits % 2 ^ 52). small_exponent bits (λ e. omega (arith, some, e, h)))
    (λ (none : bits % 2 ^ 52 ≤ 0). no_digits bits (omega (arith, none)))
    (lt_or_ge 0 (bits % 2 ^ 52))
