-- A checksum stays within its width, for every width and polynomial.
-- Assumes nothing.
use mathlib.Core.Bool.{Bool, true, false, cond}
use mathlib.Core.List.{List, [], ◌∷◌, reverse}
use mathlib.Core.Path.{◌≡◌}
use Prim.Native.Nat.{ℕ, zero, suc, ◌-◌, ◌*◌, ◌/◌, ◌%◌, ◌^◌, ◌<◌}
use native.Mathlib.Nat.{mod-lt, pow-suc}
use native.Mathlib.Omega.{arith}
use lib.Bits.{bit_xor, xor_lt}
use lib.Dec.{eqb, lit<}
use lib.Pow.{pow_pos}
use Rattle.base.specs.declared.Edition.{Edition}
use Rattle.crc.specs.Crc.{crc_step, crc_of, bits_of_bytes, poly13, start13, crc13_of, poly16, start16, crc16_of}
use Rattle.crc.specs.Crc5.{counting_bits, nine_bytes, poly5, start5, crc5_over, crc5_of}

-- one of two, each below m
either_lt : (b : Bool) (m x y : ℕ) → x < m → y < m → cond b x y < m
either_lt true m x y hx hy = hx
either_lt false m x y hx hy = hy

-- all but the top bit, moved up by one
moved_lt : (w crc : ℕ) → crc % 2 ^ (w - 1) * 2 < 2 ^ w
moved_lt zero crc = omega arith
moved_lt (suc k) crc = let e : suc k - 1 ≡ k = omega arith in rw (e, pow-suc) (omega (arith, mod-lt crc (pow_pos k)))

module _ (w p : ℕ) (fits : p < 2 ^ w) where
  -- after one bit, and after all
  pub step_lt : (crc bit : ℕ) → crc_step w p crc bit < 2 ^ w
  unfolding crc_step
  step_lt crc bit =
      let moved = crc % 2 ^ (w - 1) * 2 in
      either_lt (eqb (crc / 2 ^ (w - 1)) bit) (2 ^ w) moved (bit_xor moved p) (moved_lt w crc) (xor_lt w moved p (moved_lt w crc) fits)

  pub crc_lt : (start : ℕ) (bits : List ℕ) → start < 2 ^ w → crc_of w p start bits < 2 ^ w
  crc_lt start [] h = h
  crc_lt start (b ∷ bs) h = crc_lt (crc_step w p start b) bs (step_lt start b)

-- CRC13 has 13 bits, the checksum of CCSDS 16, CRC5 has 5
pub crc13_lt : (payload : List ℕ) → crc13_of payload < 8192
unfolding crc13_of
crc13_lt payload = crc_lt 13 poly13 (lit< tt) start13 (bits_of_bytes (reverse payload)) (lit< tt)

pub crc16_lt : (bytes : List ℕ) → crc16_of bytes < 65536
unfolding crc16_of
crc16_lt bytes = crc_lt 16 poly16 (lit< tt) start16 (bits_of_bytes bytes) (lit< tt)

pub over_lt : (counted : ℕ) → crc5_over counted < 32
unfolding crc5_over
over_lt counted = crc_lt 5 poly5 (lit< tt) start5 (bits_of_bytes (reverse (nine_bytes counted))) (lit< tt)

pub crc5_lt : (edition : Edition) (n : ℕ) → crc5_of edition n < 32
unfolding crc5_of
crc5_lt edition n = over_lt (counting_bits edition n)
