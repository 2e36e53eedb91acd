-- A byte into a checksum by a table of 256 steps, for every polynomial and every width of at least eight: the top eight bits
-- and the byte choose the step, and the bits below move up. And for CRC5, which the byte is wider than.
-- Assumes nothing.
use mathlib.Core.Path.{◌≡◌, refl, sym, ap, ap₂, ◌∙◌}
use mathlib.Core.Bool.{Bool, cond}
use mathlib.Core.List.{List}
use Prim.Native.Nat.{ℕ, zero, suc, ◌+◌, ◌-◌, ◌*◌, ◌/◌, ◌%◌, ◌^◌, ◌≤◌, ◌<◌}
use native.Mathlib.Nat.{mul-one, mul_assoc, add-zero, mod-eq_of_lt, mul-mod_left, pow-suc}
use native.Mathlib.Omega.{arith}
use borrow.Author.Tests.{eq-eqb}
use lib.Bits.{bit_xor, xor_zero_r, xor_comm, xor_lt}
use lib.Dec.{lit<}
use lib.ListN.{get_or, replicate}
use lib.Pow.{pow_pos, shl-shr, shr_lt, shr-shr, field, mod-pow-add, mod-mod-pow}
use mir.Syntax.{w8}
use mir.Val.{Fits}
use Rattle.base.specs.Lists.{tabulate}
use Rattle.base.proofs.Tabulate.{tabulate_at, tabulate_same, tabulate_more, read_replicated}
use Rattle.base.proofs.Xor.{xor_back}
use Rattle.crc.specs.Crc.{byte_bits, bits_of, crc_step, crc_of}
use Rattle.crc.specs.Crc5.{poly5}
use Rattle.crc.specs.Steps.{step_of, steps_of, by_step}
use Rattle.crc.proofs.Linear.{number_linear}
use Rattle.crc.proofs.Loop.{crc_byte, crc_append}

module _ (w p crc : ℕ) (small : crc < 2 ^ w) where
  -- a state that has taken in n of its own bits, with k below the next one: that is now its top bit
  module _ (n k : ℕ) (e : w - 1 ≡ n + k) where
    own_top : crc % 2 ^ (1 + k) * 2 ^ n / 2 ^ (w - 1) ≡ crc / 2 ^ k % 2
    own_top =
        rw (e, ← shr-shr) (ap (λ (x : ℕ). x / 2 ^ k) (shl-shr (crc % 2 ^ (1 + k)) n) ∙ field crc 1 k)

    own_below : crc % 2 ^ (1 + k) * 2 ^ n % 2 ^ (w - 1) ≡ crc % 2 ^ k * 2 ^ n
    own_below =
        let turned : w - 1 ≡ k + n = omega arith in
        rw (turned, mod-pow-add (crc % 2 ^ (1 + k) * 2 ^ n) k n, shl-shr, mul-mod_left, add-zero, mod-mod-pow)

    -- so it cancels, and the polynomial is not added
    own_next : crc_step w p (crc % 2 ^ (1 + k) * 2 ^ n) (crc / 2 ^ k % 2) ≡ crc % 2 ^ k * 2 ^ suc n
    unfolding crc_step
    own_next =
        let moved = crc % 2 ^ (1 + k) * 2 ^ n % 2 ^ (w - 1) * 2 in
        ap (λ (b : Bool). cond b moved (bit_xor moved p)) (eq-eqb _ _ own_top)
        ∙ ap (λ (x : ℕ). x * 2) own_below ∙ rw (pow-suc, mul_assoc)

  -- the n highest bits of the checksum itself
  own_bits : ℕ → List ℕ
  own_bits n = tabulate n (λ t. crc / 2 ^ (w - 1 - t) % 2)

  -- they cancel: what is left are the bits below, moved up
  own_in : (n : ℕ) → n ≤ w → crc_of w p crc (own_bits n) ≡ crc % 2 ^ (w - n) * 2 ^ n
  unfolding own_bits tabulate
  own_in zero h = let all : w - 0 ≡ w = omega arith in rw (all, mul-one, mod-eq_of_lt small)
  own_in (suc n) h =
      let k = w - suc n in
      let next : w - 1 - n ≡ k = omega arith in
      let before : w - n ≡ 1 + k = omega arith in
      ap (crc_of w p crc) (tabulate_more _ n) ∙ crc_append w p crc (own_bits n) _
      ∙ rw (own_in n (omega arith), next, before) (own_next n k (omega arith))

  -- as a number of n bits
  own_bits_lem : (n : ℕ) → n ≤ w → bits_of n (crc / 2 ^ (w - n)) ≡ own_bits n
  unfolding own_bits
  own_bits_lem n h =
      tabulate_same _ _ n
      (λ t l. let e : (w - n) + (n - 1 - t) ≡ w - 1 - t = omega arith in rw (shr-shr, e))

-- a byte is the sum of two: one after which something known is left of the checksum, and one that makes its step from 0
module _ (w p : ℕ) (fits : p < 2 ^ w) (steps : List ℕ) (is : steps ≡ steps_of w p) where
  by_steps : (crc own left byte step : ℕ) → crc < 2 ^ w → own < 256 → Fits w8 byte → crc_byte w p crc own ≡ left → step ≡ get_or steps (bit_xor own byte) 0
      → bit_xor step left ≡ crc_byte w p crc byte
  unfolding step_of steps_of
  by_steps crc own left byte step small inside fit gone row =
      let other = bit_xor own byte in
      let here : step ≡ crc_byte w p 0 other = row ∙ rw is (tabulate_at (step_of w p) 0 256 other (xor_lt byte_bits own byte inside (omega arith))) in
      rw (here, ← gone)
      (xor_comm (crc_byte w p 0 other) (crc_byte w p crc own)
      ∙ sym (number_linear w p fits byte_bits own other crc 0 small (pow_pos w))
      ∙ ap₂ (crc_byte w p) (xor_zero_r crc) (xor_back own byte))

-- where the checksum has the byte's eight bits, or more: its top eight bits cancel
pub by_table : (w p : ℕ) → byte_bits ≤ w → p < 2 ^ w → (steps : List ℕ) → steps ≡ steps_of w p → (crc byte step : ℕ) → crc < 2 ^ w → Fits w8 byte
    → step ≡ get_or steps (bit_xor (crc / 2 ^ (w - byte_bits)) byte) 0
    → bit_xor step (crc % 2 ^ (w - byte_bits) * 2 ^ byte_bits) ≡ crc_byte w p crc byte
by_table w p wide fits steps is crc byte step small fit row =
    let width : byte_bits + (w - byte_bits) ≡ w = omega arith in
    by_steps w p fits steps is crc (crc / 2 ^ (w - byte_bits)) (crc % 2 ^ (w - byte_bits) * 2 ^ byte_bits) byte step small
    (shr_lt {n = crc} byte_bits (w - byte_bits) (rw width small)) fit
    (ap (crc_of w p crc) (own_bits_lem w p crc small byte_bits wide) ∙ own_in w p crc small byte_bits wide) row

pub stepped : (w p : ℕ) → byte_bits ≤ w → p < 2 ^ w → (steps : List ℕ) → steps ≡ steps_of w p → (crc byte next : ℕ) → crc < 2 ^ w → Fits w8 byte
    → next ≡ by_step (2 ^ (w - byte_bits)) steps crc byte → next ≡ crc_byte w p crc byte
stepped w p wide fits steps is crc byte next small fit e = e ∙ by_table w p wide fits steps is crc byte _ small fit refl

-- where it has fewer, as CRC5: all of it cancels at the top of the byte. Computed, all 32
all_cancel : tabulate 32 (λ c. crc_byte 5 poly5 c (c * 2 ^ 3)) ≡ replicate 32 0
unfolding tabulate crc_step
all_cancel = refl

pub by_table5 : (steps : List ℕ) → steps ≡ steps_of 5 poly5 → (crc byte step : ℕ) → crc < 2 ^ 5 → Fits w8 byte
    → step ≡ get_or steps (bit_xor (crc * 2 ^ 3) byte) 0 → step ≡ crc_byte 5 poly5 crc byte
by_table5 steps is crc byte step small fit row =
    let gone : crc_byte 5 poly5 crc (crc * 2 ^ 3) ≡ 0 =
    sym (tabulate_at (λ c. crc_byte 5 poly5 c (c * 2 ^ 3)) 0 32 crc small) ∙ ap (λ (l : List ℕ). get_or l crc 0) all_cancel ∙ read_replicated 32 crc 0 in
    sym (xor_zero_r step) ∙ by_steps 5 poly5 (lit< tt) steps is crc (crc * 2 ^ 3) 0 byte step small (omega arith) fit gone row
