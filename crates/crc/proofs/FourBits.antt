-- Changes to header bits 32 to 35 alone: never seen under the flown edition, always under the corrected one.
-- Assumes nothing.
use mathlib.Core.Path.{◌≡◌, refl, sym, ap, ◌∙◌}
use mathlib.Core.Logic.{inl, inr}
use Prim.Native.Nat.{ℕ, zero, suc, ◌+◌, ◌-◌, ◌*◌, ◌/◌, ◌%◌, ◌^◌, ◌≤◌, ◌<◌}
use native.Mathlib.Nat.{mod-lt, zero-div, zero-mod}
use native.Mathlib.Omega.{arith}
use lib.Bits.{bit_xor, differ, xor_lt, xor_zero_r}
use lib.Pow.{pow_pos, shr-shr}
use Rattle.base.specs.declared.Edition.TheVariants.{Flown, Corrected}
use Rattle.base.proofs.Ones.{xor_bit}
use Rattle.base.proofs.Sums.{same_bits}
use Rattle.base.proofs.Xor.{xor_back}
use Rattle.crc.specs.Crc5.{header_bit, crc5_of, Counts}
use Rattle.crc.proofs.Unseen.{counting_same}
use Rattle.crc.proofs.Apart.{change_seen}
use Rattle.crc.proofs.OddChanges.{Right}

-- two headers that agree in bits 65 to 69 carry the same CRC5
carried : (n m : ℕ) → ((k : ℕ) → 65 ≤ k → k < 70 → header_bit n k ≡ header_bit m k) → n % 2 ^ 5 ≡ m % 2 ^ 5
carried n m same = same_bits 5 n m (λ q h. let e : 69 - (69 - q) ≡ q = omega arith in rw e at (same (69 - q) (omega arith) (omega arith)))

-- "changes to those four alone are never seen"
pub four_unseen : (n m : ℕ) → ((k : ℕ) → k < 70 → Counts Flown k → header_bit n k ≡ header_bit m k) → Right Flown n → Right Flown m
four_unseen n m same right =
    sym (counting_same Flown n m (λ k h there. same k (omega arith) there)) ∙ right ∙ carried n m (λ k h l. same k l (inr (omega arith)))

differ_self : (b : ℕ) → b < 2 → differ b b ≡ 0
differ_self zero h = refl
differ_self (suc zero) h = refl
differ_self (suc (suc b)) h = absurd (omega arith)

-- under the corrected edition each is
module _ (n m : ℕ) (small : n < 2 ^ 70) (small' : m < 2 ^ 70) (same : (k : ℕ) → k < 70 → Counts Flown k → header_bit n k ≡ header_bit m k) where
  abbrev change : ℕ
  change = bit_xor n m

  none : (q : ℕ) → q < 70 → Counts Flown (69 - q) → change / 2 ^ q % 2 ≡ 0
  none q h there =
      let e : 69 - (69 - q) ≡ q = omega arith in
      xor_bit n m q ∙ ap (λ (b : ℕ). differ b (m / 2 ^ q % 2)) (rw e at (same (69 - q) (omega arith) there)) ∙ differ_self (m / 2 ^ q % 2) (mod-lt (m / 2 ^ q) (pow_pos 1))

  low : change % 2 ^ 34 ≡ 0
  low = same_bits 34 change 0 (λ q h. none q (omega arith) (inr (omega arith)) ∙ sym (rw (zero-div, zero-mod) refl)) ∙ zero-mod (2 ^ 34)

  high : change / 2 ^ 38 % 2 ^ 32 ≡ 0
  high =
      same_bits 32 (change / 2 ^ 38) 0
      (λ q h. ap (λ (x : ℕ). x % 2) (shr-shr change 38 q) ∙ none (38 + q) (omega arith) (inl (omega arith)) ∙ sym (rw (zero-div, zero-mod) refl)) ∙ zero-mod (2 ^ 32)

  pub four_seen_corrected : Right Corrected n → Right Corrected m → n ≡ m
  four_seen_corrected right right' =
      let v : ℕ = change / 2 ^ 34 % 2 ^ 4 in
      let four : change ≡ v * 2 ^ 34 = omega (arith, low, high, xor_lt 70 n m small small') in
      let other : bit_xor n (v * 2 ^ 34) ≡ m = ap (bit_xor n) (sym four) ∙ xor_back n m in
      let none_changed : v ≡ 0 =
      change_seen n v (mod-lt (change / 2 ^ 34) (pow_pos 4))
      (ap (crc5_of Corrected) other ∙ right' ∙ sym (carried n m (λ k h l. same k l (inr (omega arith)))) ∙ sym right) in
      sym (xor_zero_r n) ∙ ap (bit_xor n) (let z : 0 ≡ v * 2 ^ 34 = omega (arith, none_changed) in z) ∙ other
