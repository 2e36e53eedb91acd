-- Which header bits count in CRC5, under each edition, and what the nine bytes then are.
-- Assumes nothing.
use mathlib.Core.Path.{◌≡◌, refl, ap, ◌∙◌}
use mathlib.Core.Logic.{◌⊎◌, inl, inr, ⊎_elim}
use Prim.Native.Nat.{ℕ, ◌+◌, ◌-◌, ◌*◌, ◌/◌, ◌%◌, ◌^◌, ◌≤◌, ◌<◌}
use native.Mathlib.Nat.{mod-lt}
use native.Mathlib.Omega.{arith}
use lib.ListN.{get_or}
use lib.Pow.{pow_pos, shr-shr}
use Rattle.base.specs.declared.Edition.{Edition}
use Rattle.base.specs.declared.Edition.TheVariants.{Flown, Corrected}
use Rattle.base.proofs.Xor.{high_none}
use Rattle.base.proofs.Tests.{lt_or_ge}
use Rattle.crc.specs.Crc.{bits_of}
use Rattle.crc.specs.Crc5.{header_bit, filling, counted_flown, counting_bits, Counts, Lost}
use Rattle.base.proofs.Bits.{bit_of_low, bit_below, shift_above}
use Rattle.crc.proofs.Nine.{bit_in, byte_bit, message_header, message_filling}

module _ (n : ℕ) where
  -- the three parts side by side, the middle one zero
  pub counted_is : counted_flown n ≡ n / 2 ^ 38 % 2 ^ 32 * 2 ^ 38 + n % 2 ^ 34
  unfolding counted_flown
  counted_is = omega arith

  low_lt : n % 2 ^ 34 < 2 ^ 38
  low_lt = omega arith

  module _ (k : ℕ) where
    -- header bits 0 to 31, and from 36 on
    before : k < 32 → header_bit (counted_flown n) k ≡ header_bit n k
    before h =
        let e : 69 - k ≡ 38 + (31 - k) = omega arith in
        rw (counted_is, e)
        (ap (λ (x : ℕ). x % 2) (shift_above (n / 2 ^ 38 % 2 ^ 32) 38 (n % 2 ^ 34) low_lt (31 - k))
        ∙ bit_of_low (n / 2 ^ 38) 32 (31 - k) (omega arith) ∙ ap (λ (x : ℕ). x % 2) (shr-shr n 38 (31 - k)))

    after : 36 ≤ k → header_bit (counted_flown n) k ≡ header_bit n k
    after h =
        rw counted_is
        (bit_below (n / 2 ^ 38 % 2 ^ 32) 38 (n % 2 ^ 34) low_lt (69 - k) (omega arith) ∙ bit_of_low n 34 (69 - k) (omega arith))

    -- header bits 32 to 35 count as zero
    pub flown_lost : 32 ≤ k → k < 36 → header_bit (counted_flown n) k ≡ 0
    flown_lost h l =
        let e : 69 - k ≡ 34 + (35 - k) = omega arith in
        rw counted_is
        (bit_below (n / 2 ^ 38 % 2 ^ 32) 38 (n % 2 ^ 34) low_lt (69 - k) (omega arith)
        ∙ rw e (ap (λ (x : ℕ). x % 2) (high_none 34 (35 - k) (n % 2 ^ 34) (mod-lt n (pow_pos 34)))))

    -- the others count as they are
    pub flown_kept : (k < 32) ⊎ (36 ≤ k) → header_bit (counted_flown n) k ≡ header_bit n k
    flown_kept = ⊎_elim before after

-- THE TWO EDITIONS, bit by bit: what counts counts as it is, the rest as zero, and there is no third
pub counting_kept : (edition : Edition) (n k : ℕ) → Counts edition k → header_bit (counting_bits edition n) k ≡ header_bit n k
counting_kept Flown n k there = flown_kept n k there
counting_kept Corrected n k there = refl

pub counting_lost : (edition : Edition) (n k : ℕ) → Lost edition k → header_bit (counting_bits edition n) k ≡ 0
counting_lost Flown n k there = flown_lost n k there.0 there.1
counting_lost Corrected n k there = absurd there

pub counts_or_lost : (edition : Edition) (k : ℕ) → Counts edition k ⊎ Lost edition k
counts_or_lost Flown k =
    ⊎_elim
    (λ (l : k < 32). inl (inl l))
    (λ (l : 32 ≤ k). ⊎_elim (λ (u : k < 36). inr (l, u)) (λ (u : 36 ≤ k). inl (inr u)) (lt_or_ge k 36))
    (lt_or_ge k 32)
counts_or_lost Corrected k = inl tt

-- bit k of the nine bytes' 72
pub record NineBit (edition : Edition) (n k bit : ℕ) : Type 0 where
  pub kept : k < 65 → Counts edition k → bit ≡ header_bit n k
  pub lost : k < 65 → Lost edition k → bit ≡ 0
  pub filled : 65 ≤ k → bit ≡ get_or (bits_of 7 filling) (k - 65) 0

-- bit t of byte i is bit 8 i + t
pub nine_bits : (edition : Edition) (n i t : ℕ) → i < 9 → t < 8 → NineBit edition n (8 * i + t) (bit_in (counting_bits edition n) i t)
nine_bits edition n i t hi ht =
    let k = 8 * i + t in
    let m = counting_bits edition n in
    record {
      kept = λ h there. byte_bit m i t hi ht ∙ message_header m k h ∙ counting_kept edition n k there;
      lost = λ h there. byte_bit m i t hi ht ∙ message_header m k h ∙ counting_lost edition n k there;
      filled = λ h. byte_bit m i t hi ht ∙ message_filling m k h (omega arith);
    }
