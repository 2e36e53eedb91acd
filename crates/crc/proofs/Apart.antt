-- Where the two editions' CRC5 differ: where any of header bits 32 to 35 is set, and nowhere else.
-- Assumes nothing.
use mathlib.Core.Path.{◌≡◌, refl, sym, ap, ◌∙◌}
use mathlib.Core.Bool.{not}
use mathlib.Core.List.{flat_map}
use Prim.Native.Nat.{ℕ, zero, suc, ◌+◌, ◌-◌, ◌*◌, ◌/◌, ◌%◌, ◌^◌, ◌≤◌, ◌<◌}
use native.Mathlib.Nat.{add-zero, mod-lt, le_of_suc-le-suc, zero-div, zero-mod}
use native.Mathlib.Omega.{arith}
use lib.Bits.{bit_xor, xor_self, xor_zero_r, xor_block, xor_shifted}
use lib.Dec.{T, eqb}
use lib.Pow.{pow_pos, shr-shr}
use Rattle.base.specs.declared.Edition.TheVariants.{Flown, Corrected}
use Rattle.base.specs.Lists.{tabulate, lowest}
use Rattle.base.proofs.Lowest.{every_below}
use Rattle.base.proofs.Sums.{same_bits}
use Rattle.base.proofs.Xor.{xor_back}
use Rattle.crc.specs.Crc.{crc_step, crc_of}
use Rattle.crc.specs.Crc5.{header_bit, counted_flown, poly5, crc5_over, crc5_of}
use Rattle.crc.proofs.Editions.{counted_is, flown_lost}
use Rattle.crc.proofs.Differences.{difference_bits, over_linear}

-- the number that header bits 32 to 35 make
abbrev four_of : ℕ → ℕ
four_of n = n / 2 ^ 34 % 2 ^ 4

-- what the four add to CRC5
unfoldable four_in : ℕ → ℕ
four_in v = crc_of 5 poly5 0 (difference_bits (v * 2 ^ 34))

-- computed of the fifteen: each adds something
four_adds : (p : ℕ) → p < 15 → T (not (eqb (four_in (suc p)) 0))
unfolding four_in difference_bits crc_step lowest tabulate flat_map
four_adds = every_below 15 (λ p. not (eqb (four_in (suc p)) 0)) refl

four_seen : (v : ℕ) → v < 16 → four_in v ≡ 0 → v ≡ 0
four_seen zero small e = refl
four_seen (suc p) small e = absurd (rw e at (four_adds p (le_of_suc-le-suc small)))

module _ (n : ℕ) (small : n < 2 ^ 70) where
  -- what counts by the flown rule, and the four
  counted_and_four : bit_xor (counted_flown n) (four_of n * 2 ^ 34) ≡ n
  counted_and_four =
      let above = n / 2 ^ 38 % 2 ^ 32 in
      let parted : counted_flown n ≡ above * 2 ^ 4 * 2 ^ 34 + n % 2 ^ 34 = counted_is n ∙ omega arith in
      let together : (above * 2 ^ 4 + four_of n) * 2 ^ 34 + n % 2 ^ 34 ≡ n = omega arith in
      rw parted
      ((rw add-zero at (xor_block 34 (above * 2 ^ 4) (four_of n) (n % 2 ^ 34) 0 (mod-lt n (pow_pos 34)) (pow_pos 34)))
      ∙ rw (xor_shifted above 4 (four_of n) (mod-lt (n / 2 ^ 34) (pow_pos 4)), xor_zero_r) together)

  -- all four zero: the number is as it counts
  counted_all : four_of n ≡ 0 → counted_flown n ≡ n
  counted_all e = counted_is n ∙ omega arith

  -- THE TWO EDITIONS differ where the flown rule leaves a bit out
  pub flown_differs : (counted_flown n ≡ n → ⊥) → crc5_of Flown n ≡ crc5_of Corrected n → ⊥
  unfolding crc5_of four_in
  flown_differs left same =
      let crc = crc5_over (counted_flown n) in
      let four = four_in (four_of n) in
      let added : crc ≡ bit_xor crc four = same ∙ ap crc5_over (sym counted_and_four) ∙ over_linear (counted_flown n) (four_of n * 2 ^ 34) in
      let none : four ≡ 0 = sym (xor_back crc four) ∙ ap (bit_xor crc) (sym added) ∙ xor_self crc in
      left (counted_all (four_seen (four_of n) (mod-lt (n / 2 ^ 34) (pow_pos 4)) none))

  -- it leaves none out where all four are zero
  pub none_of_four : ((k : ℕ) → 32 ≤ k → k < 36 → header_bit n k ≡ 0) → counted_flown n ≡ n
  none_of_four zeros =
      counted_all
      (same_bits 4 (n / 2 ^ 34) 0
      (λ q h. let e : 34 + q ≡ 69 - (35 - q) = omega arith in rw (shr-shr, e, zero-div, zero-mod) (zeros (35 - q) (omega arith) (omega arith))))

-- the two editions agree where it leaves none out
pub flown_agrees : (n : ℕ) → counted_flown n ≡ n → crc5_of Flown n ≡ crc5_of Corrected n
unfolding crc5_of
flown_agrees n all = ap crc5_over all

-- one of the four set is left out
pub one_of_four : (n k : ℕ) → 32 ≤ k → k < 36 → header_bit n k ≡ 1 → counted_flown n ≡ n → ⊥
one_of_four n k h l set all =
    let zero-is-one : ◌≡◌ {A = ℕ} 0 1 = sym (flown_lost n k h l) ∙ ap (λ (x : ℕ). header_bit x k) all ∙ set in
    absurd (omega arith)

-- under the corrected edition a change of the four, and of no other bit, is seen
pub change_seen : (n v : ℕ) → v < 16 → crc5_of Corrected (bit_xor n (v * 2 ^ 34)) ≡ crc5_of Corrected n → v ≡ 0
unfolding crc5_of four_in
change_seen n v small same =
    four_seen v small
    (sym (xor_back (crc5_over n) (four_in v)) ∙ ap (bit_xor (crc5_over n)) (sym (over_linear n (v * 2 ^ 34)) ∙ same) ∙ xor_self (crc5_over n))
