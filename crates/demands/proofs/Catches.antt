-- REQUEST n. "State and prove: take a header whose CRC5 is right, change any odd number of its 70 bits before coding, check bits included, and
-- the CRC5 worked out afresh differs from the one it then carries. Under the flown edition none of the changed bits may be 32 to 35; show also
-- that changes to those four alone are never seen."
-- The reason is that the polynomial has the factor x + 1: `crc_parity` (crates/crc/proofs/Parity.antt), for every width and polynomial.
-- Assumes nothing.
use mathlib.Core.Path.{◌≡◌, refl, sym, ◌∙◌}
use mathlib.Core.List.{List, ◌∷◌, ◌++◌, reverse, flat_map}
use Prim.Native.Nat.{ℕ, ◌-◌, ◌%◌, ◌^◌, ◌<◌}
use native.Mathlib.Omega.{arith}
use lib.ListN.{length}
use Rattle.base.specs.declared.Edition.{Edition}
use Rattle.base.specs.declared.Edition.TheVariants.{Flown, Corrected}
use Rattle.base.specs.Lists.{AreBits, tabulate, sum_to}
use Rattle.crc.specs.Crc.{bits_of_bytes, crc_step, crc13_of}
use Rattle.crc.specs.Crc5.{header_width, header_bit, message, nine_bytes, crc5_over, counted_flown, crc5_of, Lost}
use Rattle.crc.proofs.OddChanges.{right_even}
use Rattle.crc.proofs.FourBits.{four_unseen, four_seen_corrected}
use Rattle.crc.proofs.Order178.{unseen_178}
use Rattle.header.specs.Fields.{header_of}
use Rattle.header.proofs.Unpacking.{crc5_carried}
use Rattle.demands.specs.Changes.{Right, changes, FourAlone, zeros, two_changed}

-- "change any odd number of its 70 bits .. and the CRC5 worked out afresh differs from the one it then carries". Of the bits that do not
-- count, 32 to 35 under the flown edition, none may be changed.
pub odd_change_seen : (edition : Edition) (n m : ℕ) → Right edition n → ((k : ℕ) → Lost edition k → header_bit n k ≡ header_bit m k) → changes n m % 2 ≡ 1 → Right edition m → ⊥
unfolding changes
odd_change_seen edition n m right kept odd right' =
    let even = right_even edition n m (λ k h. kept k) (right ∙ crc5_carried n) (right' ∙ crc5_carried m) in
    absurd (omega (arith, even, odd))

-- "changes to those four alone are never seen", under the flown edition
pub four_never_seen : (n m : ℕ) → FourAlone n m → Right Flown n → Right Flown m
four_never_seen n m alone right = four_unseen n m alone (right ∙ crc5_carried n) ∙ sym (crc5_carried m)

-- and under the corrected one every change to them is, of one to four bits: no two right headers differ in them alone
pub four_always_seen : (n m : ℕ) → n < 2 ^ header_width → m < 2 ^ header_width → FourAlone n m → Right Corrected n → Right Corrected m → n ≡ m
four_always_seen n m small small' alone right right' = four_seen_corrected n m small small' alone (right ∙ crc5_carried n) (right' ∙ crc5_carried m)

-- the smallest change of an even number of bits that CRC5 does not see has two: bits 0 and 17
pub two_not_seen : (Right Flown zeros × Right Flown two_changed) × (Right Corrected zeros × Right Corrected two_changed) × (changes zeros two_changed ≡ 2)
unfolding changes sum_to tabulate flat_map crc_step message nine_bytes crc5_over counted_flown crc5_of header_of
two_not_seen = ((refl, refl), (refl, refl), refl)

-- What CRC13 does not see: two flipped payload bits that go in 178 places apart, a and b with 177 between them.
pub payload_178 : (before between after : List ℕ) (a b : ℕ) → a < 2 → b < 2 → length between ≡ 177 → AreBits between → (p q : List ℕ)
    → bits_of_bytes (reverse p) ≡ before ++ (a ∷ between) ++ (b ∷ after) → bits_of_bytes (reverse q) ≡ before ++ ((1 - a) ∷ between) ++ ((1 - b) ∷ after)
    → crc13_of p ≡ crc13_of q
payload_178 = unseen_178
