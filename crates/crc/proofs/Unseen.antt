-- What CRC5 does not see: header bits 65 to 69, which carry it, and those that do not count, 32 to 35 by the flown rule.
-- Assumes nothing.
use mathlib.Core.Path.{◌≡◌, sym, ap, ◌∙◌}
use mathlib.Core.Logic.{⊎_elim}
use mathlib.Core.List.{List, reverse}
use Prim.Native.Nat.{ℕ, ◌+◌, ◌-◌, ◌*◌, ◌/◌, ◌%◌, ◌^◌, ◌≤◌, ◌<◌}
use native.Mathlib.Omega.{arith}
use lib.Pow.{shr-shr}
use Rattle.base.specs.declared.Edition.{Edition}
use Rattle.base.proofs.Tests.{lt_or_ge}
use Rattle.base.proofs.Tabulate.{tabulate_same}
use Rattle.crc.specs.Crc.{crc_of, bits_of_bytes}
use Rattle.crc.specs.Crc5.{header_bit, counting_bits, message, nine_bytes, poly5, start5, crc5_over, crc5_of, Counts, Lost}
use Rattle.base.proofs.Sums.{same_bits}
use Rattle.crc.proofs.Nine.{message_bit, header_above, message_header, message_filling}
use Rattle.crc.proofs.Editions.{counting_kept, counting_lost, counts_or_lost}

module _ (n m : ℕ) where
  -- two headers whose bits 0 to 64 are the same have the same message
  message_same : ((k : ℕ) → k < 65 → header_bit n k ≡ header_bit m k) → (k : ℕ) → k < 72 → message_bit n k ≡ message_bit m k
  message_same same k h =
      ⊎_elim
      (λ (l : k < 65). message_header n k l ∙ same k l ∙ sym (message_header m k l))
      (λ (l : 65 ≤ k). message_filling n k l h ∙ sym (message_filling m k l h))
      (lt_or_ge k 65)

  -- and the same CRC5: bits 65 to 69 are not in it
  pub over_same : ((k : ℕ) → k < 65 → header_bit n k ≡ header_bit m k) → crc5_over n ≡ crc5_over m
  unfolding crc5_over nine_bytes
  over_same same =
      ap (λ (l : List ℕ). crc_of 5 poly5 start5 (bits_of_bytes (reverse l)))
      (tabulate_same _ _ 9 (λ i h. same_bits 8 (message n / 2 ^ (8 * (8 - i))) (message m / 2 ^ (8 * (8 - i))) (bits i h)))
    where
      bits : (i : ℕ) → i < 9 → (q : ℕ) → q < 8 → message n / 2 ^ (8 * (8 - i)) / 2 ^ q % 2 ≡ message m / 2 ^ (8 * (8 - i)) / 2 ^ q % 2
      bits i h q l =
          let e : 71 - (7 + 8 * i - q) ≡ (8 * (8 - i)) + q = omega arith in
          rw (shr-shr (message n), shr-shr (message m)) (rw e at (message_same same (7 + 8 * i - q) (omega arith)))

-- nor are the bits that do not count
module _ (edition : Edition) (n m : ℕ) (same : (k : ℕ) → k < 65 → Counts edition k → header_bit n k ≡ header_bit m k) where
  pub counting_same : crc5_of edition n ≡ crc5_of edition m
  unfolding crc5_of
  counting_same =
      over_same (counting_bits edition n) (counting_bits edition m)
      (λ k h.
      ⊎_elim
      (λ (there : Counts edition k). counting_kept edition n k there ∙ same k h there ∙ sym (counting_kept edition m k there))
      (λ (there : Lost edition k). counting_lost edition n k there ∙ sym (counting_lost edition m k there))
      (counts_or_lost edition k))

-- bits 65 to 69 may be any
pub carried_same : (edition : Edition) (n m : ℕ) → n / 2 ^ 5 ≡ m / 2 ^ 5 → crc5_of edition n ≡ crc5_of edition m
carried_same edition n m e =
    counting_same edition n m
    (λ k h there. header_above n k h ∙ ap (λ (x : ℕ). x / 2 ^ (64 - k) % 2) e ∙ sym (header_above m k h))
