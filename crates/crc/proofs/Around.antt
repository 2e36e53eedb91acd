-- x has the order 178 modulo CRC13's polynomial: 178 bits of zero turn every state back into itself.
-- Assumes nothing.
use mathlib.Core.Path.{◌≡◌, refl, sym, ap, ap₂, ◌∙◌}
use mathlib.Core.Logic.{⊎_elim}
use mathlib.Core.List.{List, [], ◌∷◌, ◌++◌, zip_with, flat_map}
use Prim.Native.Nat.{ℕ, zero, suc, ◌+◌, ◌-◌, ◌^◌, ◌≤◌, ◌<◌}
use native.Mathlib.Nat.{le_refl, lt_of_lt_of_le, lt_of_le_of_lt, pow-suc, one-mul}
use native.Mathlib.Omega.{arith}
use lib.Bits.{bit_xor, xor_zero_r, xor_self, xor_shifted}
use lib.Dec.{lit<}
use lib.ListN.{length, get_or, replicate}
use lib.Pow.{pow_mono, pow_pos}
use Rattle.base.specs.Lists.{AreBits, tabulate}
use Rattle.base.proofs.Tests.{lt_or_ge}
use Rattle.base.proofs.Tabulate.{tabulate_at, read_replicated}
use Rattle.crc.specs.Crc.{crc_step, crc_of, bits_of_bytes, poly13}
use Rattle.crc.specs.Around.{around_bytes}
use Rattle.crc.proofs.Linear.{crc_linear}
use Rattle.crc.proofs.Loop.{crc_append}

abbrev pub zeros : ℕ → List ℕ
zeros n = replicate n 0

pub are_zeros : (n : ℕ) → AreBits (zeros n)
are_zeros n k = rw (read_replicated {A = ℕ} n k 0) (lit< tt)

-- bits to which nothing is added
pub zip_zeros : (bits : List ℕ) → zip_with bit_xor bits (zeros (length bits)) ≡ bits
unfolding zip_with
zip_zeros [] = refl
zip_zeros (b ∷ bs) = ap₂ (λ (x : ℕ) (xs : List ℕ). x ∷ xs) (xor_zero_r b) (zip_zeros bs)

-- a function of sums that keeps each single bit of m keeps every number of m bits
module _ (f : ℕ → ℕ) (m : ℕ) (linear : (c d : ℕ) → c < 2 ^ m → d < 2 ^ m → f (bit_xor c d) ≡ bit_xor (f c) (f d)) (single : (n : ℕ) → n < m → f (2 ^ n) ≡ 2 ^ n) where
  keeps : (n : ℕ) → n ≤ m → (x : ℕ) → x < 2 ^ n → f x ≡ x
  keeps zero inside x h = let none : x ≡ 0 = omega arith in rw none (linear 0 0 (pow_pos m) (pow_pos m) ∙ xor_self (f 0))
  keeps (suc n) inside x h =
      ⊎_elim
      (λ (lt : x < 2 ^ n). keeps n (omega arith) x lt)
      (λ (ge : 2 ^ n ≤ x).
      let rest_lt : x - 2 ^ n < 2 ^ n = omega (arith, rw pow-suc at h) in
      let whole : 2 ^ n + (x - 2 ^ n) ≡ x = omega arith in
      let parts : bit_xor (2 ^ n) (x - 2 ^ n) ≡ x = (rw one-mul at (xor_shifted 1 n (x - 2 ^ n) rest_lt)) ∙ whole in
      let within : (y : ℕ) → y ≤ x → y < 2 ^ m = λ y le. lt_of_lt_of_le (lt_of_le_of_lt le h) (pow_mono {i = suc n} {j = m} inside) in
      ap f (sym parts)
      ∙ linear (2 ^ n) (x - 2 ^ n) (within (2 ^ n) ge) (within (x - 2 ^ n) (omega arith))
      ∙ ap₂ bit_xor (single n inside) (keeps n (omega arith) (x - 2 ^ n) rest_lt)
      ∙ parts)
      (lt_or_ge x (2 ^ n))

-- each single bit of a state: computed, all 13
all_bits_lem : tabulate 13 (λ n. crc_of 13 poly13 (2 ^ n) (zeros 178)) ≡ tabulate 13 (λ n. 2 ^ n)
unfolding tabulate crc_step
all_bits_lem = refl

one_bit : (n : ℕ) → n < 13 → crc_of 13 poly13 (2 ^ n) (zeros 178) ≡ 2 ^ n
one_bit n h =
    sym (tabulate_at (λ n. crc_of 13 poly13 (2 ^ n) (zeros 178)) 0 13 n h)
    ∙ ap (λ (l : List ℕ). get_or l n 0) all_bits_lem ∙ tabulate_at (λ n. 2 ^ n) 0 13 n h

-- so every state
pub around_178 : (crc : ℕ) → crc < 2 ^ 13 → crc_of 13 poly13 crc (zeros 178) ≡ crc
around_178 crc h =
    keeps (λ c. crc_of 13 poly13 c (zeros 178)) 13
    (λ c d hc hd.
    ap (crc_of 13 poly13 (bit_xor c d)) (sym (zip_zeros (zeros 178)))
    ∙ crc_linear 13 poly13 (lit< tt) (zeros 178) (zeros 178) refl (are_zeros 178) (are_zeros 178) c d hc hd)
    one_bit 13 (le_refl 13) crc h

-- 89 bytes of zero are four times as many bits
four_times : bits_of_bytes (zeros around_bytes) ≡ zeros 178 ++ zeros 178 ++ zeros 178 ++ zeros 178
unfolding tabulate flat_map
four_times = refl

stays : (xs ys : List ℕ) (crc : ℕ) → crc_of 13 poly13 crc xs ≡ crc → crc_of 13 poly13 crc ys ≡ crc → crc_of 13 poly13 crc (xs ++ ys) ≡ crc
stays xs ys crc first then = crc_append 13 poly13 crc xs ys ∙ ap (λ (s : ℕ). crc_of 13 poly13 s ys) first ∙ then

pub around_bytes_lem : (crc : ℕ) → crc < 2 ^ 13 → crc_of 13 poly13 crc (bits_of_bytes (zeros around_bytes)) ≡ crc
around_bytes_lem crc h =
    let once = around_178 crc h in
    ap (crc_of 13 poly13 crc) four_times
    ∙ stays (zeros 178 ++ zeros 178 ++ zeros 178) (zeros 178) crc (stays (zeros 178 ++ zeros 178) (zeros 178) crc (stays (zeros 178) (zeros 178) crc once once) once) once
