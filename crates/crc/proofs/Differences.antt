-- What a difference between two headers does to CRC5: the same, whatever the header.
-- Assumes nothing.
use mathlib.Core.Path.{◌≡◌, refl, sym, ap, ap₂, ◌∙◌}
use mathlib.Core.List.{List, [], ◌∷◌, map, foldl, reverse}
use Prim.Native.Nat.{ℕ, ◌+◌, ◌-◌, ◌*◌, ◌/◌, ◌%◌, ◌^◌, ◌<◌}
use native.Mathlib.Nat.{add-zero}
use lib.Bits.{bit_xor, xor_shr, xor_mod, xor_block}
use lib.Dec.{lit<}
use lib.Pow.{pow_pos}
use Rattle.base.specs.Lists.{tabulate}
use Rattle.base.proofs.Tabulate.{tabulate_same}
use Rattle.crc.specs.Crc.{byte_bits, bits_of, bits_of_bytes, crc_of}
use Rattle.crc.specs.Crc5.{filling, message, nine_bytes, poly5, start5, crc5_over}
use Rattle.crc.proofs.Width.{crc_lt}
use Rattle.crc.proofs.Linear.{number_linear}
use Rattle.crc.proofs.Loop.{crc_byte, by_bytes}

-- byte i of nine, as `nine_bytes` has it of a message
abbrev byte_of : ℕ → ℕ → ℕ
byte_of m i = m / 2 ^ (byte_bits * (8 - i)) % 2 ^ byte_bits

-- the 72 bits of a difference d between two headers, in the order in which they go in: where the message has header bits, and
-- no filling
unfoldable pub difference_bits : ℕ → List ℕ
difference_bits d = bits_of_bytes (reverse (tabulate 9 (byte_of (d / 2 ^ 5 * 2 ^ 7))))

-- bytes that are sums, for every width and polynomial
module _ (w p : ℕ) (fits : p < 2 ^ w) (f g : ℕ → ℕ) where
  bytes_in_lem : (l : List ℕ) (c d : ℕ) → c < 2 ^ w → d < 2 ^ w
      → foldl (crc_byte w p) (bit_xor c d) (map (λ k. bit_xor (f k) (g k)) l)
      ≡ bit_xor (foldl (crc_byte w p) c (map f l)) (foldl (crc_byte w p) d (map g l))
  bytes_in_lem [] c d hc hd = refl
  bytes_in_lem (k ∷ l) c d hc hd =
      ap (λ (s : ℕ). foldl (crc_byte w p) s (map (λ k. bit_xor (f k) (g k)) l)) (number_linear w p fits byte_bits (f k) (g k) c d hc hd)
      ∙ bytes_in_lem l (crc_byte w p c (f k)) (crc_byte w p d (g k))
      (crc_lt w p fits c (bits_of byte_bits (f k)) hc) (crc_lt w p fits d (bits_of byte_bits (g k)) hd)

-- nine bytes, the last first
unfoldable pub last_first : List ℕ
last_first = 8 ∷ 7 ∷ 6 ∷ 5 ∷ 4 ∷ 3 ∷ 2 ∷ 1 ∷ 0 ∷ []

pub nine_turned : (f : ℕ → ℕ) → reverse (tabulate 9 f) ≡ map f last_first
unfolding tabulate last_first
nine_turned f = refl

nine_linear : (f g : ℕ → ℕ) (c d : ℕ) → c < 2 ^ 5 → d < 2 ^ 5
    → crc_of 5 poly5 (bit_xor c d) (bits_of_bytes (reverse (tabulate 9 (λ k. bit_xor (f k) (g k)))))
    ≡ bit_xor (crc_of 5 poly5 c (bits_of_bytes (reverse (tabulate 9 f)))) (crc_of 5 poly5 d (bits_of_bytes (reverse (tabulate 9 g))))
nine_linear f g c d hc hd =
    rw (nine_turned f, nine_turned g, nine_turned (λ k. bit_xor (f k) (g k)))
    (sym (by_bytes 5 poly5 (bit_xor c d) (map (λ k. bit_xor (f k) (g k)) last_first))
    ∙ bytes_in_lem 5 poly5 (lit< tt) f g last_first c d hc hd
    ∙ ap₂ bit_xor (by_bytes 5 poly5 c (map f last_first)) (by_bytes 5 poly5 d (map g last_first)))

-- the message of a sum, and its bytes
message_linear : (n d : ℕ) → message (bit_xor n d) ≡ bit_xor (message n) (d / 2 ^ 5 * 2 ^ 7)
unfolding message
message_linear n d =
    ap (λ (x : ℕ). x * 2 ^ 7 + filling) (xor_shr n d 5)
    ∙ sym (rw add-zero at (xor_block 7 (n / 2 ^ 5) (d / 2 ^ 5) filling 0 (lit< tt) (pow_pos 7)))

byte_linear : (m e i : ℕ) → byte_of (bit_xor m e) i ≡ bit_xor (byte_of m i) (byte_of e i)
byte_linear m e i =
    ap (λ (x : ℕ). x % 2 ^ byte_bits) (xor_shr m e (byte_bits * (8 - i)))
    ∙ xor_mod (m / 2 ^ (byte_bits * (8 - i))) (e / 2 ^ (byte_bits * (8 - i))) byte_bits

-- THE LAW: what a difference does to CRC5 does not depend on the header
pub over_linear : (n d : ℕ) → crc5_over (bit_xor n d) ≡ bit_xor (crc5_over n) (crc_of 5 poly5 0 (difference_bits d))
unfolding crc5_over nine_bytes difference_bits
over_linear n d =
    ap (λ (l : List ℕ). crc_of 5 poly5 start5 (bits_of_bytes (reverse l)))
    (tabulate_same (byte_of (message (bit_xor n d))) (λ i. bit_xor (byte_of (message n) i) (byte_of (d / 2 ^ 5 * 2 ^ 7) i)) 9
    (λ i h. ap (λ (m : ℕ). byte_of m i) (message_linear n d) ∙ byte_linear (message n) (d / 2 ^ 5 * 2 ^ 7) i))
    ∙ nine_linear (byte_of (message n)) (byte_of (d / 2 ^ 5 * 2 ^ 7)) start5 0 (lit< tt) (pow_pos 5)
