-- The nine bytes of CRC5: header bits 0 to 64, then the filling.
-- Assumes nothing.
use mathlib.Core.Path.{◌≡◌, sym, ap, ◌∙◌}
use Prim.Native.Nat.{ℕ, ◌+◌, ◌-◌, ◌*◌, ◌/◌, ◌%◌, ◌^◌, ◌≤◌, ◌<◌}
use native.Mathlib.Omega.{arith}
use lib.Dec.{lit<}
use lib.ListN.{get_or}
use lib.Pow.{shr-shr}
use Rattle.base.proofs.Tabulate.{tabulate_at}
use Rattle.crc.specs.Crc.{bits_of}
use Rattle.crc.specs.Crc5.{header_bit, filling, message, nine_bytes}
use Rattle.base.proofs.Bits.{bit_of_low, bit_below, shift_above}

-- bit k of the message's 72, the most significant first
abbrev pub message_bit : ℕ → ℕ → ℕ
message_bit n k = message n / 2 ^ (71 - k) % 2

-- bit t of byte i, the most significant first
abbrev pub bit_in : ℕ → ℕ → ℕ → ℕ
bit_in n i t = get_or (bits_of 8 (get_or (nine_bytes n) i 0)) t 0

byte_shift : (i t : ℕ) → i < 9 → t < 8 → 71 - (8 * i + t) ≡ (8 * (8 - i)) + (7 - t)
byte_shift i t hi ht = omega arith

-- bit t of byte i is bit 8 i + t of the message
pub byte_bit : (n i t : ℕ) → i < 9 → t < 8 → bit_in n i t ≡ message_bit n (8 * i + t)
unfolding nine_bytes
byte_bit n i t hi ht =
    tabulate_at _ 0 8 t ht ∙ ap (λ (b : ℕ). b / 2 ^ (7 - t) % 2) (tabulate_at _ 0 9 i hi)
    ∙ bit_of_low (message n / 2 ^ (8 * (8 - i))) 8 (7 - t) (omega arith) ∙ rw (byte_shift i t hi ht, shr-shr)

-- header bits 0 to 64 are those of the upper 65 bits
pub header_above : (n k : ℕ) → k < 65 → header_bit n k ≡ n / 2 ^ 5 / 2 ^ (64 - k) % 2
header_above n k h = let e : 69 - k ≡ 5 + (64 - k) = omega arith in rw (e, shr-shr)

-- the first 65 bits of the message are header bits
pub message_header : (n k : ℕ) → k < 65 → message_bit n k ≡ header_bit n k
unfolding message
message_header n k h =
    let e : 71 - k ≡ 7 + (64 - k) = omega arith in
    rw (e, header_above n k h) (ap (λ (x : ℕ). x % 2) (shift_above (n / 2 ^ 5) 7 filling (lit< tt) (64 - k)))

filling_shift : (k : ℕ) → 65 ≤ k → k < 72 → 71 - k ≡ 6 - (k - 65)
filling_shift k h l = omega arith

-- the last seven are the filling
pub message_filling : (n k : ℕ) → 65 ≤ k → k < 72 → message_bit n k ≡ get_or (bits_of 7 filling) (k - 65) 0
unfolding message
message_filling n k h l =
    bit_below (n / 2 ^ 5) 7 filling (lit< tt) (71 - k) (omega arith)
    ∙ rw (filling_shift k h l) (sym (tabulate_at _ 0 7 (k - 65) (omega arith)))
