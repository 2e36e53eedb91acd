-- Where each header bit stands: in its word, and on air.
-- Assumes nothing.
use mathlib.Core.Path.{◌≡◌, sym, ap, ◌∙◌}
use mathlib.Core.List.{List, [], append-nil}
use Prim.Native.Nat.{ℕ, suc, ◌+◌, ◌-◌, ◌*◌, ◌/◌, ◌%◌, ◌^◌, ◌<◌}
use native.Mathlib.Omega.{arith}
use lib.ListN.{get_or}
use lib.Pow.{shr-shr}
use Rattle.base.proofs.Bits.{bit_of_low}
use Rattle.base.proofs.Tabulate.{tabulate_at}
use Rattle.word.specs.Words.{encode_of}
use Rattle.word.proofs.Multiples.{encode_data}
use Rattle.crc.specs.Crc5.{header_bit}
use Rattle.air.specs.Air.{word_count, air_of}
use Rattle.air.proofs.Places.{air_at}
use Rattle.header.specs.Fields.{data_at, coded_of, travels_at}
use Rattle.header.proofs.Coding.{data_at_lem, data_lt}

pub coded_at : (n j : ℕ) → j < word_count → get_or (coded_of n) j 0 ≡ encode_of (data_at n j)
unfolding coded_of
coded_at n j h = tabulate_at (λ j. encode_of (data_at n j)) 0 word_count j h

-- "Bit 5j+t stands at position 14-t of its word"
pub bit_place : (n j t : ℕ) → j < word_count → t < 5 → get_or (coded_of n) j 0 / 2 ^ (14 - t) % 2 ≡ header_bit n (5 * j + t)
bit_place n j t hj ht =
    let word : 14 - t ≡ 10 + (4 - t) = omega arith in
    let header : 69 - (5 * j + t) ≡ 5 * (word_count - suc j) + (4 - t) = omega arith in
    rw (coded_at n j hj, word, header, ← shr-shr, encode_data (data_at n j) (data_lt n j hj), data_at_lem n j hj)
    (bit_of_low (n / 2 ^ (5 * (word_count - suc j))) 5 (4 - t) (omega arith) ∙ ap (λ (x : ℕ). x % 2) (shr-shr n (5 * (word_count - suc j)) (4 - t)))

-- so it travels at air bit 14 (14 - t) + j: header bit 0 at 196, bit 69 at 153
pub bit_travels : (n k : ℕ) → k < 70 → get_or (air_of (coded_of n)) (travels_at k) 0 ≡ header_bit n k
bit_travels n k h =
    let split : 5 * (k / 5) + k % 5 ≡ k = omega arith in
    ap (λ (l : List ℕ). get_or l (travels_at k) 0) (sym (append-nil (air_of (coded_of n))))
    ∙ air_at (coded_of n) [] (k / 5) (14 - k % 5) (omega arith) (omega arith)
    ∙ bit_place n (k / 5) (k % 5) (omega arith) (omega arith) ∙ ap (header_bit n) split
