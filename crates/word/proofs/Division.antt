-- The remainder modulo 0x537: what is left of a word when a valid word is taken off, and below 2 ^ 10.
-- Assumes nothing.
use mathlib.Core.Path.{◌≡◌, sym, ap, ◌∙◌}
use Prim.Native.Nat.{ℕ, ◌/◌, ◌<◌, ◌^◌}
use native.Mathlib.Nat.{div-eq_of_lt}
use native.Mathlib.Omega.{arith}
use lib.Bits.{bit_xor, xor_shr, xor_self, xor_comm, xor_zero_r}
use Rattle.base.proofs.Xor.{xor_twice}
use Rattle.word.specs.Words.{word_limit, Valid, data_of, encode_of}
use Rattle.word.specs.Repairs.{remainder_of, table_rows}
use Rattle.word.proofs.Multiples.{encode_data}
use Rattle.word.proofs.Valids.{encode_valid, valid_encode}

pub data_lt : (w : ℕ) → w < word_limit → data_of w < 32
data_lt w h = omega arith

-- the valid word that is taken off
pub taken_valid : (w : ℕ) → w < word_limit → Valid (encode_of (data_of w))
taken_valid w h = encode_valid (data_of w) (data_lt w h)

pub remainder_lt : (w : ℕ) → w < word_limit → remainder_of w < 1024
unfolding remainder_of
remainder_lt w h =
    let none : bit_xor w (encode_of (data_of w)) / 2 ^ 10 ≡ 0 =
    xor_shr w (encode_of (data_of w)) 10 ∙ ap (bit_xor (data_of w)) (encode_data (data_of w) (data_lt w h)) ∙ xor_self (data_of w) in
    omega arith

-- THE REMAINDER IS THE ONE OF THE DIVISION: of a multiple and what stands below x^10, it is the latter
pub remainder_is : (v r : ℕ) → Valid v → r < table_rows → remainder_of (bit_xor v r) ≡ r
unfolding remainder_of
remainder_is v r ok h =
    let same : data_of (bit_xor v r) ≡ data_of v = xor_shr v r 10 ∙ ap (bit_xor (data_of v)) (div-eq_of_lt h) ∙ xor_zero_r (data_of v) in
    ap (λ (d : ℕ). bit_xor (bit_xor v r) (encode_of d)) same ∙ ap (bit_xor (bit_xor v r)) (sym (valid_encode ok))
    ∙ ap (λ (n : ℕ). bit_xor n v) (xor_comm v r) ∙ xor_twice r v
