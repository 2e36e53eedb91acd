-- The multiples of 0x537: sums of multiples are multiples, and what is computed of the 32 of them.
-- Assumes nothing.
use mathlib.Core.Path.{◌≡◌, refl, ap, ap₂, ◌∙◌}
use Prim.Native.Nat.{ℕ, zero, suc, ◌*◌, ◌/◌, ◌%◌, ◌≤◌, ◌<◌}
use native.Mathlib.Omega.{arith}
use native.Mathlib.Nat.{le_of_suc-le-suc, lt_irrefl, le_trans}
use lib.Bits.{bit_xor, xor_zero_r}
use lib.Count.{ones_in}
use lib.Dec.{eqb, leb, ltb, eqb→eq, leb→le, ltb→lt}
use Rattle.base.specs.Lists.{lowest}
use Rattle.base.proofs.Lowest.{every_below}
use Rattle.base.proofs.Xor.{xor_assoc, xor_half, xor_four, xor_bit_times}
use Rattle.word.specs.Words.{word_limit, product, generator, combined, multiple_of, data_of, encode_of}

product_xor : (k a b c : ℕ) → product k (bit_xor a b) c ≡ bit_xor (product k a c) (product k b c)
product_xor zero a b c = refl
product_xor (suc k) a b c =
    ap₂ bit_xor (xor_bit_times a b c) (ap (λ (n : ℕ). product k n (c * 2)) (xor_half a b) ∙ product_xor k (a / 2) (b / 2) (c * 2))
    ∙ xor_four (a % 2 * c) (b % 2 * c) (product k (a / 2) (c * 2)) (product k (b / 2) (c * 2))

pub multiple_xor : (p q : ℕ) → multiple_of (bit_xor p q) ≡ bit_xor (multiple_of p) (multiple_of q)
unfolding multiple_of
multiple_xor p q = product_xor 5 p q generator

-- all but that of 0 have at least seven ones
pub multiple_zero : (q : ℕ) → q < 32 → ones_in 15 (multiple_of q) ≤ 6 → q ≡ 0
unfolding multiple_of lowest ones_in
multiple_zero zero small few = refl
multiple_zero (suc p) small few =
    absurd (lt_irrefl 6 (le_trans (leb→le 7 (ones_in 15 (multiple_of (suc p))) (every_below 31 (λ p. leb 7 (ones_in 15 (multiple_of (suc p)))) refl p (le_of_suc-le-suc small))) few))

-- a multiple is the sum of 0x537 times x^k over the coefficients of its multiplier
pub multiple_bits : (q : ℕ) → combined q generator (generator * 2) (generator * 4) (generator * 8) (generator * 16) ≡ multiple_of q
unfolding multiple_of
multiple_bits q =
    let e₁ : q / 4 ≡ q / 2 / 2 = omega arith in
    let e₂ : q / 8 ≡ q / 2 / 2 / 2 = omega arith in
    let e₃ : q / 16 ≡ q / 2 / 2 / 2 / 2 = omega arith in
    rw (e₁, e₂, e₃) (simp (xor_assoc, xor_zero_r))

module _ (q : ℕ) (small : q < 32) where
  pub multiple_lt : multiple_of q < word_limit
  unfolding multiple_of lowest
  multiple_lt = ltb→lt (multiple_of q) word_limit (every_below 32 (λ p. ltb (multiple_of p) word_limit) refl q small)

  -- no two have the same data
  pub multiple_encode : encode_of (data_of (multiple_of q)) ≡ multiple_of q
  unfolding multiple_of lowest encode_of
  multiple_encode = eqb→eq (encode_of (data_of (multiple_of q))) (multiple_of q) (every_below 32 (λ p. eqb (encode_of (data_of (multiple_of p))) (multiple_of p)) refl q small)

module _ (d : ℕ) (small : d < 32) where
  -- and there is one for each data
  pub multiplier_lt : lowest 32 (λ q. eqb (data_of (multiple_of q)) d) < 32
  unfolding multiple_of lowest
  multiplier_lt = ltb→lt _ 32 (every_below 32 (λ e. ltb (lowest 32 (λ q. eqb (data_of (multiple_of q)) e)) 32) refl d small)

  pub encode_data : data_of (encode_of d) ≡ d
  unfolding multiple_of lowest encode_of
  encode_data = eqb→eq (data_of (encode_of d)) d (every_below 32 (λ e. eqb (data_of (encode_of e)) e) refl d small)

  -- THE SYSTEMATIC FORM: five data bits on top; the valid word of some data is the sum of those of the single bits
  pub encode_bits : combined d 0x537 0xA6E 0x11EB 0x23D6 0x429B ≡ encode_of d
  unfolding multiple_of lowest encode_of
  encode_bits = eqb→eq _ (encode_of d) (every_below 32 (λ d. eqb (combined d 0x537 0xA6E 0x11EB 0x23D6 0x429B) (encode_of d)) refl d small)
