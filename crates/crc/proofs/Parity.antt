-- The parity of a checksum, for every width and polynomial whose terms, x^width among them, are even in number: that is, which has the
-- factor x + 1. Then a checksum has the parity of its start and of all bits that went in.
-- Assumes nothing.
use mathlib.Core.Path.{◌≡◌, refl, sym, ap₂, ◌∙◌}
use mathlib.Core.Bool.{Bool, true, false, cond}
use mathlib.Core.List.{List, [], ◌∷◌}
use Prim.Native.Nat.{ℕ, zero, suc, ◌+◌, ◌-◌, ◌*◌, ◌/◌, ◌%◌, ◌^◌, ◌<◌}
use native.Mathlib.Nat.{mod-lt, mod-eq_of_lt}
use native.Mathlib.Numerals.{one-add}
use native.Mathlib.Omega.{arith}
use lib.Bits.{bit_xor, differ}
use lib.Count.{ones_in}
use lib.Dec.{eqb, lit<}
use lib.Pow.{shr_lt}
use borrow.Author.Tests.{eqb-true, eqb-false}
use Rattle.base.specs.Lists.{AreBits, sum_to}
use Rattle.base.proofs.Ones.{ones_sum, ones_low}
use Rattle.base.proofs.Xor.{xor_odd, xor_half}
use Rattle.crc.specs.Crc.{crc_step, crc_of, poly13, poly16}
use Rattle.crc.specs.Crc5.{poly5}
use Rattle.crc.proofs.Width.{step_lt}

-- how many of some bits are set
abbrev pub total : List ℕ → ℕ
total [] = 0
total (b ∷ bs) = b + total bs

differ_sum : (a b : ℕ) → a < 2 → b < 2 → differ a b ≡ (a + b) % 2
differ_sum zero zero h k = refl
differ_sum zero (suc zero) h k = refl
differ_sum (suc zero) zero h k = refl
differ_sum (suc zero) (suc zero) h k = refl
differ_sum (suc (suc a)) b h k = absurd (omega arith)
differ_sum zero (suc (suc b)) h k = absurd (omega arith)
differ_sum (suc zero) (suc (suc b)) h k = absurd (omega arith)

-- the ones of a sum are even in number exactly where those of its parts are, together
pub ones_xor : (k a b : ℕ) → ones_in k (bit_xor a b) % 2 ≡ (ones_in k a + ones_in k b) % 2
unfolding ones_in
ones_xor zero a b = refl
ones_xor (suc k) a b =
    let bit = xor_odd a b ∙ differ_sum (a % 2) (b % 2) (mod-lt a (lit< tt)) (mod-lt b (lit< tt)) in
    rw (bit, xor_half a b) (omega (arith, ones_xor k (a / 2) (b / 2)))

-- doubled, and with the top bit
ones_double : (k c : ℕ) → ones_in (suc k) (c * 2) ≡ ones_in k c
unfolding ones_in
ones_double k c =
    let half : c * 2 / 2 ≡ c = omega arith in
    rw half (omega arith)

ones_top : (k c : ℕ) → c < 2 ^ suc k → ones_in (suc k) c ≡ ones_in k c + c / 2 ^ k
unfolding sum_to
ones_top k c h =
    ones_sum (suc k) c
    ∙ ap₂ (λ (x y : ℕ). x + y) (sym (ones_sum k c)) (mod-eq_of_lt (shr_lt 1 k (rw one-add h)))

module _ (k p : ℕ) (odd : ones_in (suc k) p % 2 ≡ 1) where
  -- a bit turns the parity where it is set
  step_parity : (c bit : ℕ) → c < 2 ^ suc k → bit < 2 → ones_in (suc k) (crc_step (suc k) p c bit) % 2 ≡ (ones_in (suc k) c + bit) % 2
  unfolding crc_step
  step_parity c bit hc hb = rw same (by (eqb (c / 2 ^ k) bit) refl)
    where
      same : suc k - 1 ≡ k
      same = omega arith

      moved : ℕ
      moved = c % 2 ^ k * 2

      moved_ones : ones_in (suc k) (c % 2 ^ k * 2) ≡ ones_in k c
      moved_ones = ones_double k (c % 2 ^ k) ∙ ones_low k c

      top_lt : c / 2 ^ k < 2
      top_lt = shr_lt 1 k (rw one-add hc)

      by : (b : Bool) → eqb (c / 2 ^ k) bit ≡ b → ones_in (suc k) (cond b (c % 2 ^ k * 2) (bit_xor (c % 2 ^ k * 2) p)) % 2 ≡ (ones_in (suc k) c + bit) % 2
      by true e = let top : c / 2 ^ k ≡ bit = eqb-true (c / 2 ^ k) bit e in omega (arith, moved_ones, ones_top k c hc, top)
      by false e =
          let apart : c / 2 ^ k ≡ bit → ⊥ = eqb-false (c / 2 ^ k) bit e in
          omega (arith, ones_xor (suc k) (c % 2 ^ k * 2) p, moved_ones, odd, ones_top k c hc, top_lt, apart)

  -- and all bits together
  pub crc_parity : p < 2 ^ suc k → (start : ℕ) (bits : List ℕ) → start < 2 ^ suc k → AreBits bits → ones_in (suc k) (crc_of (suc k) p start bits) % 2 ≡ (ones_in (suc k) start + total bits) % 2
  crc_parity fits start [] h are = omega arith
  crc_parity fits start (b ∷ bs) h are =
      omega (arith, crc_parity fits (crc_step (suc k) p start b) bs (step_lt (suc k) p fits start b) (λ i. are (suc i)), step_parity start b h (are 0))

-- the polynomials here have an even number of terms, x^width among them
pub five_even : ones_in 5 poly5 % 2 ≡ 1
unfolding ones_in
five_even = refl

pub thirteen_even : ones_in 13 poly13 % 2 ≡ 1
unfolding ones_in
thirteen_even = refl

pub sixteen_even : ones_in 16 poly16 % 2 ≡ 1
unfolding ones_in
sixteen_even = refl
