-- What CRC13 does not see: x has the order 178 modulo its polynomial, so two flipped bits that go in 178 places apart cancel.
-- Assumes nothing.
use mathlib.Core.Path.{◌≡◌, refl, sym, ap, ap₂, ◌∙◌}
use mathlib.Core.List.{List, [], ◌∷◌, ◌++◌, reverse}
use Prim.Native.Nat.{ℕ, zero, suc, ◌-◌, ◌^◌, ◌<◌}
use native.Mathlib.Omega.{arith}
use lib.Bits.{bit_xor, xor_zero_r, xor_self}
use lib.Dec.{lit<}
use lib.ListN.{length, length-replicate}
use Rattle.base.specs.Lists.{AreBits}
use Rattle.crc.specs.Crc.{crc_step, crc_of, bits_of_bytes, poly13, start13, crc13_of}
use Rattle.crc.proofs.Width.{step_lt, crc_lt}
use Rattle.crc.proofs.Linear.{step_linear, crc_linear}
use Rattle.crc.proofs.Loop.{crc_append}
use Rattle.crc.proofs.Around.{zeros, are_zeros, zip_zeros, around_178}

-- a bit, flipped
flip_xor : (b : ℕ) → b < 2 → bit_xor b 1 ≡ 1 - b
flip_xor zero h = refl
flip_xor (suc zero) h = refl
flip_xor (suc (suc b)) h = absurd (omega arith)

-- one flipped bit, and what the 177 bits after it make of it
unfoldable after177 : ℕ
after177 = crc_of 13 poly13 (crc_step 13 poly13 0 1) (zeros 177)

after_lt : after177 < 2 ^ 13
unfolding after177
after_lt = crc_lt 13 poly13 (lit< tt) (crc_step 13 poly13 0 1) (zeros 177) (step_lt 13 poly13 (lit< tt) 0 1)

-- one bit of zero more brings it back, so a second flipped bit leaves nothing
cancels : crc_step 13 poly13 after177 1 ≡ 0
unfolding after177
cancels =
    let flipped : ℕ = crc_step 13 poly13 0 1 in
    let back : crc_step 13 poly13 after177 0 ≡ flipped = sym (crc_append 13 poly13 flipped (zeros 177) (0 ∷ [])) ∙ around_178 flipped (step_lt 13 poly13 (lit< tt) 0 1) in
    ap (λ (s : ℕ). crc_step 13 poly13 s 1) (sym (xor_zero_r after177))
    ∙ step_linear 13 poly13 after177 0 0 1 after_lt (lit< tt) (lit< tt) (lit< tt)
    ∙ ap (λ (s : ℕ). bit_xor s flipped) back ∙ xor_self flipped

module _ (start a b : ℕ) (small : start < 2 ^ 13) (bit-a : a < 2) (bit-b : b < 2) (between : List ℕ) (far : length between ≡ 177) (bits : AreBits between) where
  one : crc_step 13 poly13 start (1 - a) ≡ bit_xor (crc_step 13 poly13 start a) (crc_step 13 poly13 0 1)
  one = rw (← flip_xor a bit-a) (ap (λ (s : ℕ). crc_step 13 poly13 s (bit_xor a 1)) (sym (xor_zero_r start)) ∙ step_linear 13 poly13 start 0 a 1 small (lit< tt) bit-a (lit< tt))

  all : crc_of 13 poly13 (crc_step 13 poly13 start (1 - a)) between ≡ bit_xor (crc_of 13 poly13 (crc_step 13 poly13 start a) between) after177
  unfolding after177
  all =
      ap₂ (λ (s : ℕ) (l : List ℕ). crc_of 13 poly13 s l) one (sym (rw far at (zip_zeros between)))
      ∙ crc_linear 13 poly13 (lit< tt) between (zeros 177) (far ∙ sym (length-replicate {A = ℕ} 177 0)) bits (are_zeros 177)
      (crc_step 13 poly13 start a) (crc_step 13 poly13 0 1) (step_lt 13 poly13 (lit< tt) start a) (step_lt 13 poly13 (lit< tt) 0 1)

  pub both : crc_step 13 poly13 (crc_of 13 poly13 (crc_step 13 poly13 start (1 - a)) between) (1 - b) ≡ crc_step 13 poly13 (crc_of 13 poly13 (crc_step 13 poly13 start a) between) b
  both =
      let state : ℕ = crc_of 13 poly13 (crc_step 13 poly13 start a) between in
      let state-lt : state < 2 ^ 13 = crc_lt 13 poly13 (lit< tt) (crc_step 13 poly13 start a) between (step_lt 13 poly13 (lit< tt) start a) in
      rw (all, ← flip_xor b bit-b) (step_linear 13 poly13 state after177 b 1 state-lt after_lt bit-b (lit< tt) ∙ rw cancels (xor_zero_r (crc_step 13 poly13 state b)))

-- bits before, one, some between, one, and the rest
parted : (before between after : List ℕ) (x y : ℕ)
    → crc_of 13 poly13 start13 (before ++ (x ∷ between) ++ (y ∷ after)) ≡ crc_of 13 poly13 (crc_step 13 poly13 (crc_of 13 poly13 (crc_step 13 poly13 (crc_of 13 poly13 start13 before) x) between) y) after
parted before between after x y =
    crc_append 13 poly13 start13 (before ++ (x ∷ between)) (y ∷ after) ∙ ap (λ (s : ℕ). crc_of 13 poly13 s (y ∷ after)) (crc_append 13 poly13 start13 before (x ∷ between))

-- "two flipped payload bits 178 places apart, in the order they go in, are never seen"
pub unseen_178 : (before between after : List ℕ) (a b : ℕ) → a < 2 → b < 2 → length between ≡ 177 → AreBits between → (p q : List ℕ)
    → bits_of_bytes (reverse p) ≡ before ++ (a ∷ between) ++ (b ∷ after) → bits_of_bytes (reverse q) ≡ before ++ ((1 - a) ∷ between) ++ ((1 - b) ∷ after)
    → crc13_of p ≡ crc13_of q
unfolding crc13_of
unseen_178 before between after a b ha hb far bits p q is is' =
    let start : ℕ = crc_of 13 poly13 start13 before in
    let start-lt : start < 2 ^ 13 = crc_lt 13 poly13 (lit< tt) start13 before (lit< tt) in
    ap (crc_of 13 poly13 start13) is ∙ parted before between after a b
    ∙ ap (λ (s : ℕ). crc_of 13 poly13 s after) (sym (both start a b start-lt ha hb between far bits))
    ∙ sym (parted before between after (1 - a) (1 - b)) ∙ ap (crc_of 13 poly13 start13) (sym is')
