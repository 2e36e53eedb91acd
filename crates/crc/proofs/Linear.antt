-- A checksum is linear, for every width and polynomial: what two states and two messages give together is the sum (xor)
-- of what each gives.
-- Assumes nothing.
use mathlib.Core.Path.{◌≡◌, refl, sym, ap, ap₂, ◌∙◌}
use mathlib.Core.Bool.{cond}
use mathlib.Core.List.{List, [], ◌∷◌, map, zip_with}
use Prim.Native.Nat.{ℕ, zero, suc, ◌+◌, ◌-◌, ◌*◌, ◌/◌, ◌%◌, ◌^◌, ◌<◌}
use native.Mathlib.Nat.{zero-mul, one-mul, add-zero, mod-lt, mod-eq_of_lt, lt_of_lt_of_le}
use native.Mathlib.Omega.{arith}
use lib.Bits.{bit_xor, xor_zero_r, xor_shr, xor_mod, xor_lt, xor_block}
use lib.Dec.{eqb, lit<}
use lib.ListN.{length}
use lib.Pow.{pow_mono, shr_lt}
use Rattle.base.specs.Lists.{AreBits, count, tabulate}
use Rattle.base.proofs.Tabulate.{tabulate_length, tabulate_same, tabulate_all}
use Rattle.base.proofs.Xor.{xor_four, xor_bit_times}
use Rattle.crc.specs.Crc.{bits_of, crc_step, crc_of}
use Rattle.crc.proofs.Width.{step_lt}

-- doubling, multiplying by a bit: sums stay sums
xor_double : (a b : ℕ) → bit_xor (a * 2) (b * 2) ≡ bit_xor a b * 2
xor_double a b = simp add-zero at (xor_block 1 a b 0 0 (lit< tt) (lit< tt))

xor_times : (p a b : ℕ) → a < 2 → b < 2 → bit_xor (a * p) (b * p) ≡ bit_xor a b * p
xor_times p a b ha hb =
    sym (rw (mod-eq_of_lt (xor_lt 1 a b ha hb), mod-eq_of_lt ha, mod-eq_of_lt hb) at (xor_bit_times a b p))

-- p added where two bits differ, as a sum
by_sum : (p m a b : ℕ) → a < 2 → b < 2 → cond (eqb a b) m (bit_xor m p) ≡ bit_xor m (bit_xor a b * p)
by_sum p m zero zero ha hb = rw (zero-mul, xor_zero_r)
by_sum p m zero (suc zero) ha hb = rw one-mul
by_sum p m (suc zero) zero ha hb = rw one-mul
by_sum p m (suc zero) (suc zero) ha hb = rw (zero-mul, xor_zero_r)
by_sum p m zero (suc (suc b)) ha hb = absurd (omega arith)
by_sum p m (suc zero) (suc (suc b)) ha hb = absurd (omega arith)
by_sum p m (suc (suc a)) b ha hb = absurd (omega arith)

-- lists made by two rules, added
zip_map : (f g : ℕ → ℕ) (l : List ℕ) → zip_with bit_xor (map f l) (map g l) ≡ map (λ k. bit_xor (f k) (g k)) l
unfolding zip_with
zip_map f g [] = refl
zip_map f g (k ∷ l) = ap (λ (m : List ℕ). bit_xor (f k) (g k) ∷ m) (zip_map f g l)

-- the n bits of a number; those of a sum are the sums of the bits
module _ (n a : ℕ) where
  are_bits : AreBits (bits_of n a)
  are_bits = tabulate_all (λ x. x < 2) (λ t. a / 2 ^ (n - 1 - t) % 2) n (lit< tt) (λ t h. mod-lt (a / 2 ^ (n - 1 - t)) (lit< tt))

  sum_bits : (b : ℕ) → zip_with bit_xor (bits_of n a) (bits_of n b) ≡ bits_of n (bit_xor a b)
  unfolding tabulate
  sum_bits b =
      zip_map (λ t. a / 2 ^ (n - 1 - t) % 2) (λ t. b / 2 ^ (n - 1 - t) % 2) (count n 0)
      ∙ tabulate_same (λ t. bit_xor (a / 2 ^ (n - 1 - t) % 2) (b / 2 ^ (n - 1 - t) % 2)) (λ t. bit_xor a b / 2 ^ (n - 1 - t) % 2) n
      (λ t h. sym (ap (λ (x : ℕ). x % 2) (xor_shr a b (n - 1 - t)) ∙ xor_mod (a / 2 ^ (n - 1 - t)) (b / 2 ^ (n - 1 - t)) 1))

module _ (w p : ℕ) where
  -- the top bit, and the others one higher
  top : ℕ → ℕ
  top crc = crc / 2 ^ (w - 1)

  moved : ℕ → ℕ
  moved crc = crc % 2 ^ (w - 1) * 2

  top_lt : (crc : ℕ) → crc < 2 ^ w → top crc < 2
  unfolding top
  top_lt crc h = shr_lt 1 (w - 1) (lt_of_lt_of_le h (pow_mono {i = w} {j = 1 + (w - 1)} (omega arith)))

  top_linear : (c d : ℕ) → top (bit_xor c d) ≡ bit_xor (top c) (top d)
  unfolding top
  top_linear c d = xor_shr c d (w - 1)

  moved_linear : (c d : ℕ) → moved (bit_xor c d) ≡ bit_xor (moved c) (moved d)
  unfolding moved
  moved_linear c d = ap (λ (x : ℕ). x * 2) (xor_mod c d (w - 1)) ∙ sym (xor_double (c % 2 ^ (w - 1)) (d % 2 ^ (w - 1)))

  -- one bit, as a sum
  step_sum : (crc bit : ℕ) → crc < 2 ^ w → bit < 2 → crc_step w p crc bit ≡ bit_xor (moved crc) (bit_xor (top crc) bit * p)
  unfolding crc_step top moved
  step_sum crc bit hc hb = by_sum p (crc % 2 ^ (w - 1) * 2) (crc / 2 ^ (w - 1)) bit (top_lt crc hc) hb

  pub step_linear : (c d a b : ℕ) → c < 2 ^ w → d < 2 ^ w → a < 2 → b < 2
      → crc_step w p (bit_xor c d) (bit_xor a b) ≡ bit_xor (crc_step w p c a) (crc_step w p d b)
  step_linear c d a b hc hd ha hb =
      step_sum (bit_xor c d) (bit_xor a b) (xor_lt w c d hc hd) (xor_lt 1 a b ha hb)
      ∙ ap₂ (λ (x y : ℕ). bit_xor x (y * p)) (moved_linear c d)
      (ap (λ (x : ℕ). bit_xor x (bit_xor a b)) (top_linear c d) ∙ xor_four (top c) (top d) a b)
      ∙ ap (bit_xor (bit_xor (moved c) (moved d)))
      (sym (xor_times p (bit_xor (top c) a) (bit_xor (top d) b) (xor_lt 1 (top c) a (top_lt c hc) ha) (xor_lt 1 (top d) b (top_lt d hd) hb)))
      ∙ xor_four (moved c) (moved d) (bit_xor (top c) a * p) (bit_xor (top d) b * p)
      ∙ sym (ap₂ bit_xor (step_sum c a hc ha) (step_sum d b hd hb))

  -- two messages of one length
  pub crc_linear : p < 2 ^ w → (xs ys : List ℕ) → length xs ≡ length ys → AreBits xs → AreBits ys
      → (c d : ℕ) → c < 2 ^ w → d < 2 ^ w
      → crc_of w p (bit_xor c d) (zip_with bit_xor xs ys) ≡ bit_xor (crc_of w p c xs) (crc_of w p d ys)
  unfolding zip_with
  crc_linear fits [] [] long bx by c d hc hd = refl
  crc_linear fits [] (y ∷ ys) long bx by c d hc hd = absurd (omega arith)
  crc_linear fits (x ∷ xs) [] long bx by c d hc hd = absurd (omega arith)
  crc_linear fits (x ∷ xs) (y ∷ ys) long bx by c d hc hd =
      ap (λ (s : ℕ). crc_of w p s (zip_with bit_xor xs ys)) (step_linear c d x y hc hd (bx 0) (by 0))
      ∙ crc_linear fits xs ys (omega arith) (λ k. bx (suc k)) (λ k. by (suc k)) (crc_step w p c x) (crc_step w p d y)
      (step_lt w p fits c x) (step_lt w p fits d y)

  -- the n bits of two numbers
  pub number_linear : p < 2 ^ w → (n a b c d : ℕ) → c < 2 ^ w → d < 2 ^ w
      → crc_of w p (bit_xor c d) (bits_of n (bit_xor a b)) ≡ bit_xor (crc_of w p c (bits_of n a)) (crc_of w p d (bits_of n b))
  number_linear fits n a b c d hc hd =
      ap (crc_of w p (bit_xor c d)) (sym (sum_bits n a b))
      ∙ crc_linear fits (bits_of n a) (bits_of n b) (tabulate_length _ n ∙ sym (tabulate_length _ n)) (are_bits n a) (are_bits n b) c d hc hd
