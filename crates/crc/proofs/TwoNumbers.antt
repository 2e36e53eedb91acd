-- CRC5 out of the header's two numbers: hi, header bits 0 to 29, and lo, header bits 30 to 69.
-- Assumes nothing.
use mathlib.Core.Path.{◌≡◌, refl, sym, ap, ◌∙◌}
use Prim.Native.Nat.{ℕ, ◌+◌, ◌-◌, ◌*◌, ◌/◌, ◌%◌, ◌^◌, ◌≤◌, ◌<◌}
use native.Mathlib.Nat.{div-one}
use native.Mathlib.Omega.{arith}
use lib.Dec.{lit<, lit≤}
use lib.ListN.{length, get_or}
use lib.Pow.{shr-shr}
use Rattle.base.specs.declared.Edition.{Edition}
use Rattle.base.specs.declared.Edition.TheVariants.{Flown, Corrected}
use Rattle.base.proofs.Tabulate.{tabulate_length, tabulate_at}
use Rattle.base.proofs.Fold.{Downward, down_starts, down_goes_on}
use Rattle.crc.specs.Crc5.{filling, message, nine_bytes, poly5, start5, crc5_over, counted_flown, counting_bits, crc5_of}
use Rattle.crc.specs.Halves.{header_bits}
use Rattle.crc.proofs.Loop.{crc_byte, down_bytes, down_lt}
use Rattle.crc.proofs.Editions.{counted_is}

-- byte 8: header bit 64 and the filling
abbrev pub last_of : ℕ → ℕ
last_of lo = lo / 2 ^ 5 % 2 * 2 ^ 7 + filling

-- bytes 0 to 7 as one number: header bits 0 to 63
abbrev pub eight_of : ℕ → ℕ → ℕ
eight_of hi lo = hi * 2 ^ 34 + lo / 2 ^ 6

nine_length : (n : ℕ) → length (nine_bytes n) ≡ 9
unfolding nine_bytes
nine_length n = tabulate_length _ 9

one_before : (i : ℕ) → 0 < i → i ≤ 8 → 8 * (8 - (i - 1)) ≡ 8 + (8 * (8 - i))
one_before i h l = omega arith

-- byte 8 is in, and of the eight those from i on, the last first
pub record NineIn (hi lo i crc : ℕ) : Type 0 where
  pub inside : i ≤ 8
  pub done : Downward (crc_byte 5 poly5) start5 (nine_bytes (header_bits hi lo)) i crc

module _ (hi lo : ℕ) (small : lo < 2 ^ 40) where
  -- byte 8, and byte i - 1 of the eight
  last_is : get_or (nine_bytes (header_bits hi lo)) 8 0 ≡ last_of lo
  unfolding nine_bytes message
  last_is = tabulate_at _ 0 9 8 (lit< tt) ∙ rw div-one (omega arith)

  eight_are : message (header_bits hi lo) / 2 ^ 8 ≡ eight_of hi lo
  unfolding message
  eight_are = omega arith

  byte_is : (i : ℕ) → 0 < i → i ≤ 8 → get_or (nine_bytes (header_bits hi lo)) (i - 1) 0 ≡ eight_of hi lo / 2 ^ (8 * (8 - i)) % 256
  unfolding nine_bytes
  byte_is i h l = tabulate_at _ 0 9 (i - 1) (omega arith) ∙ rw (one_before i h l, ← shr-shr, eight_are)

  -- the loop from the last byte to the first
  pub nine_starts : (crc : ℕ) → crc ≡ crc_byte 5 poly5 start5 (last_of lo) → NineIn hi lo 8 crc
  nine_starts crc e =
      let none = rw (nine_length (header_bits hi lo)) at (down_starts (crc_byte 5 poly5) start5 (nine_bytes (header_bits hi lo))) in
      record {
        inside = lit≤ tt;
        done = down_goes_on (crc_byte 5 poly5) start5 _ 9 start5 0 none (lit< tt) crc (e ∙ ap (crc_byte 5 poly5 start5) (sym last_is));
      }

  pub nine_goes_on : (i crc : ℕ) → NineIn hi lo i crc → 0 < i
      → (next : ℕ) → next ≡ crc_byte 5 poly5 crc (eight_of hi lo / 2 ^ (8 * (8 - i)) % 256) → NineIn hi lo (i - 1) next
  nine_goes_on i crc so h next e =
      let byte = sym (byte_is i h so.inside) in
      record {
        inside = omega (arith, so.inside);
        done = down_goes_on (crc_byte 5 poly5) start5 _ i crc 0 so.done h next (e ∙ ap (crc_byte 5 poly5 crc) byte);
      }

  -- its state has five bits all the way
  pub nine_lt : (i crc : ℕ) → NineIn hi lo i crc → crc < 2 ^ 5
  nine_lt i crc so = down_lt 5 poly5 (lit< tt) start5 (lit< tt) (nine_bytes (header_bits hi lo)) i crc so.done

  pub nine_ends : (i crc : ℕ) → NineIn hi lo i crc → i ≤ 0 → crc ≡ crc5_over (header_bits hi lo)
  unfolding crc5_over
  nine_ends i crc so h = down_bytes 5 poly5 start5 (nine_bytes (header_bits hi lo)) i crc so.done h

  -- the same loop by how many of the eight are in
  pub nine_next : (k crc : ℕ) → k < 8 → NineIn hi lo (8 - k) crc
      → (next : ℕ) → next ≡ crc_byte 5 poly5 crc (eight_of hi lo / 2 ^ (8 * k) % 256) → NineIn hi lo (8 - (k + 1)) next
  nine_next k crc h so next e =
      let back : 8 - (8 - k) ≡ k = omega arith in
      let down : 8 - k - 1 ≡ 8 - (k + 1) = omega arith in
      rw down at (nine_goes_on (8 - k) crc so (omega arith) next (rw back e))

  pub nine_done : (k crc : ℕ) → NineIn hi lo (8 - k) crc → 8 ≤ k → crc ≡ crc5_over (header_bits hi lo)
  nine_done k crc so h = nine_ends (8 - k) crc so (omega arith)

-- what counts differs in the lower number only
flown_lower : (hi lo : ℕ) → lo < 2 ^ 40 → hi < 2 ^ 30 → header_bits hi (counted_flown lo) ≡ counted_flown (header_bits hi lo)
flown_lower hi lo small h =
    let first : header_bits hi lo / 2 ^ 38 % 2 ^ 32 ≡ hi * 4 + lo / 2 ^ 38 % 2 ^ 32 = omega arith in
    let last : header_bits hi lo % 2 ^ 34 ≡ lo % 2 ^ 34 = omega arith in
    rw (counted_is lo, counted_is (header_bits hi lo), first, last) (omega arith)

-- THE TWO EDITIONS
lower_lt : (edition : Edition) (lo : ℕ) → lo < 2 ^ 40 → counting_bits edition lo < 2 ^ 40
lower_lt Flown lo small = rw (counted_is lo) (omega arith)
lower_lt Corrected lo small = small

lower_only : (edition : Edition) (hi lo : ℕ) → lo < 2 ^ 40 → hi < 2 ^ 30 → header_bits hi (counting_bits edition lo) ≡ counting_bits edition (header_bits hi lo)
lower_only Flown hi lo small h = flown_lower hi lo small h
lower_only Corrected hi lo small h = refl

pub counts_flown : (edition : Edition) (lo counted : ℕ) → edition ≡ Flown → counted ≡ counted_flown lo → counted ≡ counting_bits edition lo
counts_flown edition lo counted e is = is ∙ ap (λ (x : Edition). counting_bits x lo) (sym e)

module _ (edition : Edition) (lo counted : ℕ) (small : lo < 2 ^ 40) (is : counted ≡ counting_bits edition lo) where
  pub counted_lt : counted < 2 ^ 40
  counted_lt = rw is (lower_lt edition lo small)

  pub counted_in : (hi crc : ℕ) → hi < 2 ^ 30 → crc ≡ crc5_over (header_bits hi counted) → crc ≡ crc5_of edition (header_bits hi lo)
  unfolding crc5_of
  counted_in hi crc h e = e ∙ ap (λ (x : ℕ). crc5_over (header_bits hi x)) is ∙ ap crc5_over (lower_only edition hi lo small h)
