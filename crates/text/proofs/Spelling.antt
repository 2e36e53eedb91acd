-- The loop of `put_decimal`: the digits go to their places, the last one first.
-- Assumes nothing.
use mathlib.Core.Path.{◌≡◌, refl, sym, ap, ◌∙◌}
use mathlib.Core.List.{List, [], ◌∷◌, ◌++◌}
use Prim.Native.Nat.{ℕ, ◌+◌, ◌-◌, ◌/◌, ◌%◌, ◌<◌, ◌≤◌}
use native.Mathlib.Omega.{arith}
use lib.ListN.{length, set, length-set}
use Rattle.text.specs.Text.{digit, decimal_of, most_digits, laid, Put}
use Rattle.text.proofs.Decimal.{decimal_one, decimal_more, length_more, decimal_some}
use Rattle.text.proofs.Laid.{laid_one, laid_last}

-- the digits of `rest` are still to be put, the last of them at i; with them the text up to `end` is whole
pub record Spelled (before : List ℕ) (at n end : ℕ) (after : List ℕ) (i rest : ℕ) : Type 0 where
  pub bytes : laid after at (decimal_of rest) ≡ laid before at (decimal_of n)
  pub last : i + 1 ≡ at + length (decimal_of rest)
  pub inside : i < end
  pub place : end ≡ at + length (decimal_of n)
  pub fits : end ≤ length before
  pub short : end ≤ at + most_digits
  pub kept : length after ≡ length before

module _ (l : List ℕ) (at n : ℕ) where
  -- nothing is put yet: the last digit of the number goes just before its end
  pub starts : (w i : ℕ) → w ≡ length (decimal_of n) → w ≤ most_digits → i + 1 ≡ at + w → at + most_digits ≤ length l → Spelled l at n (at + w) l i n
  starts w i e short last room =
      record {
        bytes = refl;
        last = omega arith;
        inside = omega arith;
        place = rw e;
        fits = omega arith;
        short = omega arith;
        kept = refl;
      }

  module _ (end : ℕ) (m : List ℕ) (i rest : ℕ) (so : Spelled l at n end m i rest) where
    -- another digit goes before this one
    pub goes_before : 10 ≤ rest → 1 ≤ i
    goes_before h = omega (arith, so.last, length_more rest h, decimal_some (rest / 10))

    -- the last digit of `rest` is put; those of its tenth are left
    pub goes_on : (x : ℕ) → x ≡ digit (rest % 10) → 10 ≤ rest → Spelled l at n end (set m i x) (i - 1) (rest / 10)
    goes_on x e h =
        let others : List ℕ = decimal_of (rest / 10) in
        let there : i ≡ at + length others = omega (arith, so.last, length_more rest h) in
        let lt : at + length others < length m = omega (arith, so.inside, so.fits, so.kept) in
        let whole : laid m at (others ++ (x ∷ [])) ≡ laid l at (decimal_of n) = rw (e, ← decimal_more rest h) so.bytes in
        record {
          bytes = rw there (sym (laid_last m at others x lt) ∙ whole);
          last = omega (arith, decimal_some (rest / 10));
          inside = omega (arith, so.inside);
          place = so.place;
          fits = so.fits;
          short = so.short;
          kept = length-set m i x ∙ so.kept;
        }

    -- `rest` is one digit, which goes to the start of the text
    pub ends : (x : ℕ) → x ≡ digit rest → rest < 10 → Put l at (decimal_of n) (set m i x) end
    ends x e h =
        let there : i ≡ at = omega (arith, so.last, ap length (decimal_one rest h)) in
        let lt : at < length m = omega (arith, so.inside, so.fits, so.kept) in
        record {
          bytes = rw (e, there) (sym (laid_one m at (digit rest) lt) ∙ rw (decimal_one rest h) at so.bytes);
          place = so.place;
          fits = so.fits;
          kept = length-set m i x ∙ so.kept;
        }
