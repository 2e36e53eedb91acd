-- The loop of `put_digits`: so many digits of a number, the last one first.
-- Assumes nothing.
use mathlib.Core.Path.{◌≡◌, refl, sym, ◌∙◌}
use mathlib.Core.List.{List, [], ◌∷◌, ◌++◌}
use Prim.Native.Nat.{ℕ, zero, suc, ◌+◌, ◌-◌, ◌/◌, ◌%◌, ◌<◌, ◌≤◌}
use native.Mathlib.Nat.{le_refl, mod-lt}
use native.Mathlib.Omega.{arith}
use borrow.Author.Tests.{lt-ltb, le-ltb}
use lib.ListN.{length, set, length-append, length-set}
use Rattle.text.specs.Text.{letter_of, fixed_of, laid, Put}
use Rattle.text.proofs.Laid.{laid_last, put_none}

-- there are as many as asked for
pub fixed_length : (base width n : ℕ) → length (fixed_of base width n) ≡ width
unfolding fixed_of
fixed_length base zero n = refl
fixed_length base (suc w) n = rw (length-append, fixed_length base w (n / base)) (omega arith)

-- one more is the last one
pub fixed_more : (base w n : ℕ) → fixed_of base (suc w) n ≡ fixed_of base w (n / base) ++ (letter_of (n % base) ∷ [])
unfolding fixed_of
fixed_more base w n = refl

-- the letter of a digit, below ten and above
pub letter_low : (d : ℕ) → d < 10 → 48 + d ≡ letter_of d
letter_low d h = rw (lt-ltb d 10 h)

pub letter_high : (d : ℕ) → 10 ≤ d → 97 + (d - 10) ≡ letter_of d
letter_high d h = rw (le-ltb d 10 h) (omega arith)

-- a digit of a base up to 16 is one of these
pub digit_small : (base n : ℕ) → (2 ≤ base) × (base ≤ 16) → n % base < 16
digit_small base n (some, few) = let small : n % base < base = mod-lt n (omega arith) in omega arith

-- the last i digits of `rest` are still to be put; with them the text is whole
pub record Filled (before : List ℕ) (at base width n : ℕ) (after : List ℕ) (i rest : ℕ) : Type 0 where
  pub inside : i ≤ width
  pub room : at + width ≤ length before
  pub bytes : laid after at (fixed_of base i rest) ≡ laid before at (fixed_of base width n)
  pub kept : length after ≡ length before

module _ (l : List ℕ) (at base width n : ℕ) where
  -- nothing is put yet
  pub starts : at + width ≤ length l → Filled l at base width n l width n
  starts room = record { inside = le_refl width; room = room; bytes = refl; kept = refl }

  module _ (m : List ℕ) (i rest : ℕ) (so : Filled l at base width n m i rest) where
    -- the last digit of `rest` is put
    pub goes_on : (x : ℕ) → 0 < i → x ≡ letter_of (rest % base) → Filled l at base width n (set m (at + (i - 1)) x) (i - 1) (rest / base)
    goes_on x some is =
        let j : ℕ = i - 1 in
        let more : i ≡ suc j = omega arith in
        let others : List ℕ = fixed_of base j (rest / base) in
        let size : length others ≡ j = fixed_length base j (rest / base) in
        let there : at + j ≡ at + length others = omega arith in
        let lt : at + length others < length m = omega (arith, so.inside, so.room, so.kept) in
        let whole : laid m at (others ++ (x ∷ [])) ≡ laid l at (fixed_of base width n) = rw (is, ← fixed_more base j rest, ← more) so.bytes in
        record {
          inside = omega (arith, so.inside);
          room = so.room;
          bytes = rw there (sym (laid_last m at others x lt) ∙ whole);
          kept = length-set m (at + j) x ∙ so.kept;
        }

    -- all of them are
    pub ends : i ≤ 0 → Put l at (fixed_of base width n) m (at + width)
    unfolding fixed_of
    ends h =
        let done : i ≡ 0 = omega arith in
        let none : laid m at [] ≡ laid l at (fixed_of base width n) = rw done at so.bytes in
        record {
          bytes = (put_none (omega (arith, so.room, so.kept))).bytes ∙ none;
          place = rw (fixed_length base width n);
          fits = so.room;
          kept = so.kept;
        }
