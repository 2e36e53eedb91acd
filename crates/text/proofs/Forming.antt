-- The loop of `put_form`: what the letters before i say is put, with the first k numbers.
-- Assumes nothing.
use mathlib.Core.Path.{◌≡◌, refl, sym, ◌∙◌}
use mathlib.Core.List.{List, [], ◌∷◌, ◌++◌, append_assoc, append-nil}
use Prim.Native.Nat.{ℕ, ◌+◌, ◌%◌, ◌<◌, ◌≤◌, zero-le}
use native.Mathlib.Nat.{add-zero}
use native.Mathlib.Numerals.{add-one}
use native.Mathlib.Omega.{arith}
use lib.ListN.{length, drop, get_or, set, drop_of_length-le, length-set}
use lib.Seq.{drop-cons, drop-drop, get_or-drop}
use borrow.Author.Tests.{eq-eqb, ne_eqb}
use Rattle.text.specs.Text.{decimal_of, most_digits, Put}
use Rattle.text.specs.Forms.{number_hole, letter_hole, piece_hole, part_of, taken_by, room_for, form_of, taken_in, room_of}
use Rattle.text.proofs.Laid.{put_none, put_then, laid_one}

-- one byte
put_one : (m : List ℕ) (to x : ℕ) → to < length m → Put m to (x ∷ []) (set m to x) (to + 1)
put_one m to x h = record { bytes = sym (laid_one m to x h); place = refl; fits = omega arith; kept = length-set m to x }

pub record Forming (before : List ℕ) (at : ℕ) (form numbers piece out : List ℕ) (to i k : ℕ) : Type 0 where
  pub inside : i ≤ length form
  pub few : k + taken_in (drop i form) ≤ length numbers
  pub room : at + room_of form piece ≤ length before
  pub short : to + room_of (drop i form) piece ≤ at + room_of form piece
  pub text : List ℕ
  pub put : Put before at text out to
  pub left : form_of form numbers piece ≡ text ++ form_of (drop i form) (drop k numbers) piece

module _ (before : List ℕ) (at : ℕ) (form numbers piece : List ℕ) where
  -- nothing is put yet
  pub starts : taken_in form ≤ length numbers → at + room_of form piece ≤ length before → Forming before at form numbers piece before at 0 0
  starts few room = record { inside = zero-le; few = omega arith; room = room; short = omega arith; text = []; put = put_none (omega arith); left = refl }

  module _ (out : List ℕ) (to i k : ℕ) (so : Forming before at form numbers piece out to i k) (h : i < length form) where
    -- the next letter
    abbrev x : ℕ
    x = get_or form i 0

    next_form : drop i form ≡ x ∷ drop (i + 1) form
    next_form = rw (add-one i) (drop-cons form i 0 h)

    few_left : k + (taken_by x + taken_in (drop (i + 1) form)) ≤ length numbers
    few_left = rw next_form at so.few

    room_left : to + (room_for x piece + room_of (drop (i + 1) form) piece) ≤ at + room_of form piece
    room_left = rw next_form at so.short

    -- the next letter's part is put
    goes_on : (part : List ℕ) (after : List ℕ) (next later : ℕ) → later ≡ k + taken_by x → part ≡ part_of x (drop k numbers) piece → Put out to part after next
        → next ≤ to + room_for x piece → Forming before at form numbers piece after next (i + 1) later
    unfolding form_of
    goes_on part after next later taken same one fits =
        record {
          inside = omega arith;
          few = omega (arith, few_left);
          room = so.room;
          short = omega (arith, room_left);
          text = so.text ++ part;
          put = put_then so.put one;
          left = so.left ∙ rw (next_form, drop-drop (taken_by x) k numbers, taken, same, append_assoc);
        }

    -- a number goes into its hole
    module _ (here : x ≡ number_hole) where
      pub has_number : k < length numbers
      has_number = omega (arith, rw (eq-eqb x number_hole here) at few_left)

      pub number_fits : to + most_digits ≤ length out
      number_fits = omega (arith, rw (eq-eqb x number_hole here) at room_left, so.room, so.put.kept)

      pub puts_number : (n : ℕ) → n ≡ get_or numbers k 0 → (after : List ℕ) (next : ℕ) → Put out to (decimal_of n) after next → next ≤ to + most_digits
          → Forming before at form numbers piece after next (i + 1) (k + 1)
      puts_number n same after next one fits =
          goes_on (decimal_of n) after next (k + 1) (rw (eq-eqb x number_hole here)) (rw (eq-eqb x number_hole here, get_or-drop k numbers 0 0, add-zero, same)) one
          (rw (eq-eqb x number_hole here) fits)

    module _ (no_number : x ≡ number_hole → ⊥) where
      -- a letter into its own
      module _ (here : x ≡ letter_hole) where
        pub has_letter : k < length numbers
        has_letter = omega (arith, rw (ne_eqb x number_hole no_number, eq-eqb x letter_hole here) at few_left)

        pub letter_fits : to < length out
        letter_fits = omega (arith, rw here at room_left, so.room, so.put.kept)

        pub puts_letter : (n : ℕ) → n ≡ get_or numbers k 0 → Forming before at form numbers piece (set out to (n % 256)) (to + 1) (i + 1) (k + 1)
        puts_letter n same =
            goes_on (n % 256 ∷ []) (set out to (n % 256)) (to + 1) (k + 1) (rw here) (rw (here, get_or-drop k numbers 0 0, add-zero, same)) (put_one out to (n % 256) letter_fits)
            (rw here (omega arith))

      module _ (no-letter : x ≡ letter_hole → ⊥) where
        -- the piece into its own
        module _ (here : x ≡ piece_hole) where
          pub piece_fits : to + length piece ≤ length out
          piece_fits = omega (arith, rw here at room_left, so.room, so.put.kept)

          pub puts_piece : (after : List ℕ) (next : ℕ) → Put out to piece after next → Forming before at form numbers piece after next (i + 1) k
          puts_piece after next one = goes_on piece after next k (rw here (omega arith)) (rw here) one (rw here (omega (arith, one.place)))

        -- any other letter stands for itself
        module _ (plain : x ≡ piece_hole → ⊥) where
          pub plain_fits : to < length out
          plain_fits = omega (arith, rw (ne_eqb x number_hole no_number, ne_eqb x piece_hole plain) at room_left, so.room, so.put.kept)

          pub puts_plain : Forming before at form numbers piece (set out to x) (to + 1) (i + 1) k
          puts_plain =
              goes_on (x ∷ []) (set out to x) (to + 1) k (rw (ne_eqb x number_hole no_number, ne_eqb x letter_hole no-letter) (omega arith))
              (rw (ne_eqb x number_hole no_number, ne_eqb x letter_hole no-letter, ne_eqb x piece_hole plain)) (put_one out to x plain_fits)
              (rw (ne_eqb x number_hole no_number, ne_eqb x piece_hole plain) (omega arith))

  module _ (out : List ℕ) (to i k : ℕ) (so : Forming before at form numbers piece out to i k) (h : length form ≤ i) where
    none_left : drop i form ≡ []
    none_left = drop_of_length-le form {i = i} h

    -- all of it is put
    pub ends : Put before at (form_of form numbers piece) out to
    unfolding form_of
    ends = rw (so.left, none_left, append-nil) so.put

    pub ends_short : to ≤ at + room_of form piece
    ends_short = omega (arith, rw none_left at so.short)
