-- The power page's rows by `layout`: the numbers of their table are the rows before two's complement.
-- Assumes nothing.
use mathlib.Core.Path.{◌≡◌, refl, sym, ap, ◌∙◌}
use mathlib.Core.Bool.{Bool, true, ◌&&◌}
use mathlib.Core.Logic.{⊎_elim}
use mathlib.Core.List.{List}
use Prim.Native.Nat.{ℕ, ◌+◌, ◌-◌, ◌*◌, ◌/◌, ◌%◌, ◌^◌, ◌≤◌, ◌<◌}
use native.Mathlib.Omega.{arith}
use lib.Dec.{T, eqb, eqb→eq}
use lib.ListN.{get_or}
use Rattle.base.proofs.Bits.{bit_below, shift_above}
use Rattle.base.proofs.Tests.{lt_or_ge}
use Rattle.layout.specs.Bits.{AreBytes, bit_of, bit_at}
use Rattle.layout.specs.Rows.{row_in, place_of, number_of}
use Rattle.layout.specs.Sound.{every, sound_row, apart, sound_table, Sound}
use Rattle.layout.proofs.Bits.{bit_in_byte}
use Rattle.layout.proofs.Soundness.{and_left, and_right, every_at}
use Rattle.layout.proofs.Values.{number_is}
use Rattle.page.specs.Bytes.{low_first_number, signed16}
use Rattle.page.specs.Rows.{page_bytes, row_at}
use Rattle.scaling.specs.Shown.{row_count}
use Rattle.demands.specs.PowerRows.{power_rows}

-- a sound table for the 34 bytes of a page
pub power_sound : Sound power_rows page_bytes
unfolding power_rows sound_row apart sound_table
power_sound = tt

-- computed once: where each row starts, its width and its order
is_power : ℕ → Bool
is_power r = eqb (row_in power_rows r).start (16 * r) && (eqb (row_in power_rows r).width 16 && (row_in power_rows r).low_first)

all_power : T (every row_count is_power)
unfolding power_rows is_power
all_power = tt

is_true : (b : Bool) → T b → b ≡ true
is_true true h = refl
is_true mathlib.Core.Bool.false h = elim h [ ]

record Power (r : ℕ) : Type 0 where
  start_is : (row_in power_rows r).start ≡ 16 * r
  width_is : (row_in power_rows r).width ≡ 16
  low : (row_in power_rows r).low_first ≡ true

power : (r : ℕ) → r < row_count → Power r
unfolding is_power
power r h =
    let t : T (is_power r) = every_at row_count is_power all_power r h in
    let start = eqb (row_in power_rows r).start (16 * r) in
    let width = eqb (row_in power_rows r).width 16 in
    let low = (row_in power_rows r).low_first in
    record {
      start_is = eqb→eq (row_in power_rows r).start (16 * r) (and_left start (width && low) t);
      width_is = eqb→eq (row_in power_rows r).width 16 (and_left width low (and_right start (width && low) t));
      low = is_true low (and_right width low (and_right start (width && low) t));
    }

module _ (user : List ℕ) (bytes : AreBytes user) (r : ℕ) (h : r < row_count) where
  so : Power r
  so = power r h

  low_byte : ℕ
  low_byte = get_or user (2 * r) 0

  high_byte : ℕ
  high_byte = get_or user (2 * r + 1) 0

  both : low_first_number user (2 * r) 2 ≡ high_byte * 2 ^ 8 + low_byte
  unfolding low_byte high_byte
  both = omega arith

  small : low_byte < 2 ^ 8
  unfolding low_byte
  small = bytes (2 * r)

  -- bit t of the row: the eight highest stand in the second byte, the others in the first
  place : (t : ℕ) → place_of (row_in power_rows r) t ≡ 16 * r + (8 * (16 / 8 - 1 - t / 8) + t % 8)
  unfolding place_of
  place t = rw (so.start_is, so.width_is, so.low)

  high_bit : (t : ℕ) → t < 8 → bit_at user (place_of (row_in power_rows r) t) ≡ bit_of 16 (low_first_number user (2 * r) 2) t
  unfolding high_byte
  high_bit t l =
      let there : 16 * r + (8 * (16 / 8 - 1 - t / 8) + t % 8) ≡ 8 * (2 * r + 1) + t = omega arith in
      let down : 16 - 1 - t ≡ 8 + (7 - t) = omega arith in
      ap (bit_at user) (place t ∙ there) ∙ bit_in_byte user (2 * r + 1) t l
      ∙ sym (ap (λ (v : ℕ). bit_of 16 v t) both ∙ ap (λ (k : ℕ). (high_byte * 2 ^ 8 + low_byte) / 2 ^ k % 2) down ∙ ap (λ (x : ℕ). x % 2) (shift_above high_byte 8 low_byte small (7 - t)))

  low_bit : (t : ℕ) → 8 ≤ t → t < 16 → bit_at user (place_of (row_in power_rows r) t) ≡ bit_of 16 (low_first_number user (2 * r) 2) t
  unfolding low_byte
  low_bit t from l =
      let there : 16 * r + (8 * (16 / 8 - 1 - t / 8) + t % 8) ≡ 8 * (2 * r) + (t - 8) = omega arith in
      let down : 16 - 1 - t ≡ 8 - 1 - (t - 8) = omega arith in
      ap (bit_at user) (place t ∙ there) ∙ bit_in_byte user (2 * r) (t - 8) (omega arith)
      ∙ sym (ap (λ (v : ℕ). bit_of 16 v t) both ∙ ap (λ (k : ℕ). (high_byte * 2 ^ 8 + low_byte) / 2 ^ k % 2) down ∙ bit_below high_byte 8 low_byte small (8 - 1 - (t - 8)) (omega arith))

  own_bit : (t : ℕ) → t < 16 → bit_at user (place_of (row_in power_rows r) t) ≡ bit_of 16 (low_first_number user (2 * r) 2) t
  own_bit t l = ⊎_elim (high_bit t) (λ (from : 8 ≤ t). low_bit t from l) (lt_or_ge t 8)

  -- "its numbers are the rows before two's complement"
  pub power_number : number_of (row_in power_rows r) user ≡ low_first_number user (2 * r) 2
  power_number =
      number_is (row_in power_rows r) user (low_first_number user (2 * r) 2) (rw so.width_is (omega (arith, bytes (2 * r), bytes (2 * r + 1))))
      (λ t l. own_bit t (rw so.width_is at l) ∙ ap (λ (w : ℕ). bit_of w (low_first_number user (2 * r) 2) t) (sym so.width_is))

  pub power_row : row_at user r ≡ signed16 (number_of (row_in power_rows r) user)
  power_row = ap signed16 (sym power_number)
