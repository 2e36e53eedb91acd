-- A field that may be written, to and from the table of checks; and what the writer leaves of the frame.
-- Assumes nothing.
use mathlib.Core.Path.{◌≡◌, refl, sym, ap, ◌∙◌}
use mathlib.Core.Bool.{Bool, true, false, ◌||◌}
use mathlib.Core.List.{List, [], ◌∷◌}
use Prim.Native.Nat.{ℕ, ◌^◌, ◌<◌}
use lib.Dec.{leb}
use lib.ListN.{length}
use borrow.Author.Tests.{leb-false, lt-leb}
use Rattle.base.specs.Written.{Written, done, refused}
use Rattle.base.proofs.Exactly.{not_done}
use Rattle.base.proofs.First.{none_split, none_both, first_none, first_passes}
use Rattle.layout.specs.Rows.{row_in, rows_in, put_of}
use Rattle.layout.specs.Sound.{Sound}
use Rattle.layout.specs.declared.Row.{Row}
use Rattle.layout.proofs.Values.{put_length}
use Rattle.crc.proofs.Width.{crc16_lt}
use Rattle.beesat.specs.Tables.{frame_bytes, rows, field_count, error_at}
use Rattle.beesat.specs.Reading.{error_of, is_idle, frame_checks}
use Rattle.beesat.specs.Writing.{no_field, too_large, write_checks, write_field_of, with_row, renewed}
use Rattle.beesat.specs.Inside.{MayPut, width_of}
use Rattle.beesat.proofs.Soundness.{rows_sound, row_there, field_wide, error_wide, error_width}
use Rattle.beesat.proofs.Passed.{Passed, passed, passes}

pub record Writable (frame : List ℕ) (field value : ℕ) : Type 0 where
  pub frame_passed : Passed frame
  pub there : field < field_count
  pub packet : is_idle frame ≡ false
  pub within : value < 2 ^ width_of field

-- neither of two tests
neither_left : (a b : Bool) → (a || b) ≡ false → a ≡ false
neither_left true b e = e
neither_left false b e = refl

neither_right : (a b : Bool) → (a || b) ≡ false → b ≡ false
neither_right true true e = e
neither_right true false e = refl
neither_right false b e = e

module _ (frame : List ℕ) (field value : ℕ) where
  pub writable : done ≡ write_field_of frame field value → Writable frame field value
  unfolding write_field_of
  writable e =
      let none = (first_passes done done (write_checks frame field value) (not_done _, (not_done _, (not_done _, (not_done _, (not_done _, (not_done _, tt)))))) (sym e)).1 in
      let both = none_split (frame_checks refused frame) (no_field frame field ∷ too_large field value ∷ []) none in
      record {
        frame_passed = passed refused frame both.0;
        there = leb-false field_count field (neither_left (leb field_count field) (is_idle frame) both.1.0);
        packet = neither_right (leb field_count field) (is_idle frame) both.1.0;
        within = leb-false (2 ^ width_of field) value both.1.1.0;
      }

  pub writes : Writable frame field value → write_field_of frame field value ≡ done
  unfolding write_field_of
  writes so =
      first_none done (write_checks frame field value)
      (none_both (frame_checks refused frame) (no_field frame field ∷ too_large field value ∷ []) (passes refused frame so.frame_passed)
      (rw (lt-leb field_count field so.there, so.packet) refl, (lt-leb (2 ^ width_of field) value so.within, tt)))

-- the table has every field
pub field_there : (table : List Row) (k : ℕ) → table ≡ rows → k < field_count → k < rows_in table
field_there table k is h = row_there table is 16 k (field_wide k h)

-- what the code asks of its callees, and what they leave
module _ (table : List Row) (copied : table ≡ rows) (frame : List ℕ) (k v : ℕ) (may : MayPut frame k v) where
  pub put_there : k < rows_in table
  put_there = field_there table k copied may.there

  pub put_within : v < 2 ^ (row_in table k).width
  put_within = rw copied may.small

  pub put_sound : Sound table (length frame)
  put_sound = rows_sound table copied frame may.long

  pub error_there : error_at < rows_in table
  error_there = row_there table copied 16 error_at error_wide

  pub error_within : (page : List ℕ) (e : ℕ) → e ≡ error_of page → e < 2 ^ (row_in table error_at).width
  unfolding error_of
  error_within page e worked = rw (copied, error_width, worked) (crc16_lt _)

  module _ (after : List ℕ) (put : after ≡ put_of (row_in table k) v frame) where
    pub put_long : length after ≡ frame_bytes
    put_long = ap length put ∙ put_length (row_in table k) v frame ∙ may.long

    pub still_sound : Sound table (length after)
    still_sound = rows_sound table copied after put_long

    pub put_renewed : (e : ℕ) (last : List ℕ) → e ≡ error_of after → last ≡ put_of (row_in table error_at) e after → last ≡ renewed (with_row k v frame)
    unfolding renewed
    put_renewed e last worked made = made ∙ rw (worked, put, copied)

-- what is allowed is written
module _ (frame : List ℕ) (field value : ℕ) (a : Written) (is : a ≡ write_field_of frame field value) where
  pub may_put : a ≡ done → MayPut frame field value
  may_put done =
      let so = writable frame field value (sym done ∙ is) in
      record { long = so.frame_passed.long; there = so.there; small = so.within }
