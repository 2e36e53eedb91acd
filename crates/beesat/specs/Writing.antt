-- One field of a frame written: refused with 25 to 28, 38 and 29, or the field's bits and the error field.
-- Assumes nothing.
use Rattle.std.specs.Prelude.{◌≡◌, ◌||◌, List, [], ◌∷◌, ◌++◌, ℕ, ◌^◌, leb, Ok, Err}
use Rattle.base.specs.Checks.{Check, check, first, refusal}
use Rattle.base.specs.Written.{Written, done, refused}
use Rattle.layout.specs.Rows.{row_in, put_of}
use Rattle.beesat.specs.Tables.{rows, field_count, error_at}
use Rattle.beesat.specs.Reading.{error_of, is_idle, frame_checks}

-- THE PAPER'S TABLE, rows 38 and 29: "for writing after these"
-- "38 no such field, or an idle frame (place: the field number)"
abbrev pub no_field : List ℕ → ℕ → Check Written
no_field frame field = check (leb field_count field || is_idle frame) (refused (refusal 38 field))

-- "29 value too large (place: the value)"
abbrev pub too_large : ℕ → ℕ → Check Written
too_large field value = check (leb (2 ^ (row_in rows field).width) value) (refused (refusal 29 value))

abbrev pub write_checks : List ℕ → ℕ → ℕ → List (Check Written)
write_checks frame field value = frame_checks refused frame ++ (no_field frame field ∷ too_large field value ∷ [])

unfoldable pub write_field_of : List ℕ → ℕ → ℕ → Written
write_field_of frame field value = first done (write_checks frame field value)

-- a number put into row k
abbrev pub with_row : ℕ → ℕ → List ℕ → List ℕ
with_row k value frame = put_of (row_in rows k) value frame

-- "the error field, worked out afresh"
unfoldable pub renewed : List ℕ → List ℕ
renewed frame = with_row error_at (error_of frame) frame

-- the frame afterwards: "changes only its bits and the error field"; "the frame's bytes are unchanged in all" refusals
abbrev pub after_field : Written → ℕ → ℕ → List ℕ → List ℕ
after_field (Ok u) field value frame = renewed (with_row field value frame)
after_field (Err why) field value frame = frame

-- what a call of the writer leaves: its answer, and every byte of the frame
pub record FieldWritten (field value : ℕ) (before : List ℕ) (answer : Written) (after : List ℕ) : Type 0 where
  pub answered : answer ≡ write_field_of before field value
  pub bytes : after ≡ after_field answer field value before
