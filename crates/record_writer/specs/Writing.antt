-- A record written: refused with 13 to 15, or its length, the air bits of its header and its payload.
-- Assumes nothing.
use Rattle.std.specs.Prelude.{◌≡◌, cond, List, [], ◌∷◌, ◌++◌, ℕ, ltb, length, drop, Ok, Err}
use Rattle.base.specs.declared.Edition.{Edition}
use Rattle.base.specs.Written.{Written, done, refused}
use Rattle.base.specs.Checks.{Check, check, first, refusal}
use Rattle.air.specs.Air.{payload_limit}
use Rattle.header.specs.declared.Fields.{Fields}
use Rattle.header.specs.Writing.{out_of_range, long_payload, air_for}
use Rattle.record.specs.Records.{length_of, record_size}

-- "a two-byte length, high byte first, 210 header bytes, that many payload bytes"
unfoldable pub record_from : List ℕ → List ℕ → List ℕ
record_from air payload = length_of (length payload) ++ air ++ payload

-- the record of a payload under its header
abbrev pub record_for : Edition → Fields → List ℕ → List ℕ
record_for edition f payload = record_from (air_for edition f payload) payload

-- the room that a record with n payload bytes asks for: as many as it has, and those over 1,023, which are never written, ask for none
abbrev pub room_for : ℕ → ℕ
room_for n = cond (ltb payload_limit n) (record_size payload_limit) (record_size n)

-- rows 13 to 15 of the header's writer, where 13 is of the record's room: the output's length
abbrev pub short_record : List ℕ → ℕ → Check Written
short_record payload room = check (ltb room (room_for (length payload))) (refused (refusal 13 room))

abbrev pub record_checks : Edition → Fields → List ℕ → ℕ → List (Check Written)
record_checks edition f payload room = short_record payload room ∷ out_of_range edition f ∷ long_payload payload ∷ []

unfoldable pub write_record_of : Edition → Fields → List ℕ → ℕ → Written
write_record_of edition f payload room = first done (record_checks edition f payload room)

-- the output afterwards: bytes past the record keep what they held, and on a refusal all do
abbrev pub after_record : Written → Edition → Fields → List ℕ → List ℕ → List ℕ
after_record (Ok u) edition f payload out = record_for edition f payload ++ drop (record_size (length payload)) out
after_record (Err why) edition f payload out = out

-- what a call of the writer leaves: its answer, and every byte of the output
pub record RecordWritten (edition : Edition) (f : Fields) (payload before : List ℕ) (answer : Written) (after : List ℕ) : Type 0 where
  pub answered : answer ≡ write_record_of edition f payload (length before)
  pub bytes : after ≡ after_record answer edition f payload before
