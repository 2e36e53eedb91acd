-- The record writer's answer: 13 by its own room, and else what the header's writer answers.
-- Assumes nothing.
use mathlib.Core.Path.{◌≡◌, refl, sym, ap, ◌∙◌}
use mathlib.Core.List.{List, [], ◌∷◌, ◌++◌, append-nil}
use Prim.Native.Nat.{ℕ, ◌≤◌, ◌<◌}
use native.Mathlib.Omega.{arith}
use lib.ListN.{length, drop, drop_of_length-le}
use borrow.Author.Tests.{lt-ltb, le-ltb}
use Rattle.base.specs.declared.Edition.{Edition}
use Rattle.base.specs.declared.Refusal.{Refusal}
use Rattle.base.specs.Written.{Written, done, refused}
use Rattle.base.specs.Checks.{first, refusal, Exactly}
use Rattle.base.proofs.Exactly.{exactly, done_apart}
use Rattle.air.specs.Air.{air_bits, payload_limit}
use Rattle.header.specs.declared.Fields.{Fields}
use Rattle.header.specs.Fields.{values_of}
use Rattle.header.specs.Writing.{first_over, out_of_range, long_payload, write_header_of, air_for, HeaderWritten}
use Rattle.header.proofs.Refusing.{past_13}
use Rattle.header.proofs.WrittenAir.{sent}
use Rattle.record.specs.Records.{record_size}
use Rattle.record_writer.specs.Writing.{record_from, room_for, record_checks, write_record_of, RecordWritten}

-- the room asked for
pub room_long : (n : ℕ) → payload_limit < n → record_size payload_limit ≡ room_for n
room_long n h = rw (lt-ltb payload_limit n h)

pub room_whole : (n : ℕ) → n ≤ payload_limit → record_size n ≡ room_for n
room_whole n h = rw (le-ltb payload_limit n h)

module _ (edition : Edition) (f : Fields) (payload out : List ℕ) (asked : ℕ) (is : asked ≡ room_for (length payload)) where
  pub gives_13 : (why : Refusal) → why ≡ refusal 13 (length out) → length out < asked → RecordWritten edition f payload out (refused why) out
  unfolding write_record_of
  gives_13 why told h = record { answered = ap refused told ∙ rw (lt-ltb (length out) (room_for (length payload)) (rw is at h)); bytes = refl }

  module _ (room : asked ≤ length out) where
    past_room : first done (out_of_range edition f ∷ long_payload payload ∷ []) ≡ write_record_of edition f payload (length out)
    unfolding write_record_of
    past_room = rw (le-ltb (length out) (room_for (length payload)) (rw is at room))

    -- the header was written into, or refused of, a room of its own, which is all that it asks for
    module _ (own air : List ℕ) (size : length own ≡ air_bits) where
      same_answer : write_header_of edition f payload (length own) ≡ write_record_of edition f payload (length out)
      same_answer = sym (past_13 edition f payload own (omega arith) (first_over edition (values_of f)) refl) ∙ past_room

      -- by what the header's writer answered
      module _ (answer : Written) (so : HeaderWritten edition f payload own answer air) where
        pub refuses : (why : Refusal) → answer ≡ refused why → RecordWritten edition f payload out (refused why) out
        refuses why e = record { answered = sym e ∙ so.answered ∙ same_answer; bytes = refl }

        module _ (e : answer ≡ done) where
          taken : HeaderWritten edition f payload own done air
          taken = rw e at so

          air_only : air ≡ air_for edition f payload
          air_only = taken.bytes ∙ rw (drop_of_length-le own {i = air_bits} (omega arith)) (append-nil (air_for edition f payload))

          pub writes : (after : List ℕ) → after ≡ record_from air payload ++ drop (record_size (length payload)) out → RecordWritten edition f payload out done after
          writes after put = record { answered = taken.answered ∙ same_answer; bytes = put ∙ ap (λ (l : List ℕ). record_from l payload ++ drop (record_size (length payload)) out) air_only }

-- what is asked where the record is put: the header's writer took the payload, and so the room is that of the whole record
pub payload_fits : (edition : Edition) (f : Fields) (payload own air : List ℕ) (answer : Written) → HeaderWritten edition f payload own answer air → answer ≡ done
    → length payload ≤ payload_limit
payload_fits edition f payload own air answer so e = (sent edition f payload own air (rw e at so)).writable.short

pub record_fits : (n room asked : ℕ) → asked ≡ room_for n → asked ≤ room → n ≤ payload_limit → record_size n ≤ room
record_fits n room asked is enough fits = rw (is, ← room_whole n fits) at enough

-- "given exactly when": 13 to 15
pub record_exactly : (edition : Edition) (f : Fields) (payload : List ℕ) (room : ℕ) (why : Refusal)
    → Exactly (write_record_of edition f payload room) (refused why) (record_checks edition f payload room)
unfolding write_record_of
record_exactly edition f payload room why = exactly done (refused why) (record_checks edition f payload room) (done_apart why)
