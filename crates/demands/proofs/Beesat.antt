-- BEESAT-1, over the contracts of `beesat::read_frame` (`read_of`) and `beesat::write_field` (`FieldWritten`): what is accepted, and what a written field leaves.
-- `Accepts` and `ReadsAs` (crates/beesat/specs/Accepting.antt) are the rules of document 000.
-- Assumes nothing.
use Rattle.std.specs.Prelude.{Ok, Err}
use mathlib.Core.Path.{◌≡◌, refl, sym, ap, ◌∙◌}
use mathlib.Core.Bool.{cond}
use mathlib.Core.List.{List}
use Prim.Native.Nat.{ℕ, ◌≤◌, ◌<◌}
use native.Mathlib.Omega.{arith}
use lib.Dec.{eqb}
use Rattle.base.specs.Checks.{Exactly, refusal}
use Rattle.base.specs.declared.Refusal.{Refusal}
use Rattle.base.specs.Written.{Written, done, refused}
use Rattle.base.proofs.Exactly.{exactly, done_apart}
use Rattle.layout.specs.Bits.{bit_at, AreBytes}
use Rattle.layout.specs.Rows.{row_in, Outside}
use Rattle.beesat.specs.Tables.{rows, field_count, error_at}
use Rattle.beesat.specs.Reading.{field_in, apid_field, idle_apid, header_in, frame_checks, shown_field, read_of}
use Rattle.beesat.specs.Accepting.{Accepts, ReadsAs}
use Rattle.beesat.specs.Writing.{write_checks, write_field_of, after_field, FieldWritten}
use Rattle.beesat.specs.declared.Read.{Read}
use Rattle.beesat.specs.Answers.{idling, not_read}
use Rattle.beesat.proofs.Accepted.{reads_exactly, refused_exactly, answer_beside}
use Rattle.beesat.proofs.Fields.{data_count}
use Rattle.beesat.proofs.Writable.{Writable, writable, writes}
use Rattle.beesat.proofs.Rewritten as rewritten

-- "Accepted exactly when the rules of 000 say so": the answer is that of the rules
pub beesat_accepted_exactly : (frame : List ℕ) (r : Read) → AreBytes frame → ((why : Refusal) → r.answer ≡ not_read why → ⊥)
    → (read_of frame ≡ r → ReadsAs frame r) × (ReadsAs frame r → read_of frame ≡ r)
beesat_accepted_exactly = reads_exactly

-- "Refusals, in order": given exactly when the paper's table says so, in reading and in writing
pub beesat_refused_exactly : (frame : List ℕ) (why : Refusal) → Exactly (read_of frame).answer (not_read why) (frame_checks not_read frame)
beesat_refused_exactly frame why = rw (answer_beside frame) (refused_exactly frame why)

pub field_refused_exactly : (frame : List ℕ) (field value : ℕ) (why : Refusal) → Exactly (write_field_of frame field value) (refused why) (write_checks frame field value)
unfolding write_field_of
field_refused_exactly frame field value why = exactly done (refused why) (write_checks frame field value) (done_apart why)

-- A CALL OF THE WRITER
module _ (field value : ℕ) (before : List ℕ) (answer : Written) (after : List ℕ) (written : FieldWritten field value before answer after) where
  -- "the frame's bytes are unchanged in all" refusals
  pub refused_unchanged : (why : Refusal) → answer ≡ refused why → after ≡ before
  refused_unchanged why refused = written.bytes ∙ ap (λ (a : Written). after_field a field value before) refused

  module _ (is_done : answer ≡ done) where
    may : Writable before field value
    may = writable before field value (sym is_done ∙ written.answered)

    is_next : after ≡ rewritten.next before field value may
    is_next = written.bytes ∙ ap (λ (a : Written). after_field a field value before) is_done

    -- "every bit outside the field and the error field is unchanged"
    pub outside_unchanged : (i : ℕ) → Outside (row_in rows field) i → Outside (row_in rows error_at) i → bit_at after i ≡ bit_at before i
    outside_unchanged i out error-out = rw is_next (rewritten.next_outside before field value may i out error-out)

    -- "the frame reads well again"
    pub accepted_again : Accepts after
    accepted_again = rw is_next (rewritten.next_accepts before field value may)

    -- "the field reads back and every other field reads as before, except after APID 0x7FF"
    pub reads_as_before : (field ≡ apid_field → value ≡ idle_apid → ⊥) → (k : ℕ) → k < field_count
        → shown_field (read_of after) k ≡ cond (eqb k field) value (shown_field (read_of before) k)
    reads_as_before other k h = rw is_next (rewritten.next_shows before field value may other k h)

    -- "then the frame is idle, its header fields read so, values and states read 0, and their bits stand"
    module _ (apid : field ≡ apid_field) (idle : value ≡ idle_apid) where
      pub made_idle : (read_of after).answer ≡ idling (header_in after)
      made_idle = rw is_next (rewritten.next_answers_idle before field value may apid idle)

      pub header_reads_so : (k : ℕ) → data_count ≤ k → k < field_count → shown_field (read_of after) k ≡ cond (eqb k field) value (shown_field (read_of before) k)
      header_reads_so k from h = rw is_next (rewritten.next_shows_idle before field value may apid idle k from h)

      pub data_reads_zero : (k : ℕ) → k < data_count → shown_field (read_of after) k ≡ 0
      data_reads_zero k h = rw is_next (rewritten.next_hides before field value may apid idle k h)

      pub data_stands : (k : ℕ) → k < data_count → field_in after k ≡ field_in before k
      data_stands k h = rw is_next (rewritten.next_other before field value may k (omega arith) (λ (e : k ≡ field). omega arith))

    -- "the same write again changes no byte (38 after APID 0x7FF)"
    module _ (answer' : Written) (after' : List ℕ) (again : FieldWritten field value after answer' after') where
      pub again_done : (field ≡ apid_field → value ≡ idle_apid → ⊥) → answer' ≡ done
      again_done other = again.answered ∙ rw is_next (writes _ field value (rewritten.next_writable before field value may other))

      pub again_38 : field ≡ apid_field → value ≡ idle_apid → answer' ≡ refused (refusal 38 field)
      again_38 apid idle = again.answered ∙ rw is_next (rewritten.next_refuses before field value may apid idle)

      pub again_unchanged : after' ≡ after
      again_unchanged = again.bytes ∙ by answer'
        where
          by : (a : Written) → after_field a field value after ≡ after
          by (Ok u) = rw is_next (rewritten.next_again before field value may)
          by (Err why) = refl

-- "writing the value that is there changes nothing at all"
pub same_value_unchanged : (field : ℕ) (before : List ℕ) (answer : Written) (after : List ℕ) → AreBytes before → FieldWritten field (field_in before field) before answer after → after ≡ before
same_value_unchanged field before answer after bytes written = written.bytes ∙ by answer written.answered
  where
    by : (a : Written) → a ≡ write_field_of before field (field_in before field) → after_field a field (field_in before field) before ≡ before
    by (Ok u) e = rewritten.same_value before field bytes (writable before field (field_in before field) e)
    by (Err why) e = refl
