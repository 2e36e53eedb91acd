-- A field of a frame written, and the error field worked out afresh: the frame reads well again, the field reads back and every other reads as before, and the
-- same write again changes no byte.
-- Assumes nothing.
use mathlib.Core.Path.{◌≡◌, refl, sym, ap, ◌∙◌}
use mathlib.Core.Bool.{true, false, cond}
use mathlib.Core.Logic.{⊎_elim}
use mathlib.Core.List.{List}
use Prim.Native.Nat.{ℕ, ◌+◌, ◌≤◌, ◌<◌}
use native.Mathlib.Omega.{arith}
use lib.Dec.{eqb}
use lib.ListN.{length}
use borrow.Author.Tests.{eq-eqb, ne_eqb}
use Rattle.base.specs.Checks.{refusal}
use Rattle.base.specs.Written.{done, refused}
use Rattle.base.proofs.Tests.{same_or_not}
use Rattle.layout.specs.Bits.{bit_at, AreBytes}
use Rattle.layout.specs.Rows.{row_in, HasValues, Outside}
use Rattle.layout.proofs.Values.{put_bytes, put_outside}
use Rattle.beesat.specs.Tables.{frame_bytes, rows, field_count, fixed_from, fixed_values, marker_from, marker_values, error_at}
use Rattle.beesat.specs.Reading.{field_in, apid_field, idle_apid, is_idle, header_in, shown_field, read_of}
use Rattle.beesat.specs.Accepting.{Accepts}
use Rattle.beesat.specs.Writing.{with_row, renewed, write_field_of}
use Rattle.beesat.specs.Inside.{good_read}
use Rattle.beesat.specs.Answers.{idling}
use Rattle.beesat.proofs.Passed.{Passed, passed_good}
use Rattle.beesat.proofs.WriteChecks.{gives_38_idle}
use Rattle.beesat.proofs.Writable.{Writable}
use Rattle.beesat.proofs.Accepted.{passed_accepts, accepts_passed, good_read_lem}
use Rattle.beesat.proofs.Renewed.{with_long, with_back, with_other, with_same, renewed_long, renewed_bytes, renewed_summed, renewed_other, renewed_outside, renewed_same}
use Rattle.beesat.proofs.Fields.{data_count, packet_shows, idle_shows, idle_hides}

-- THE WRITTEN FRAME, of a frame that may be written
module _ (frame : List ℕ) (field value : ℕ) (may : Writable frame field value) where
  abbrev pub next : List ℕ
  next = renewed (with_row field value frame)

  long : length frame ≡ frame_bytes
  long = may.frame_passed.long

  put_long : length (with_row field value frame) ≡ frame_bytes
  put_long = with_long frame long field value (omega (arith, may.there))

  put_are_bytes : AreBytes (with_row field value frame)
  put_are_bytes = put_bytes (row_in rows field) value frame

  pub next_long : length next ≡ frame_bytes
  next_long = renewed_long (with_row field value frame) put_long put_are_bytes

  pub next_bytes : AreBytes next
  next_bytes = renewed_bytes (with_row field value frame) put_long put_are_bytes

  pub next_field : field_in next field ≡ value
  next_field =
      renewed_other (with_row field value frame) put_long put_are_bytes field (omega (arith, may.there))
      ∙ with_back frame long field value (omega (arith, may.there)) may.within

  pub next_other : (k : ℕ) → k < error_at → (k ≡ field → ⊥) → field_in next k ≡ field_in frame k
  next_other k h other =
      renewed_other (with_row field value frame) put_long put_are_bytes k h
      ∙ with_other frame long field value (omega (arith, may.there)) k (omega arith) other

  -- rows that are no fields keep their values
  next_values : (k : ℕ) (vs : List ℕ) → field_count ≤ k → k + length vs ≤ error_at → HasValues rows k vs frame → HasValues rows k vs next
  unfolding field_in
  next_values k vs from to has i h =
      next_other (k + i) (omega arith) (λ (e : k + i ≡ field). omega (arith, may.there)) ∙ has i h

  pub next_accepts : Accepts next
  next_accepts =
      let so = passed_accepts frame may.frame_passed in
      record {
        long = next_long;
        marker_same = next_values marker_from marker_values (omega arith) (omega arith) so.marker_same;
        summed = renewed_summed (with_row field value frame) put_long put_are_bytes;
        printed = next_values fixed_from fixed_values (omega arith) (omega arith) so.printed;
      }

  pub next_passed : Passed next
  next_passed = accepts_passed next next_bytes next_accepts

  -- writing 0x7FF into APID makes it idle, and nothing else does
  pub next_idle : field ≡ apid_field → value ≡ idle_apid → is_idle next ≡ true
  next_idle e is = eq-eqb (field_in next apid_field) idle_apid (sym (ap (field_in next) e) ∙ next_field ∙ is)

  pub next_packet : (field ≡ apid_field → value ≡ idle_apid → ⊥) → is_idle next ≡ false
  next_packet other =
      ⊎_elim
      (λ (e : field ≡ apid_field).
      ne_eqb (field_in next apid_field) idle_apid (λ (q : field_in next apid_field ≡ idle_apid). other e (sym next_field ∙ ap (field_in next) e ∙ q)))
      (λ (n : field ≡ apid_field → ⊥).
      ap (λ (apid : ℕ). eqb apid idle_apid) (next_other apid_field (omega arith) (λ (e : apid_field ≡ field). n (sym e))) ∙ may.packet)
      (same_or_not field apid_field)

  -- a field as it is then
  next_is : (k : ℕ) → k < field_count → field_in next k ≡ cond (eqb k field) value (field_in frame k)
  next_is k h =
      ⊎_elim
      (λ (e : k ≡ field). rw (eq-eqb k field e) (ap (field_in next) e ∙ next_field))
      (λ (n : k ≡ field → ⊥). rw (ne_eqb k field n) (next_other k (omega arith) n))
      (same_or_not k field)

  -- as the reader shows it
  before_shows : (k : ℕ) → k < field_count → shown_field (read_of frame) k ≡ field_in frame k
  before_shows k h = rw (← (good_read_lem frame may.frame_passed)) (packet_shows frame may.packet k h)

  shown_rule : (k : ℕ) → k < field_count → field_in next k ≡ cond (eqb k field) value (shown_field (read_of frame) k)
  shown_rule k h = next_is k h ∙ ap (cond (eqb k field) value) (sym (before_shows k h))

  pub next_shows : (field ≡ apid_field → value ≡ idle_apid → ⊥) → (k : ℕ) → k < field_count → shown_field (read_of next) k ≡ cond (eqb k field) value (shown_field (read_of frame) k)
  next_shows other k h = rw (← (good_read_lem next next_passed)) (packet_shows next (next_packet other) k h) ∙ shown_rule k h

  pub next_shows_idle : field ≡ apid_field → value ≡ idle_apid → (k : ℕ) → data_count ≤ k → k < field_count → shown_field (read_of next) k ≡ cond (eqb k field) value (shown_field (read_of frame) k)
  next_shows_idle e is k from h = rw (← (good_read_lem next next_passed)) (idle_shows next (next_idle e is) k from h) ∙ shown_rule k h

  pub next_hides : field ≡ apid_field → value ≡ idle_apid → (k : ℕ) → k < data_count → shown_field (read_of next) k ≡ 0
  next_hides e is k h = rw (← (good_read_lem next next_passed)) (idle_hides next (next_idle e is) k h)

  pub next_answers_idle : field ≡ apid_field → value ≡ idle_apid → (read_of next).answer ≡ idling (header_in next)
  unfolding good_read
  next_answers_idle e is = rw (← (good_read_lem next next_passed), next_idle e is)

  -- the same write again
  pub next_again : renewed (with_row field value next) ≡ next
  next_again =
      let same : with_row field value next ≡ next = ap (λ (v : ℕ). with_row field v next) (sym next_field) ∙ with_same next next_long next_bytes field (omega (arith, may.there)) in
      ap renewed same ∙ renewed_same next next_long next_bytes next_accepts.summed

  pub next_writable : (field ≡ apid_field → value ≡ idle_apid → ⊥) → Writable next field value
  next_writable other = record { frame_passed = next_passed; there = may.there; packet = next_packet other; within = may.within }

  pub next_refuses : field ≡ apid_field → value ≡ idle_apid → write_field_of next field value ≡ refused (refusal 38 field)
  next_refuses e is =
      sym (gives_38_idle next field value done (sym (passed_good next next_passed)) tt refl may.there true (sym (next_idle e is)) (refused (refusal 38 field)) refl refl)

  -- every bit outside the field and the error field
  pub next_outside : (i : ℕ) → Outside (row_in rows field) i → Outside (row_in rows error_at) i → bit_at next i ≡ bit_at frame i
  next_outside i out error-out =
      renewed_outside (with_row field value frame) put_long put_are_bytes i error-out ∙ put_outside (row_in rows field) value frame i out

-- the value that is there
pub same_value : (frame : List ℕ) (field : ℕ) → AreBytes frame → Writable frame field (field_in frame field) → renewed (with_row field (field_in frame field) frame) ≡ frame
same_value frame field bytes may =
    let long = may.frame_passed.long in
    ap renewed (with_same frame long bytes field (omega (arith, may.there))) ∙ renewed_same frame long bytes (sym may.frame_passed.summed)
