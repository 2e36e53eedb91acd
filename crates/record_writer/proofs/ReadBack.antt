-- A record that was written, cut again: its length, its air bits and its payload stand where a reader of records looks for them.
-- Assumes nothing.
use mathlib.Core.Path.{◌≡◌, refl, sym, ap, ◌∙◌}
use mathlib.Core.List.{List, ◌++◌, append_assoc}
use Prim.Native.Nat.{ℕ, ◌≤◌}
use native.Mathlib.Omega.{arith}
use lib.ListN.{length, take, drop, length-append}
use lib.Seq.{take_at, drop_at}
use borrow.Author.Rules.{rules}
use borrow.Author.Tests.{ltb-false}
use Rattle.base.specs.declared.Edition.{Edition}
use Rattle.base.specs.Written.{Written, done}
use Rattle.base.proofs.First.{first_passes}
use Rattle.base.proofs.Exactly.{not_done}
use Rattle.air.specs.Air.{air_bits, payload_limit}
use Rattle.header.specs.declared.Fields.{Fields}
use Rattle.header.specs.Fields.{field_count, values_of}
use Rattle.header.specs.Writing.{first_over, air_for}
use Rattle.header.proofs.WrittenAir.{Writable, air_for_length}
use Rattle.text.proofs.Sizes.{part_size}
use Rattle.record.specs.declared.Cut.TheVariants.{Record}
use Rattle.record.specs.Records.{length_in, air_in, payload_in, record_size, cut_of}
use Rattle.record.proofs.Cuts.{is_whole}
use Rattle.record_writer.specs.Writing.{record_from, record_for, record_checks, write_record_of, after_record, RecordWritten}
use Rattle.record_writer.proofs.Putting.{record_length}

module _ (air payload rest : List ℕ) (long : length air ≡ air_bits) where
  length_back : length payload ≡ length_in (record_from air payload ++ rest)
  unfolding record_from
  length_back = omega arith

  pub air_back : air_in (record_from air payload ++ rest) ≡ air
  unfolding record_from
  air_back = rw (append_assoc air payload rest) (take_at air (payload ++ rest) air_bits long)

  pub payload_back : payload_in (length payload) (record_from air payload ++ rest) ≡ payload
  unfolding record_from
  payload_back = rw (append_assoc air payload rest, drop_at air (payload ++ rest) air_bits long) (take_at payload rest (length payload) refl)

  pub cut_back : length payload ≤ payload_limit → cut_of (record_from air payload ++ rest) ≡ Record (length payload)
  cut_back short =
      let l : List ℕ = record_from air payload ++ rest in
      let whole : record_size (length payload) ≤ length l = omega (arith, length-append (record_from air payload) rest, record_length air payload long) in
      sym (is_whole l (omega arith) (length payload) length_back short whole)

-- a record that was written: nothing stood against it, and a reader of records finds it at the front
pub record Recorded (edition : Edition) (f : Fields) (payload after : List ℕ) : Type 0 where
  pub writable : Writable edition f payload
  pub cut : cut_of after ≡ Record (length payload)
  pub air : air_in after ≡ air_for edition f payload
  pub payload_there : payload_in (length payload) after ≡ payload

module _ (edition : Edition) (f : Fields) (payload before : List ℕ) where
  taken : done ≡ write_record_of edition f payload (length before) → Writable edition f payload
  unfolding write_record_of
  taken e =
      let none = (first_passes done done (record_checks edition f payload (length before)) (search (rules, not_done)) (sym e)).1 in
      record {
        ranges = ltb-false (first_over edition (values_of f)) field_count none.1.0;
        short = ltb-false payload_limit (length payload) none.1.1.0;
      }

  -- where it was written, all of it is there
  module _ (answer : Written) (after : List ℕ) (so : RecordWritten edition f payload before answer after) (is_done : answer ≡ done) where
    front : after ≡ record_for edition f payload ++ drop (record_size (length payload)) before
    front = so.bytes ∙ ap (λ (w : Written). after_record w edition f payload before) is_done

    pub written_fits : record_size (length payload) ≤ length after
    written_fits =
        rw front
        (omega (arith, length-append (record_for edition f payload) (drop (record_size (length payload)) before), record_length (air_for edition f payload) payload (air_for_length edition f payload)))

    pub written_size : record_size (length payload) ≡ length (take (record_size (length payload)) after)
    written_size = part_size after (record_size (length payload)) written_fits

  pub recorded : (after : List ℕ) → RecordWritten edition f payload before done after → Recorded edition f payload after
  recorded after so =
      let air : List ℕ = air_for edition f payload in
      let rest : List ℕ = drop (record_size (length payload)) before in
      let long : length air ≡ air_bits = air_for_length edition f payload in
      let ok = taken so.answered in
      record {
        writable = ok;
        cut = ap cut_of so.bytes ∙ cut_back air payload rest long ok.short;
        air = ap air_in so.bytes ∙ air_back air payload rest long;
        payload_there = ap (payload_in (length payload)) so.bytes ∙ payload_back air payload rest long;
      }
