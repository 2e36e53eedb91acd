-- WHAT IS WRITTEN IS READ: a record that `record_writer::write_record` wrote, cut as a record and read as a frame under the same edition, is accepted
-- with these fields and no flips.
-- Assumes nothing.
use mathlib.Core.Path.{◌≡◌, ap₂, ◌∙◌}
use mathlib.Core.List.{List}
use Prim.Native.Nat.{ℕ, ◌<◌, ◌≤◌}
use lib.ListN.{length, replicate}
use Rattle.base.specs.declared.Edition.{Edition}
use Rattle.base.specs.Written.{done}
use Rattle.air.specs.Air.{word_count, payload_limit}
use Rattle.air.specs.Flips.{most_flips}
use Rattle.sign.specs.Calls.{Call, looked_at, Agrees}
use Rattle.header.specs.declared.Fields.{Fields}
use Rattle.header.specs.declared.Rules.{Rules}
use Rattle.header.specs.Answers.{accepted}
use Rattle.header.specs.Fields.{satellite_of}
use Rattle.header.specs.Writing.{header_for}
use Rattle.header_reader.proofs.Writing.{written_accepted}
use Rattle.frame.specs.Frames.{frame_with, frame_read}
use Rattle.frame.proofs.Rules.{rules_then_reader}
use Rattle.frame.proofs.Writing.{with_payload}
use Rattle.record.specs.declared.Cut.TheVariants.{Record}
use Rattle.record.specs.Records.{air_in, payload_in, cut_of}
use Rattle.record_writer.specs.Writing.{write_record_of, RecordWritten}
use Rattle.record_writer.specs.LongPayload.{whole_answer}
use Rattle.record_writer.proofs.ReadBack.{Recorded, recorded}
use Rattle.record_writer.proofs.LongPayload.{long_refused}

-- the writer was handed an edition, some fields, a payload and an output, and wrote; the reader is handed rules of the same edition with a limit of at
-- most 42, and no call sign that is looked at, or that of the satellite
module _ (rules : Rules) (allowed : rules.limit ≤ most_flips) (f : Fields) (payload before after : List ℕ) (written : RecordWritten rules.edition f payload before done after)
    (call : Call) (agrees : Agrees (looked_at rules.edition call) (satellite_of f.src_id)) where
  so : Recorded rules.edition f payload after
  so = recorded rules.edition f payload before after written

  -- a whole record stands at the front, with as many payload bytes as were handed in
  pub recorded_cut : cut_of after ≡ Record (length payload)
  recorded_cut = so.cut

  -- and it reads as a frame with these fields and no flips
  pub recorded_read : frame_read (frame_with rules call (air_in after) (payload_in (length payload) after))
      ≡ record { answer = accepted (header_for rules.edition f payload) 0; patterns = replicate word_count 0 }
  recorded_read =
      ap₂ (λ (air bytes : List ℕ). frame_read (frame_with rules call air bytes)) so.air so.payload_there
      ∙ rules_then_reader (frame_with rules call _ payload) (header_for rules.edition f payload) 0 (replicate word_count 0)
      (with_payload rules.edition f (frame_with rules call _ payload) 0 (replicate word_count 0) (written_accepted rules f payload call so.writable allowed agrees))

-- A payload that is too long to be held is refused as its part is, but for the length that 15 tells
pub part_refused : (edition : Edition) (f : Fields) (part payload : List ℕ) (room : ℕ) → payload_limit < length part → payload_limit < length payload
    → write_record_of edition f payload room ≡ whole_answer (length payload) (write_record_of edition f part room)
part_refused = long_refused
