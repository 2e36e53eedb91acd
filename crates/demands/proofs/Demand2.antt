-- DEMAND 2. "A frame is accepted exactly when the published rules accept it. Writing gives the bits those rules fix, and no others."
-- `Accepts` (crates/frame/specs/Accepting.antt) is the rules' own statement; `frame_read` is what the reader's contract cites, and
-- `HeaderWritten` is the writer's contract. "Demands 2 and 3 hold for each edition, reader and writer under the same one."
-- For a header alone see `Headers`.
-- Assumes nothing.
use mathlib.Core.Path.{◌≡◌}
use mathlib.Core.List.{List}
use Prim.Native.Nat.{ℕ, ◌≤◌}
use lib.ListN.{take, replicate}
use Rattle.sign.specs.Calls.{Call, looked_at, Agrees}
use Rattle.header.specs.declared.Header.{Header}
use Rattle.header.specs.declared.Rules.{Rules}
use Rattle.header.specs.declared.Fields.{Fields}
use Rattle.header.specs.Answers.{accepted}
use Rattle.base.specs.Written.{done}
use Rattle.header.specs.Fields.{satellite_of}
use Rattle.header.specs.Writing.{header_for, HeaderWritten}
use Rattle.air.specs.Air.{word_count, air_bits}
use Rattle.air.specs.Flips.{most_flips}
use Rattle.frame.specs.Frames.{Frame, frame_with, frame_read}
use Rattle.frame.specs.Accepting.{Accepts}
use Rattle.frame.proofs.Rules.{reader_then_rules, rules_then_reader}
use Rattle.frame.proofs.Writing.{with_payload}
use Rattle.demands.proofs.Headers.{header_accepted_with_one, header_written_accepted, header_written_only}

-- "accepted exactly when the published rules accept it"
pub accepted_exactly : (f : Frame) (h : Header) (flips : ℕ) (patterns : List ℕ)
    → (frame_read f ≡ record { answer = accepted h flips; patterns = patterns } → Accepts f h flips patterns)
    × (Accepts f h flips patterns → frame_read f ≡ record { answer = accepted h flips; patterns = patterns })
accepted_exactly f h flips patterns = (reader_then_rules f h flips patterns, rules_then_reader f h flips patterns)

-- the rules accept a frame with one header, one number of flips and one list of patterns
pub accepted_with_one : (f : Frame) (h g : Header) (k m : ℕ) (p q : List ℕ) → Accepts f h k p → Accepts f g m q → (h ≡ g) × (k ≡ m) × (p ≡ q)
accepted_with_one f h g k m p q a b = header_accepted_with_one f.head h g k m p q a.head b.head

-- the writer was handed an edition, some fields, a payload and an output, and wrote; the reader is handed rules of the same edition, and
-- perhaps a call sign
module _ (rules : Rules) (f : Fields) (payload before after : List ℕ) (written : HeaderWritten rules.edition f payload before done after) (call : Call) where
  -- "the bits those rules fix": under any limit of at most 42, the rules accept what stands in the output with the fields, PduLength and the
  -- checksums, and no flips; "where they are looked at", the call sign bits are those of the satellite
  pub written_accepted : rules.limit ≤ most_flips → Agrees (looked_at rules.edition call) (satellite_of f.src_id)
      → Accepts (frame_with rules call (take air_bits after) payload) (header_for rules.edition f payload) 0 (replicate word_count 0)
  written_accepted allowed agrees =
      with_payload rules.edition f (frame_with rules call (take air_bits after) payload) 0 (replicate word_count 0) (header_written_accepted rules f payload before after written call allowed agrees)

  -- "and no others": whatever the rules accept so, under any limit, are these bits
  pub written_only : (air : List ℕ) → Accepts (frame_with rules call air payload) (header_for rules.edition f payload) 0 (replicate word_count 0) → air ≡ take air_bits after
  written_only air accepts = header_written_only rules f payload before after written call air accepts.head
