-- "A frame is accepted exactly when the published rules accept it." The reader's definition accepts with a header, a
-- number of flips and patterns exactly where the paper's rules do.
-- Assumes nothing.
use mathlib.Core.Path.{◌≡◌, refl, ap, ap₂, ◌∙◌}
use mathlib.Core.List.{List}
use Prim.Native.Nat.{ℕ}
use Rattle.base.specs.declared.Refusal.{Refusal}
use Rattle.base.specs.Checks.{first, Exactly}
use Rattle.base.proofs.Exactly.{exactly}
use Rattle.header.specs.declared.Header.{Header}
use Rattle.header.specs.declared.Read.{Read}
use Rattle.header.specs.Answers.{accepted, refused}
use Rattle.header_reader.specs.Reading.{repaired_answer, patterns_of}
use Rattle.header.specs.Patterns.{beside}
use Rattle.header.proofs.Beside.{beside_answer, beside_parts}
use Rattle.header_reader.proofs.GoesOn.{not_refused}
use Rattle.header_reader.proofs.Accepted.{rules_then_read, rules_then_patterns, read_then_rules}
use Rattle.frame.specs.Frames.{Frame, frame_checks, frame_of, frame_read}
use Rattle.frame.specs.Accepting.{Accepts}
use Rattle.frame.proofs.Payloads.{frame_reads, frame_read_as}

module _ (f : Frame) (h : Header) (k : ℕ) where
  -- what the rules accept, the reader accepts
  pub rules_then_reader : (patterns : List ℕ) → Accepts f h k patterns → frame_read f ≡ record { answer = accepted h k; patterns = patterns }
  unfolding frame_read
  rules_then_reader patterns so =
      ap₂ beside (rules_then_patterns f.head h k patterns so.head)
      (frame_reads f h k (record { header = rules_then_read f.head h k patterns so.head; payload = record { same_length = so.same_length; same_crc13 = so.same_crc13 } }))

  -- what the reader accepts, the rules accept
  pub answer_then_rules : frame_of f ≡ accepted h k → Accepts f h k (patterns_of f.head)
  answer_then_rules e =
      let so = frame_read_as f h k e in
      record { head = read_then_rules f.head h k so.header; same_length = so.payload.same_length; same_crc13 = so.payload.same_crc13 }

  pub reader_then_rules : (patterns : List ℕ) → frame_read f ≡ record { answer = accepted h k; patterns = patterns } → Accepts f h k patterns
  unfolding frame_read
  reader_then_rules patterns e =
      let parts = beside_parts (patterns_of f.head) (frame_of f) h k patterns e in
      rw parts.1 at (answer_then_rules parts.0)

-- for whoever puts rows before the frame's
pub frame_first : (f : Frame) → frame_of f ≡ first (repaired_answer f.head) (frame_checks f)
unfolding frame_of
frame_first f = refl

-- what was read of a frame: its answer, and the patterns beside it
pub frame_read_is : (f : Frame) → frame_read f ≡ beside (patterns_of f.head) (frame_of f)
unfolding frame_read
frame_read_is f = refl

pub frame_answer : (f : Frame) (r : Read) → r ≡ frame_read f → r.answer ≡ frame_of f
frame_answer f r is = ap (λ (x : Read). x.answer) (is ∙ frame_read_is f) ∙ beside_answer (patterns_of f.head) (frame_of f)

-- "given exactly when": each refusal where its own row applies and no row before it does
pub refused_exactly : (f : Frame) (why : Refusal) → Exactly (frame_of f) (refused why) (frame_checks f)
unfolding frame_of
refused_exactly f why = exactly (repaired_answer f.head) (refused why) (frame_checks f) (not_refused f.head why)
