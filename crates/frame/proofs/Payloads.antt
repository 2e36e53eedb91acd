-- Rows 7 and 8 of the paper's table, and the frame's answer from the header's.
-- Assumes nothing.
use mathlib.Core.Path.{◌≡◌, refl, sym, ap, ap₂, ◌∙◌}
use mathlib.Core.List.{List, [], ◌∷◌}
use Prim.Native.Nat.{ℕ}
use lib.ListN.{length}
use borrow.Author.Rules.{rules}
use borrow.Author.Tests.{eq-eqb, ne_eqb}
use Rattle.std.specs.Prelude.{Ok}
use Rattle.base.specs.declared.Refusal.{Refusal}
use Rattle.base.specs.Checks.{first, refusal}
use Rattle.base.proofs.First.{never_both, NoneApplies, none_split, first_passes}
use Rattle.base.proofs.Tests.{not_differs}
use Rattle.crc.specs.Crc.{crc13_of}
use Rattle.sign.specs.Calls.{Call}
use Rattle.header.specs.declared.Header.{Header}
use Rattle.header.specs.declared.Read.{Read}
use Rattle.header.specs.declared.Accepted.{Accepted}
use Rattle.header.specs.declared.Rules.{Rules}
use Rattle.header.specs.Answers.{Answer, accepted, refused}
use Rattle.air.specs.WordRepairs.{flips_in}
use Rattle.header_reader.specs.Reading.{arrived, signal_with, signal_checks, repaired_answer, read_header_of, patterns_of, header_read}
use Rattle.header.specs.Patterns.{beside}
use Rattle.header.proofs.Answers.{same_header}
use Rattle.header_reader.proofs.Beside.{read_answer, read_patterns}
use Rattle.header_reader.proofs.GoesOn.{no_row, never_accepted, ReadAs, read_as, header_refused, header_leaves}
use Rattle.frame.specs.Frames.{Frame, frame_with, repaired_header, crc13_differs, payload_checks, frame_checks, frame_of, frame_read}

module _ (h : Header) (flips : ℕ) (payload : List ℕ) where
  abbrev judged : Answer
  judged = first (accepted h flips) (payload_checks h payload)

  pub gives_7 : (length payload ≡ h.pdu_length → ⊥) → refused (refusal 7 h.pdu_length) ≡ judged
  gives_7 differs = rw (ne_eqb (length payload) h.pdu_length differs)

  module _ (same : length payload ≡ h.pdu_length) (crc : ℕ) (worked : crc ≡ crc13_of payload) where
    past_7 : first (accepted h flips) (crc13_differs h payload ∷ []) ≡ judged
    past_7 = rw (eq-eqb (length payload) h.pdu_length same)

    pub gives_8 : (crc ≡ h.«crc13» → ⊥) → refused (refusal 8 crc) ≡ judged
    gives_8 differs = rw (← past_7, ← worked, ne_eqb crc h.«crc13» differs)

    pub accepts : crc ≡ h.«crc13» → accepted h flips ≡ judged
    accepts equal = rw (← past_7, ← worked, eq-eqb crc h.«crc13» equal)

-- rows 7 and 8 are past
pub record PayloadPassed (h : Header) (payload : List ℕ) : Type 0 where
  pub same_length : length payload ≡ h.pdu_length
  pub same_crc13 : crc13_of payload ≡ h.«crc13»

payload_passed : (h : Header) (payload : List ℕ) → NoneApplies (payload_checks h payload) → PayloadPassed h payload
payload_passed h payload none = record {
  same_length = not_differs (length payload) h.pdu_length none.0;
  same_crc13 = not_differs (crc13_of payload) h.«crc13» none.1.0;
}

-- a frame that is accepted: its header is, and its payload agrees with it
pub record FrameReadAs (f : Frame) (h : Header) (k : ℕ) : Type 0 where
  pub header : ReadAs f.head h k
  pub payload : PayloadPassed h f.payload

module _ (f : Frame) where
  -- a refused header refuses the frame
  refused_head : (why : Refusal) → read_header_of f.head ≡ refused why → frame_of f ≡ refused why
  unfolding frame_of
  refused_head why e = header_refused f.head (payload_checks (repaired_header f) f.payload) why e

  module _ (h : Header) (k : ℕ) where
    -- an accepted one leaves it to the payload
    left_to_payload : ReadAs f.head h k → frame_of f ≡ first (accepted h k) (payload_checks h f.payload)
    unfolding frame_of
    left_to_payload so =
        let same : repaired_header f ≡ h = same_header (repaired_header f) h (flips_in (arrived f.head)) k so.is in
        header_leaves f.head (payload_checks (repaired_header f) f.payload) so.passed
        ∙ ap₂ (λ (x : Answer) (g : Header). first x (payload_checks g f.payload)) so.is same

    pub frame_reads : FrameReadAs f h k → frame_of f ≡ accepted h k
    frame_reads so = left_to_payload so.header ∙ sym (accepts h k f.payload so.payload.same_length (crc13_of f.payload) refl so.payload.same_crc13)

    pub frame_read_as : frame_of f ≡ accepted h k → FrameReadAs f h k
    unfolding frame_of
    frame_read_as e =
        let never = never_both (accepted h k) (signal_checks f.head) (payload_checks (repaired_header f) f.payload) (never_accepted f.head h k) (search (rules, no_row)) in
        let passed = first_passes (repaired_answer f.head) (accepted h k) (frame_checks f) never e in
        let parts = none_split (signal_checks f.head) (payload_checks (repaired_header f) f.payload) passed.1 in
        let same : repaired_header f ≡ h = same_header (repaired_header f) h (flips_in (arrived f.head)) k passed.0 in
        record { header = record { is = passed.0; passed = parts.0 }; payload = rw same at (payload_passed (repaired_header f) f.payload parts.1) }

-- THE SAME, as the reader finds it: r is what was read of the header, and judged what is judged of the payload
module _ (rules : Rules) (call : Call) (air payload : List ℕ) (read : Read) (is : read ≡ header_read (signal_with rules call air)) where
  pub frame_refused : (why : Refusal) → read.answer ≡ refused why → read ≡ frame_read (frame_with rules call air payload)
  unfolding frame_read header_read
  frame_refused why e =
      let head : read_header_of (signal_with rules call air) ≡ refused why = sym (read_answer (signal_with rules call air) read is) ∙ e in
      is ∙ ap (beside (patterns_of (signal_with rules call air))) (head ∙ sym (refused_head (frame_with rules call air payload) why head))

  pub frame_left : (told : Accepted) (judged : Answer) (r : Read) → read.answer ≡ Ok told → judged ≡ first (Ok told) (payload_checks told.header payload)
      → r ≡ beside read.patterns judged → r ≡ frame_read (frame_with rules call air payload)
  unfolding frame_read
  frame_left told judged r e so made =
      made
      ∙ ap₂ beside (read_patterns (signal_with rules call air) read is told.header told.flips e)
      (so ∙ sym (left_to_payload (frame_with rules call air payload) told.header told.flips (read_as (signal_with rules call air) told.header told.flips (sym (read_answer (signal_with rules call air) read is) ∙ e))))
