-- A frame, read: refused with 20, 1, 2, 23, 3, 21, 4, 5, 24, 6 to 8, or the repaired header and the number of flips, with the patterns beside it.
-- Assumes nothing.
use Rattle.std.specs.Prelude.{not, List, [], ◌∷◌, ◌++◌, ℕ, eqb, length, drop}
use Rattle.base.specs.Checks.{Check, check, first, refusal}
use Rattle.crc.specs.Crc.{crc13_of}
use Rattle.sign.specs.Calls.{Call}
use Rattle.header.specs.declared.Header.{Header}
use Rattle.header.specs.declared.Rules.{Rules}
use Rattle.header.specs.declared.Read.{Read}
use Rattle.header.specs.Answers.{Answer, refused}
use Rattle.header.specs.Fields.{header_of}
use Rattle.header_reader.specs.Reading.{Signal, signal_with, signal, signed, repaired_bits, signal_checks, repaired_answer, patterns_of}
use Rattle.header.specs.Patterns.{beside}

-- a frame as it is offered: what its header is read from, and its payload
pub record Frame : Type 0 where
  pub head : Signal
  pub payload : List ℕ

abbrev pub frame : Rules → List ℕ → List ℕ → Frame
frame rules air payload = record { head = signal rules air; payload = payload }

-- and with call sign bits
abbrev pub signed_frame : Rules → List ℕ → List ℕ → List ℕ → Frame
signed_frame rules call air payload = record { head = signed rules call air; payload = payload }

-- both: what was given of a call sign is named
abbrev pub frame_with : Rules → Call → List ℕ → List ℕ → Frame
frame_with rules call air payload = record { head = signal_with rules call air; payload = payload }

-- the header that its words are repaired to
abbrev pub repaired_header : Frame → Header
repaired_header f = header_of (repaired_bits f.head)

-- THE PAPER'S TABLE, rows 7 and 8: the payload, held against a header
-- 7, "payload length is not PduLength": PduLength
abbrev pub other_length : Header → List ℕ → Check Answer
other_length h payload = check (not (eqb (length payload) h.pdu_length)) (refused (refusal 7 h.pdu_length))

-- 8, "CRC13 differs": CRC13 worked out
abbrev pub crc13_differs : Header → List ℕ → Check Answer
crc13_differs h payload = check (not (eqb (crc13_of payload) h.«crc13»)) (refused (refusal 8 (crc13_of payload)))

abbrev pub payload_checks : Header → List ℕ → List (Check Answer)
payload_checks h payload = other_length h payload ∷ crc13_differs h payload ∷ []

-- all rows
abbrev pub frame_checks : Frame → List (Check Answer)
frame_checks f = signal_checks f.head ++ payload_checks (repaired_header f) f.payload

-- THE WHOLE ORDER at a glance: a sheet's two rows (17, 22), and then the frame's
abbrev pub whole_order : List ℕ
whole_order = 17 ∷ 22 ∷ 20 ∷ 1 ∷ 2 ∷ 23 ∷ 3 ∷ 21 ∷ 4 ∷ 5 ∷ 24 ∷ 6 ∷ 7 ∷ 8 ∷ []

abbrev pub frame_numbers : List ℕ
frame_numbers = drop 2 whole_order

-- "Frame, in this order; the first that applies is given"
unfoldable pub frame_of : Frame → Answer
frame_of f = first (repaired_answer f.head) (frame_checks f)

-- the answer, and the patterns of the frame's words beside it
unfoldable pub frame_read : Frame → Read
frame_read f = beside (patterns_of f.head) (frame_of f)
