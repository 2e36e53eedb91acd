-- Written headers with their payloads: what the rules accept of a header that was written for a payload, they accept with that payload.
-- Assumes nothing.
use mathlib.Core.Path.{refl}
use mathlib.Core.List.{List}
use Prim.Native.Nat.{ℕ}
use Rattle.base.specs.declared.Edition.{Edition}
use Rattle.header.specs.declared.Fields.{Fields}
use Rattle.header.specs.Writing.{header_for}
use Rattle.header_reader.specs.Accepting.{AcceptsHeader}
use Rattle.frame.specs.Frames.{Frame}
use Rattle.frame.specs.Accepting.{Accepts}

pub with_payload : (edition : Edition) (f : Fields) (x : Frame) (flips : ℕ) (patterns : List ℕ)
    → AcceptsHeader x.head (header_for edition f x.payload) flips patterns → Accepts x (header_for edition f x.payload) flips patterns
with_payload edition f x flips patterns header = record { head = header; same_length = refl; same_crc13 = refl }
