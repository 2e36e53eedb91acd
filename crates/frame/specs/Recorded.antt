-- A frame that stands in a record, and the rules by which the records of a pass are read.
-- Assumes nothing.
use Rattle.std.specs.Prelude.{List, ℕ}
use Rattle.base.specs.declared.Edition.{Edition}
use Rattle.air.specs.Flips.{most_flips}
use Rattle.record.specs.Records.{air_in, payload_in}
use Rattle.header.specs.declared.Rules.{Rules}
use Rattle.frame.specs.Frames.{Frame, frame}

-- "the listing names 42": the most flips that repair undoes
abbrev pub listed_rules : Edition → Rules
listed_rules edition = record { edition = edition; limit = most_flips }

-- the frame of the record at the front, which has n payload bytes
abbrev pub frame_in : Rules → ℕ → List ℕ → Frame
frame_in rules n l = frame rules (air_in l) (payload_in n l)
