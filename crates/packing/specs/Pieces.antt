-- Lines of a whole input, and of one that comes in pieces: what is written, and what is told at the end.
-- Assumes nothing.
use Rattle.std.specs.Prelude.{ℕ, List, []}
use Rattle.walk.specs.Walks.{Ended, waiting, stopped, Closed, told_of, walk_of, fed_of}
use Rattle.packing.specs.Lines.{Judged, fine, pack_of}
use Rattle.packing.specs.Packing.{lines_after, pack_walk}

-- the number of the line that was judged last, and what is wrong with it
pub record LastLine : Type 0 where
  pub line : ℕ
  pub judged : Judged

-- OPEN: no line is wrong yet
abbrev pub opened : Judged
opened = fine

-- CLOSE: where no line is wrong, what is left is a line that no line feed ended; a wrong one has no bytes, and stays wrong
abbrev pub closed_of : ℕ → Ended Judged → List ℕ → Closed LastLine
closed_of lines waiting rest = record { text = (pack_of rest).bytes; told = record { line = lines_after lines 1; judged = (pack_of rest).judged } }
closed_of lines (stopped judged) rest = record { text = []; told = record { line = lines_after lines 1; judged = judged } }

-- a whole input
unfoldable pub whole_packed : List ℕ → Closed LastLine
whole_packed input = told_of closed_of (walk_of pack_walk 0 input)

-- an input that comes in pieces
unfoldable pub streamed_of : List (List ℕ) → Closed LastLine
streamed_of pieces = fed_of pack_walk closed_of 0 [] pieces
