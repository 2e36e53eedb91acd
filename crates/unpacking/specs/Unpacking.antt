-- The lines of a whole input, and of an input that comes in pieces.
-- Assumes nothing.
use Rattle.std.specs.Prelude.{Bool, false, List, [], ℕ}
use Rattle.walk.specs.Walks.{Walk, closed_by, Walked, walk_of, fed_of}
use Rattle.record.specs.declared.Ending.{Ending}
use Rattle.record.specs.Walks.{Reading, record_walk}
use Rattle.unpacking.specs.Lines.{text_line}

-- a whole record has a line: nothing is kept from one to the next, and none is refused
abbrev pub line_reading : Reading (Unit {0})
line_reading = record { full = λ s. false; next = λ s header payload. s; text = λ s header payload. text_line header payload }

abbrev pub line_walk : Walk (Unit {0}) ℕ Ending
line_walk = record_walk line_reading

-- what becomes of some bytes
abbrev pub scan_of : List ℕ → Walked (Unit {0}) Ending
scan_of l = walk_of line_walk tt l

-- the lines of a whole input
abbrev pub unpacked_of : List ℕ → List ℕ
unpacked_of input = (scan_of input).text

-- nothing follows the last line
abbrev pub no_closing : Unit {0} → Bool → List ℕ
no_closing s cut = []

-- the lines of an input that comes in pieces
unfoldable pub streamed_of : List (List ℕ) → List ℕ
streamed_of pieces = (fed_of line_walk (closed_by no_closing) tt [] pieces).text
