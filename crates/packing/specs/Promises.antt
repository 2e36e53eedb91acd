-- For contracts inside: what the functions promise of lent bytes.
-- Assumes nothing.
use Rattle.std.specs.Prelude.{◌≡◌, ℕ, ◌+◌, ◌*◌, ◌≤◌, List, length}
use Rattle.text.specs.Text.{Put}
use Rattle.packing.specs.declared.Packed.{Packed}
use Rattle.packing.specs.declared.Ended.{Ended}
use Rattle.packing.specs.Lines.{Judged, packed_parts, pack_of}
use Rattle.packing.specs.Packing.{judged_ends}
use Rattle.packing.specs.Pieces.{closed_of}

-- the two parts of a line were packed: whether they are well, and the record
pub record PacksParts (header digits before : List ℕ) (at : ℕ) (after : List ℕ) (r : Packed) : Type 0 where
  pub judged_is : r.judged ≡ (packed_parts header digits).judged
  pub put : Put before at (packed_parts header digits).bytes after r.to
  pub short : r.to ≤ at + 2 * (length header + length digits)

-- a line was packed
pub record Packs (line before : List ℕ) (at : ℕ) (after : List ℕ) (r : Packed) : Type 0 where
  pub judged_is : r.judged ≡ (pack_of line).judged
  pub put : Put before at (pack_of line).bytes after r.to
  pub short : r.to ≤ at + 2 * length line

-- after so many lines it was closed: the last line, its number, and what is wrong with it
pub record Closes (lines : ℕ) (judged : Judged) (rest before after : List ℕ) (r : Ended) : Type 0 where
  pub put : Put before 0 (closed_of lines (judged_ends judged) rest).text after r.to
  pub line_is : r.line ≡ (closed_of lines (judged_ends judged) rest).told.line
  pub judged_is : r.judged ≡ (closed_of lines (judged_ends judged) rest).told.judged
