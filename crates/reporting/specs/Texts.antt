-- The text of a whole search: "recording", a line for each report, and the last line with the counts.
-- Assumes nothing.
use Rattle.std.specs.Prelude.{List, [], ◌∷◌, ◌++◌, ℕ, length}
use Rattle.base.specs.declared.Edition.{Edition}
use Rattle.marks.specs.declared.Mark.{Mark}
use Rattle.marks.specs.Marked.{marks_of}
use Rattle.search.specs.Reports.{mark_read}
use Rattle.lines.specs.declared.Tally.{Tally}
use Rattle.lines.specs.Tallies.{nothing_heard, tally_after}
use Rattle.lines.specs.Recordings.{Stop, heading, report_line, ending_of}

-- the line of a mark, and of marks one after the other
abbrev pub mark_line : Edition → Mark → List ℕ
mark_line edition m = report_line edition m.place (mark_read edition m)

unfoldable pub lines_of : Edition → List Mark → List ℕ
lines_of edition [] = []
lines_of edition (m ∷ ms) = mark_line edition m ++ lines_of edition ms

-- a tally after the answer to a mark, and after marks one after the other
abbrev pub tally_mark : Edition → Tally → Mark → Tally
tally_mark edition tally m = tally_after tally (mark_read edition m).answer

unfoldable pub tally_over : Edition → Tally → List Mark → Tally
tally_over edition tally [] = tally
tally_over edition tally (m ∷ ms) = tally_over edition (tally_mark edition tally m) ms

-- what a search writes of a recording, and why it stopped
unfoldable pub search_of : Edition → List ℕ → Stop → List ℕ
search_of edition recording stop =
    heading ++ lines_of edition (marks_of recording) ++ ending_of (length recording) (tally_over edition nothing_heard (marks_of recording)) stop
