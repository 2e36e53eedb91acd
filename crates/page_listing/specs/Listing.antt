-- The listing of the pages of a whole input, and of one that comes in pieces.
-- Assumes nothing.
use Rattle.std.specs.Prelude.{Bool, List, [], ◌++◌, ℕ, leb}
use Rattle.base.specs.declared.Edition.TheVariants.{Flown}
use Rattle.header.specs.declared.Rules.{Rules}
use Rattle.sheet.specs.Sheets.{full_sheet}
use Rattle.frame.specs.Frames.{frame, frame_of}
use Rattle.page.specs.Payload.{page_of}
use Rattle.record.specs.declared.Ending.{Ending}
use Rattle.record.specs.Walks.{Reading, record_walk}
use Rattle.walk.specs.Walks.{Walk, closed_by, told_of, walk_of, fed_of}
use Rattle.frame.specs.Recorded.{listed_rules}
use Rattle.page_lines.specs.declared.Counts.{Counts}
use Rattle.page_lines.specs.Counting.{no_counts, records_heard, counted_of}
use Rattle.page_lines.specs.Lines.{title, record_lines, closing_of}

-- the lines of a record take at most so many bytes for each of its bytes
abbrev pub growth : ℕ
growth = 16

-- "(limit 42)", and the flown edition: Table 9 is S-NET's
abbrev pub page_rules : Rules
page_rules = listed_rules Flown

-- whether a sheet is full that was offered so many
abbrev pub pages_full : Counts → Bool
pages_full c = leb full_sheet (records_heard c)

module _ (rules : Rules) where
  -- the counts after a record with this header and this payload, and its lines
  abbrev pub counts_in : Counts → List ℕ → List ℕ → Counts
  counts_in c header payload = counted_of c (page_of payload).verdict (frame_of (frame rules header payload))

  abbrev pub lines_in : Counts → List ℕ → List ℕ → List ℕ
  lines_in c header payload = record_lines (records_heard c) (page_of payload) (frame_of (frame rules header payload))

  -- records one after the other, until a sheet is full
  abbrev pub page_reading : Reading Counts
  page_reading = record { full = pages_full; next = counts_in; text = lines_in }

  abbrev pub page_walk : Walk Counts ℕ Ending
  page_walk = record_walk page_reading

  -- the listing of a whole input
  unfoldable pub pages_of : List ℕ → List ℕ
  pages_of input = title ++ (told_of (closed_by closing_of) (walk_of page_walk no_counts input)).text

  -- what is written for an input that comes in pieces
  unfoldable pub pages_fed : List (List ℕ) → List ℕ
  pages_fed pieces = title ++ (fed_of page_walk (closed_by closing_of) no_counts [] pieces).text
