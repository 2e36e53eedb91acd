-- The listing of a whole input, and of one that comes in pieces, by the rules that its frames are read by.
-- Assumes nothing.
use Rattle.std.specs.Prelude.{Bool, List, [], ◌++◌, ℕ, leb, length}
use Rattle.header.specs.declared.Rules.{Rules}
use Rattle.sheet.specs.Sheets.{full_sheet}
use Rattle.frame.specs.Frames.{frame, frame_of, frame_read}
use Rattle.walk.specs.Walks.{Walk, closed_by, told_of, walk_of, fed_of}
use Rattle.record.specs.declared.Ending.{Ending}
use Rattle.record.specs.Walks.{Reading, record_walk}
use Rattle.lines.specs.declared.Tally.{Tally}
use Rattle.lines.specs.Tallies.{nothing_heard, total_of, tally_after}
use Rattle.lines.specs.Lines.{title, line_of, closing_of}

-- whether a sheet is full that was offered so many
abbrev pub full_at : Tally → Bool
full_at tally = leb full_sheet (total_of tally)

module _ (rules : Rules) where
  -- the tally after a record with this header and this payload, and its line
  abbrev pub tally_in : Tally → List ℕ → List ℕ → Tally
  tally_in tally header payload = tally_after tally (frame_of (frame rules header payload))

  abbrev pub line_in : Tally → List ℕ → List ℕ → List ℕ
  line_in tally header payload = line_of rules.edition (total_of tally) (length payload) (frame_read (frame rules header payload))

  -- records one after the other: "A further record for a full sheet" stops the listing
  abbrev pub list_reading : Reading Tally
  list_reading = record { full = full_at; next = tally_in; text = line_in }

  abbrev pub list_walk : Walk Tally ℕ Ending
  list_walk = record_walk list_reading

  -- the listing of a whole input: "`cut`, then the last line .. and stops"
  unfoldable pub listing_of : List ℕ → List ℕ
  listing_of input = title ++ (told_of (closed_by closing_of) (walk_of list_walk nothing_heard input)).text

  -- what is written for an input that comes in pieces
  unfoldable pub streamed_of : List (List ℕ) → List ℕ
  streamed_of pieces = title ++ (fed_of list_walk (closed_by closing_of) nothing_heard [] pieces).text
