-- For contracts inside: what the functions promise of a sheet, a tally and lent bytes.
-- Assumes nothing.
use Rattle.std.specs.Prelude.{◌≡◌, List, ℕ, ◌-◌, ◌≤◌, length, take, Ok, Err}
use Rattle.text.specs.Text.{Put}
use Rattle.header.specs.declared.Rules.{Rules}
use Rattle.header.specs.Answers.{Answer}
use Rattle.frame.specs.Frames.{frame, frame_of}
use Rattle.walk.specs.Walks.{walk_of}
use Rattle.walk.specs.Moves.{Moved}
use Rattle.record.specs.Walks.{ended_as}
use Rattle.source.specs.declared.Source.{Source}
use Rattle.source.specs.Lanes.{record_of, hear_of}
use Rattle.source.specs.Counts.{counts_after}
use Rattle.wide_sheet.specs.Wide.{WideSheet}
use Rattle.wide_sheet.specs.Wide.{held}
use Rattle.lines.specs.declared.Tally.{Tally}
use Rattle.lines.specs.Tallies.{nothing_heard}
use Rattle.listing.specs.Listing.{tally_in}
use Rattle.sheet_lines.specs.Lines.{totals_title}
use Rattle.sheet_listing.specs.declared.Opened.{Opened}
use Rattle.sheet_listing.specs.declared.Taken.{Taken}
use Rattle.sheet_listing.specs.declared.Counted.{Counted}
use Rattle.sheet_listing.specs.Pieces.{Totals, blank_sheet, sheet_walk}

-- the place of the record that an answer may change, that record after it, and the counts of refusals after it: an accepted frame changes its
-- source's record, a refused one a count
abbrev pub record_in : Answer → ℕ
record_in (Ok a) = record_of a.header
record_in (Err why) = 0

abbrev pub heard_by : Source → Answer → Source
heard_by source (Ok a) = hear_of source a.header a.flips
heard_by source (Err why) = source

abbrev pub refused_by : List ℕ → Answer → List ℕ
refused_by counts (Ok a) = counts
refused_by counts (Err why) = counts_after counts why.number

-- a sheet was opened: it starts with nothing counted, after its title
pub record Opens (before after : List ℕ) (r : Opened) : Type 0 where
  pub sheet_is : held r.sheet ≡ blank_sheet
  pub tally_is : r.tally ≡ nothing_heard
  pub line : Put before 0 totals_title after r.to

-- a record was read: its answer, and the tally after it
pub record Takes (rules : Rules) (tally : Tally) (header payload : List ℕ) (r : Taken) : Type 0 where
  pub answer_is : r.answer ≡ frame_of (frame rules header payload)
  pub tally_is : r.tally ≡ tally_in rules tally header payload

-- a sheet and a tally, as the code holds them
abbrev pub held_totals : WideSheet → Tally → Totals
held_totals sheet tally = record { sheet = held sheet; tally = tally }

-- some bytes were walked over: the sheet and the tally after their records, how many bytes are left, and how it ended
pub record Walked (rules : Rules) (start : WideSheet) (tally : Tally) (l : List ℕ) (r : Counted) : Type 0 where
  pub totals_are : held_totals r.sheet r.tally ≡ (walk_of (sheet_walk rules) (held_totals start tally) l).state
  pub left_is : r.left ≡ length (walk_of (sheet_walk rules) (held_totals start tally) l).rest
  pub ended_is : ended_as r.ending ≡ (walk_of (sheet_walk rules) (held_totals start tally) l).ended

-- the first `end` bytes of a buffer were walked over, and what is left of them was moved to its front
pub record Turns (rules : Rules) (start : WideSheet) (tally : Tally) (buf : List ℕ) (end : ℕ) (buf' : List ℕ) (r : Counted) : Type 0 where
  pub walked : Walked rules start tally (take end buf) r
  pub inside : r.left ≤ end
  pub kept : Moved buf (end - r.left) r.left buf'
