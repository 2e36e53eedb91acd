-- What is written for an input that comes in pieces: each piece's frames are counted, and what is left of it is kept for the next.
-- Assumes nothing.
use Rattle.std.specs.Prelude.{Bool, List, [], ◌++◌, ℕ}
use Rattle.base.specs.declared.Edition.TheVariants.{Corrected}
use Rattle.header.specs.declared.Rules.{Rules}
use Rattle.frame.specs.Frames.{frame, frame_of}
use Rattle.walk.specs.Walks.{Walk, closed_by, fed_of}
use Rattle.record.specs.declared.Ending.{Ending}
use Rattle.record.specs.Walks.{Reading, record_walk}
use Rattle.sheet.specs.Sheets.{Sheet}
use Rattle.sheet.specs.Sheets.{new_sheet, counted_of}
use Rattle.lines.specs.declared.Tally.{Tally}
use Rattle.lines.specs.Tallies.{nothing_heard}
use Rattle.listing.specs.Listing.{full_at, tally_in}
use Rattle.sheet_lines.specs.Lines.{totals_title, totals_of}

-- what was counted of some frames
pub record Totals : Type 0 where
  pub sheet : Sheet
  pub tally : Tally

-- under either edition the counts stand on a sheet with a record for every SrcId; the flown edition uses the first eight
abbrev pub blank_sheet : Sheet
blank_sheet = new_sheet Corrected

abbrev pub nothing_counted : Totals
nothing_counted = record { sheet = blank_sheet; tally = nothing_heard }

-- as the listing, a sheet takes no record where it is full
abbrev pub totals_full : Totals → Bool
totals_full s = full_at s.tally

module _ (rules : Rules) where
  -- after a record with this header and this payload
  abbrev pub totals_in : Totals → List ℕ → List ℕ → Totals
  totals_in s header payload = record { sheet = counted_of s.sheet (frame_of (frame rules header payload)); tally = tally_in rules s.tally header payload }

  -- records one after the other: each is counted, and has no text
  abbrev pub sheet_reading : Reading Totals
  sheet_reading = record { full = totals_full; next = totals_in; text = λ s header payload. [] }

  abbrev pub sheet_walk : Walk Totals ℕ Ending
  sheet_walk = record_walk sheet_reading

  abbrev pub totals_text : Totals → Bool → List ℕ
  totals_text s cut = totals_of rules.edition s.sheet s.tally cut

  unfoldable pub streamed_sheet : List (List ℕ) → List ℕ
  streamed_sheet pieces = totals_title ++ (fed_of sheet_walk (closed_by totals_text) nothing_counted [] pieces).text
