-- The pass sheet of a whole input: what a new sheet of the edition says that was offered the input's frames in turn.
-- Assumes nothing.
use Rattle.std.specs.Prelude.{List, ◌++◌, ℕ, length}
use Rattle.base.specs.declared.Edition.{Edition}
use Rattle.header.specs.declared.Rules.{Rules}
use Rattle.sheet.specs.Sheets.{Sheet}
use Rattle.sheet.specs.Histories.{sheet_of}
use Rattle.walk.specs.Walks.{cut_with, walk_of}
use Rattle.lines.specs.Tallies.{nothing_heard}
use Rattle.listing.specs.Listing.{list_walk}
use Rattle.listing.specs.Offers.{frames_in, tally_by}
use Rattle.sheet_lines.specs.Lines.{totals_title, totals_of}

module _ (rules : Rules) where
  abbrev pub own_edition : Edition
  own_edition = rules.edition

  -- the sheet grown from the records of an input
  abbrev pub grown_from : List ℕ → Sheet
  grown_from input = sheet_of own_edition (frames_in rules input)

  -- its text; `cut` where the listing of the input has it
  unfoldable pub sheet_text_of : List ℕ → List ℕ
  sheet_text_of input = totals_title ++ totals_of own_edition (grown_from input) (tally_by own_edition (grown_from input)) (cut_with (length (walk_of (list_walk rules) nothing_heard input).rest))
