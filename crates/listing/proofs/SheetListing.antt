-- THE TALLY IS THE SHEET'S. A listing carries two numbers; it says what a new sheet of the edition says that is offered the input's frames in turn:
--   the lines are those of the sheet's answers, up to where the sheet is full;
--   accepted and refused are the sheet's;
--   the listing takes the sheet for full exactly where it is, and leaves a whole record exactly where there are more than fill it.
-- Assumes nothing.
use mathlib.Core.Path.{◌≡◌, ap, ◌∙◌}
use mathlib.Core.List.{List}
use Prim.Native.Nat.{ℕ}
use native.Mathlib.Nat.{zero-add}
use lib.Dec.{ltb}
use lib.ListN.{length}
use Rattle.header.specs.declared.Rules.{Rules}
use Rattle.sheet.specs.Sheets.{new_sheet, full_sheet, full_of}
use Rattle.sheet.specs.Histories.{sheet_of}
use Rattle.walk.specs.Walks.{walk_of}
use Rattle.lines.specs.Tallies.{nothing_heard}
use Rattle.listing.specs.Listing.{full_at, list_walk}
use Rattle.listing.specs.Offers.{frames_in, lines_by, tally_by, whole_ahead}
use Rattle.listing.proofs.AsSheet.{as_sheet}

module _ (rules : Rules) (input : List ℕ) where
  -- each record's line is that of the answer which the sheet gives to its frame; frames for a full sheet have none
  pub sheet_lines : (walk_of (list_walk rules) nothing_heard input).text ≡ lines_by rules.edition (new_sheet rules.edition) (frames_in rules input)
  sheet_lines = (as_sheet rules input).lines

  -- the last line's counts are the sheet's
  pub sheet_tally : (walk_of (list_walk rules) nothing_heard input).state ≡ tally_by rules.edition (sheet_of rules.edition (frames_in rules input))
  sheet_tally = (as_sheet rules input).tally

  -- "A further record for a full sheet does the same": the tally is full exactly where the sheet is,
  pub sheet_full_lem : full_at (walk_of (list_walk rules) nothing_heard input).state ≡ full_of rules.edition (sheet_of rules.edition (frames_in rules input))
  sheet_full_lem = ap full_at sheet_tally

  -- and a whole record is left exactly where there are more than fill the sheet
  pub sheet_cut : whole_ahead (walk_of (list_walk rules) nothing_heard input).rest ≡ ltb full_sheet (length (frames_in rules input))
  sheet_cut = (as_sheet rules input).cut ∙ ap (ltb full_sheet) (zero-add (length (frames_in rules input)))
