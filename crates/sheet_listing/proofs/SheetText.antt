-- THE TEXT IS THE SHEET'S. However an input comes in pieces, what is written is the text of the sheet that was offered the frames of the whole
-- input in turn, with the tally of that sheet, and with `cut` where the listing of the input has it.
-- Assumes nothing.
use mathlib.Core.Path.{◌≡◌, refl, ap, ◌∙◌}
use mathlib.Core.Bool.{Bool}
use mathlib.Core.List.{List, [], ◌++◌, flatten}
use Prim.Native.Nat.{ℕ}
use lib.ListN.{length, take}
use Rattle.header.specs.declared.Rules.{Rules}
use Rattle.walk.specs.Walks.{Closed, cut_with, closed_by, told_of, walk_of}
use Rattle.walk.proofs.Feeding.{fed_whole}
use Rattle.record.proofs.Walking.{cut_settled}
use Rattle.sheet.specs.Sheets.{full_sheet}
use Rattle.sheet.specs.Histories.{count_all}
use Rattle.lines.specs.declared.Tally.{Tally}
use Rattle.lines.specs.Tallies.{nothing_heard}
use Rattle.listing.specs.Listing.{list_walk}
use Rattle.listing.specs.Offers.{frames_in}
use Rattle.listing.proofs.SheetListing.{sheet_tally}
use Rattle.sheet_lines.specs.Lines.{totals_title, totals_of}
use Rattle.sheet_lines.proofs.Alike.{totals_alike}
use Rattle.sheet_listing.specs.Sheets.{grown_from, sheet_text_of}
use Rattle.sheet_listing.specs.Pieces.{blank_sheet, nothing_counted, sheet_reading, sheet_walk, totals_text, streamed_sheet}
use Rattle.sheet_listing.proofs.TakenFrames.{sheet_sound, taken_in, AsListed, as_listed}
use Rattle.sheet_listing.proofs.Grown.{grown_alike}

-- a new tally takes as many frames as a sheet
taken_first : (rules : Rules) (input : List ℕ) → taken_in rules nothing_heard input ≡ take full_sheet (frames_in rules input)
unfolding taken_in
taken_first rules input = refl

module _ (rules : Rules) where
  told_whole : (input : List ℕ) → totals_title ++ (told_of (closed_by (totals_text rules)) (walk_of (sheet_walk rules) nothing_counted input)).text ≡ sheet_text_of rules input
  unfolding sheet_text_of
  told_whole input =
      let w : AsListed rules nothing_counted input = as_listed rules nothing_counted input in
      let so = grown_alike rules input in
      let cut : Bool = cut_with (length (walk_of (list_walk rules) nothing_heard input).rest) in
      ap (λ (text : List ℕ). totals_title ++ text)
      (rw (w.text, w.sheet, w.tally, w.rest, taken_first rules input)
      (totals_alike rules.edition (count_all blank_sheet (take full_sheet (frames_in rules input))) (grown_from rules input) so.sources so.counts (walk_of (list_walk rules) nothing_heard input).state cut
      ∙ ap (λ (t : Tally). totals_of rules.edition (grown_from rules input) t cut) (sheet_tally rules input)))

  pub whole_sheet : (pieces : List (List ℕ)) → streamed_sheet rules pieces ≡ sheet_text_of rules (flatten pieces)
  unfolding streamed_sheet
  whole_sheet pieces =
      ap (λ (c : Closed (Unit {0})). totals_title ++ c.text)
      (fed_whole (sheet_walk rules) (sheet_sound rules) (closed_by (totals_text rules)) (cut_settled (sheet_reading rules) (totals_text rules)) nothing_counted pieces)
      ∙ told_whole (flatten pieces)
