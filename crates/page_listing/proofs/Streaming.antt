-- THE PAGES OF PIECES: however the input is cut into pieces, the listing is that of the whole.
-- Assumes nothing.
use mathlib.Core.Path.{◌≡◌, ap}
use mathlib.Core.List.{List, ◌++◌, flatten}
use Prim.Native.Nat.{ℕ}
use Rattle.header.specs.declared.Rules.{Rules}
use Rattle.walk.specs.Walks.{Closed, closed_by}
use Rattle.walk.proofs.Walking.{Sound}
use Rattle.walk.proofs.Feeding.{fed_whole}
use Rattle.record.proofs.Walking.{record_sound, cut_settled}
use Rattle.page_lines.specs.Counting.{no_counts}
use Rattle.page_lines.specs.Lines.{title, closing_of}
use Rattle.page_listing.specs.Listing.{page_reading, page_walk, pages_of, pages_fed}

module _ (rules : Rules) where
  pub page_sound : Sound (page_walk rules)
  page_sound = record_sound (page_reading rules)

  pub whole_pages : (pieces : List (List ℕ)) → pages_fed rules pieces ≡ pages_of rules (flatten pieces)
  unfolding pages_fed pages_of
  whole_pages pieces =
      ap (λ (c : Closed (Unit {0})). title ++ c.text)
      (fed_whole (page_walk rules) page_sound (closed_by closing_of) (cut_settled (page_reading rules) closing_of) no_counts pieces)
