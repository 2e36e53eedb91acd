-- THE LISTING OF PIECES: however the input is cut into pieces, the listing is that of the whole.
-- Assumes nothing.
use mathlib.Core.Path.{◌≡◌, ap}
use mathlib.Core.List.{List, ◌++◌, flatten}
use Prim.Native.Nat.{ℕ}
use Rattle.header.specs.declared.Rules.{Rules}
use Rattle.walk.specs.Walks.{Closed, closed_by}
use Rattle.walk.proofs.Walking.{Sound}
use Rattle.walk.proofs.Feeding.{fed_whole}
use Rattle.record.proofs.Walking.{record_sound, cut_settled}
use Rattle.lines.specs.Tallies.{nothing_heard}
use Rattle.lines.specs.Lines.{title, closing_of}
use Rattle.listing.specs.Listing.{list_reading, list_walk, listing_of, streamed_of}

module _ (rules : Rules) where
  pub list_sound : Sound (list_walk rules)
  list_sound = record_sound (list_reading rules)

  -- however the input is cut into pieces, what is written is the listing of the whole
  pub whole_listing : (pieces : List (List ℕ)) → streamed_of rules pieces ≡ listing_of rules (flatten pieces)
  unfolding streamed_of listing_of
  whole_listing pieces =
      ap (λ (c : Closed (Unit {0})). title ++ c.text)
      (fed_whole (list_walk rules) list_sound (closed_by closing_of) (cut_settled (list_reading rules) closing_of) nothing_heard pieces)
