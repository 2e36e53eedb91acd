-- For contracts inside: what closes a listing promises of lent bytes.
-- Assumes nothing.
use Rattle.std.specs.Prelude.{◌≡◌, List, ℕ}
use Rattle.walk.specs.Walks.{cut_with}
use Rattle.text.specs.Text.{Put}
use Rattle.lines.specs.Lines.{closing_of}
use Rattle.lines.specs.declared.Tally.{Tally}
use Rattle.listing.specs.declared.Closed.{Closed}

-- a listing was closed, of whose input so many bytes are left: the last lines, and whether it was cut
pub record Closes (tally : Tally) (left : ℕ) (before after : List ℕ) (r : Closed) : Type 0 where
  pub lines : Put before 0 (closing_of tally (cut_with left)) after r.to
  pub cut_is : r.cut ≡ cut_with left
