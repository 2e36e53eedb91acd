-- A reader of a piece.
-- Assumes nothing.
use Rattle.std.specs.Prelude.{ℕ, List}
use Rattle.std.specs.Borrow.{Bor}
use Rattle.mark_reader.specs.declared.Reader.{Reader}

-- "A reader holds the lent piece and its position"
abbrev pub reader_at : Bor (List ℕ) → ℕ → Reader
reader_at piece at = record { piece = piece; at = at }
