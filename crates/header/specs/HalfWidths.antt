-- A header's bits as two numbers: each field stands whole in one of them.
-- Assumes nothing.
use Rattle.std.specs.Prelude.{List, ◌++◌, ℕ, take, drop}
use Rattle.base.specs.Parts.{parts_of}
use Rattle.header.specs.declared.Header.{Header}
use Rattle.header.specs.Fields.{widths, header_from}

-- bits 0 to 29 are six fields, and bits 30 to 69 the other eleven
abbrev pub upper_fields : ℕ
upper_fields = 6

abbrev pub upper_widths : List ℕ
upper_widths = take upper_fields widths

abbrev pub lower_widths : List ℕ
lower_widths = drop upper_fields widths

-- the header of two such numbers
unfoldable pub halves_header : ℕ → ℕ → Header
halves_header hi lo = header_from (parts_of upper_widths hi ++ parts_of lower_widths lo)
