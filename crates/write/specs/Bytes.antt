-- Numbers as bytes, where a word may say more than a byte holds.
-- Assumes nothing.
use Rattle.std.specs.Prelude.{cond, map, ℕ, ltb}
use Rattle.header.specs.declared.Fields.{Fields}
use Rattle.header.specs.Fields.{fields_from, values_of}

-- what is above 255 counts as 255
abbrev pub capped_of : ℕ → ℕ
capped_of n = cond (ltb 255 n) 255 n

-- and so for fourteen fields
abbrev pub capped_fields : Fields → Fields
capped_fields f = fields_from (map capped_of (values_of f))
