-- The fields of a header from its two numbers, and its bits from its fields.
-- Assumes nothing.
use mathlib.Core.Path.{◌≡◌, sym, ap, ◌∙◌}
use mathlib.Core.List.{List, [], ◌∷◌, ◌++◌}
use Prim.Native.Nat.{ℕ, ◌%◌, ◌<◌, ◌^◌}
use native.Mathlib.Nat.{div-one, mod-eq_of_lt, zero-add}
use Rattle.base.specs.Parts.{joined}
use Rattle.base.proofs.Joined.{parts_append, join_parts}
use Rattle.header.specs.declared.Header.{Header}
use Rattle.header.specs.Fields.{widths, values_of, header_from, header_of}
use Rattle.crc.specs.Halves.{header_bits, lo_width}
use Rattle.crc.specs.Crc5.{header_width}
use Rattle.header.specs.HalfWidths.{lower_widths, upper_widths, halves_header}

pub unpacked : (h : Header) (hi lo : ℕ) → h ≡ halves_header hi lo → lo < 2 ^ lo_width → h ≡ header_of (header_bits hi lo)
unfolding header_of halves_header
unpacked h hi lo is small = is ∙ ap header_from (sym (parts_append upper_widths lower_widths hi lo small))

-- the values of a header's 17 fields, and that its bits are made of them
abbrev pub values_in : Header → List ℕ
values_in h = values_of h.«fields» ++ (h.pdu_length ∷ h.«crc13» ∷ h.«crc5» ∷ [])

pub header_bits_lem : (n : ℕ) → n < 2 ^ header_width → joined widths (values_in (header_of n)) ≡ n
unfolding header_of
header_bits_lem n small = join_parts 0 widths n ∙ zero-add (n % 2 ^ 70) ∙ mod-eq_of_lt small

-- the CRC5 that a header carries is its last five bits
pub crc5_carried : (n : ℕ) → (header_of n).«crc5» ≡ n % 2 ^ 5
unfolding header_of
crc5_carried n = ap (λ (x : ℕ). x % 2 ^ 5) (div-one n)
