-- A header as the code holds it: two numbers, hi and lo.
-- Assumes nothing.
use Rattle.std.specs.Prelude.{ℕ, ◌+◌, ◌*◌, ◌^◌}

-- hi is header bits 0 to 29, lo is header bits 30 to 69
abbrev pub hi_width : ℕ
hi_width = 30

abbrev pub lo_width : ℕ
lo_width = 40

-- the header's 70 bits
abbrev pub header_bits : ℕ → ℕ → ℕ
header_bits hi lo = hi * 2 ^ lo_width + lo
