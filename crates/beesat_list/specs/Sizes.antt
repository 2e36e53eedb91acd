-- How much the program reads at once.
-- Assumes nothing.
use Rattle.std.specs.Prelude.{ℕ}

abbrev pub buffer_bytes : ℕ
buffer_bytes = 8192
