-- For contracts inside: how many files there may be.
-- Assumes nothing.
use Rattle.std.specs.Prelude.{ℕ}

abbrev pub most_files : ℕ
most_files = 65536
