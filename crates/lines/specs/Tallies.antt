-- What a listing counts of its records, or a search of its headers, and what an answer adds to that.
-- Assumes nothing.
use Rattle.std.specs.Prelude.{ℕ, ◌+◌, Ok, Err}
use Rattle.header.specs.Answers.{Answer}
use Rattle.lines.specs.declared.Tally.{Tally}

-- before the first record
abbrev pub nothing_heard : Tally
nothing_heard = record { accepted = 0; refused = 0 }

-- what the last line says was heard: the accepted and the refused
abbrev pub total_of : Tally → ℕ
total_of tally = tally.accepted + tally.refused

-- the most that a tally counts
abbrev pub most_counted : ℕ
most_counted = 4294967295

-- an answer adds one to the accepted or to the refused
abbrev pub tally_after : Tally → Answer → Tally
tally_after tally (Ok a) = record { accepted = tally.accepted + 1; refused = tally.refused }
tally_after tally (Err why) = record { accepted = tally.accepted; refused = tally.refused + 1 }
