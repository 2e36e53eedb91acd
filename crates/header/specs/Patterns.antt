-- Which bits were flipped: "Header answers give fourteen patterns", beside the answer.
-- Assumes nothing.
use Rattle.std.specs.Prelude.{List, ℕ, replicate, Ok, Err}
use Rattle.air.specs.Air.{word_count}
use Rattle.header.specs.declared.Read.{Read}
use Rattle.header.specs.Answers.{Answer}

-- "beside a refusal, which itself still carries number and place only, all fourteen are 0"
abbrev pub beside : List ℕ → Answer → Read
beside patterns (Ok a) = record { answer = Ok a; patterns = patterns }
beside patterns (Err why) = record { answer = Err why; patterns = replicate word_count 0 }
