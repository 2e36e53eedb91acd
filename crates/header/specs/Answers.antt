-- What is answered of a header alone, and of a whole frame: accepted, or refused.
-- Assumes nothing.
use Rattle.std.specs.Prelude.{ℕ, Result, Ok, Err}
use Rattle.base.specs.declared.Refusal.{Refusal}
use Rattle.header.specs.declared.Header.{Header}
use Rattle.header.specs.declared.Accepted.{Accepted}

abbrev pub Answer : Type 0
Answer = Result Accepted Refusal

-- accepted, with the repaired header and the number of flips
abbrev pub accepted : Header → ℕ → Answer
accepted h flips = Ok (record { header = h; flips = flips })

-- refused, and why
abbrev pub refused : Refusal → Answer
refused why = Err why
