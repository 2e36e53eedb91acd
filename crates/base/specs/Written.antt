-- The answer of a writer, and of a judge, as the code has it: done, or the refusal.
-- Assumes nothing.
use Rattle.std.specs.Prelude.{Result, Ok, Err}
use Rattle.base.specs.declared.Refusal.{Refusal}

abbrev pub Written : Type 0
Written = Result (Unit {0}) Refusal

abbrev pub done : Written
done = Ok tt

abbrev pub refused : Refusal → Written
refused why = Err why
