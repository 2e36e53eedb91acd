-- The refusal of a payload of which only a part was handed to the writer.
-- Assumes nothing.
use Rattle.std.specs.Prelude.{cond, ℕ, eqb, Ok, Err}
use Rattle.base.specs.declared.Refusal.{Refusal}
use Rattle.base.specs.Written.{Written, done, refused}
use Rattle.base.specs.Checks.{refusal}

-- 15, "payload over 1,023: its length", is that of the whole payload; 13 and 14 don't speak of it
abbrev pub whole_of : Refusal → ℕ → Refusal
whole_of why size = cond (eqb why.number 15) (refusal 15 size) why

abbrev pub whole_answer : ℕ → Written → Written
whole_answer size (Ok u) = done
whole_answer size (Err why) = refused (whole_of why size)
