-- "Given exactly when", for the refusals of a header that is read.
-- Assumes nothing.
use Rattle.base.specs.declared.Refusal.{Refusal}
use Rattle.base.specs.Checks.{Exactly}
use Rattle.base.proofs.Exactly.{exactly}
use Rattle.header.specs.Answers.{refused}
use Rattle.header_reader.specs.Reading.{Signal, signal_checks, repaired_answer, read_header_of}
use Rattle.header_reader.proofs.GoesOn.{not_refused}

-- 20, 1, 2, 23, 3, 21, 4, 5, 24, 6
pub read_exactly : (s : Signal) (why : Refusal) → Exactly (read_header_of s) (refused why) (signal_checks s)
unfolding read_header_of
read_exactly s why = exactly (repaired_answer s) (refused why) (signal_checks s) (not_refused s why)
