-- What `packing` leaves of a piece leaves room to read on, and is no longer than a line where none is wrong.
-- Assumes nothing.
use Rattle.std.proofs.Common.{rules}
use Rattle.pack.proofs.Rounds.{packs, keeps_short}
use Rattle.pack.proofs.PackerTaker.take.Goals as goal

pub returns-clause-taken_up : goal.returns-clause-taken_up
returns-clause-taken_up c = search (rules, packs)

pub returns-clause-keeps : goal.returns-clause-keeps
returns-clause-keeps c = search (rules, keeps_short)
