-- `search_input` meets its contract. Invariant: the state and the tally are those of a recording.
-- Assumes nothing.
use Rattle.night.proofs.Turning.{Ready}
use Rattle.night.proofs.Searcher.search_input.Given as goal

abbrev pub invariant-loop : goal.invariant-loop
invariant-loop l = Ready l.self.edition 65536 l.buf l.out l.state l.tally
