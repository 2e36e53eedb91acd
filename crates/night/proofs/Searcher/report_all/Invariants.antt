-- `report_all` meets its contract, and ends: each buffer passes a mark. Invariant: what is counted, and the marks that are left, make up all marks of the piece.
-- Assumes nothing.
use Prim.Native.Nat.{◌-◌}
use lib.ListN.{length}
use Rattle.night.proofs.Reporting.{Passing}
use Rattle.night.proofs.Searcher.report_all.Given as goal

abbrev pub invariant-loop-rt : goal.invariant-loop-rt
invariant-loop-rt l = Passing l.self.edition l.state l.piece l.initial.tally l.initial.out l.out l.tally l.at

abbrev pub decreases-loop-rt : goal.decreases-loop-rt
decreases-loop-rt l = length l.piece - l.at
