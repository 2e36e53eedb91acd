use borrow.Author.Rules.{rules}
use Rattle.night.proofs.Turning.{ready_starts, ready_goes_on, ready_ends}
use Rattle.night.proofs.Searcher.search_input.Goals as goal

pub loop-init : goal.loop-init
loop-init c = search (rules, ready_starts)

pub returns-then-done : goal.returns-then-done
returns-then-done c = ready_ends _ _ _ _ _ _ c.loop.invariant _ c.turn.new.out _ c.turn.ensures _ c.in_ok-done.was

pub loop-preserved : goal.loop-preserved
loop-preserved c = search (rules, ready_goes_on)
