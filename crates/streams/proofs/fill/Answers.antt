use Rattle.std.proofs.Common.{rules}
use Rattle.streams.proofs.Filling.{grows}
use Rattle.streams.proofs.fill.Goals as goal

pub loop-end-smaller : goal.loop-end-smaller
loop-end-smaller c = search (rules, grows)
