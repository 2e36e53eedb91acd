use borrow.Author.Rules.{rules}
use Rattle.base.proofs.Fill.{fill_starts, fill_goes_on, fill_whole}
use Rattle.sign.specs.CallSigns.{sign_of}
use Rattle.sign.proofs.call_sign.Goals as goal

pub loop-n-init : goal.loop-n-init
loop-n-init c = search (rules, fill_starts)

pub loop-n-preserved : goal.loop-n-preserved
loop-n-preserved c = search (rules, fill_goes_on)

pub returns : goal.returns
unfolding sign_of
returns c = search (rules, fill_whole)
