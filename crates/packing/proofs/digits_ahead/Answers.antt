use Rattle.std.proofs.Common.{rules}
use Rattle.packing.proofs.Digits.{ahead_starts, ahead_goes_on, ahead_stops, ahead_ends}
use Rattle.packing.proofs.digits_ahead.Goals as goal

pub loop-i-init : goal.loop-i-init
loop-i-init c = search (rules, ahead_starts)

pub returns-then-base-digit_value : goal.returns-then-base-digit_value
returns-then-base-digit_value c = search (rules, ahead_stops)

pub loop-i-preserved : goal.loop-i-preserved
loop-i-preserved c = search (rules, ahead_goes_on)

pub returns : goal.returns
returns c = search (rules, ahead_ends)
