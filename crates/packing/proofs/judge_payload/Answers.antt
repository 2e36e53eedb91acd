-- `judge_payload` meets its contract: the tests passed say what is wrong.
-- Assumes nothing.
use Rattle.std.proofs.Common.{rules}
use Rattle.packing.proofs.Judging.{payload_many, payload_no_digit, payload_odd, payload_whole}
use Rattle.packing.proofs.judge_payload.Goals as goal

pub returns-then-digits-gt-MOST_DIGITS : goal.returns-then-digits-gt-MOST_DIGITS
returns-then-digits-gt-MOST_DIGITS c = search (rules, payload_many)

pub returns-then-n-digits : goal.returns-then-n-digits
returns-then-n-digits c = search (rules, payload_no_digit)

pub returns-then-n-eq1 : goal.returns-then-n-eq1
returns-then-n-eq1 c = search (rules, payload_odd)

pub returns : goal.returns
returns c = search (rules, payload_whole)
