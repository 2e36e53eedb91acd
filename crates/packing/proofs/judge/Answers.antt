-- `judge` meets its contract, by what is wrong with the header.
-- Assumes nothing.
use Rattle.std.proofs.Common.{rules}
use Rattle.packing.proofs.Judging.{judge_wrong, judge_on}
use Rattle.packing.proofs.judge.Goals as goal

pub returns-in_err-judge_header : goal.returns-in_err-judge_header
returns-in_err-judge_header c = search (rules, judge_wrong)

pub returns : goal.returns
returns c = search (rules, judge_on)
