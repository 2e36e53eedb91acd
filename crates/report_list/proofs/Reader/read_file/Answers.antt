use borrow.Author.Rules.{rules}
use Rattle.streams.proofs.Reading.{not_ended}
use Rattle.report_list.proofs.Rounds.{reads_on}
use Rattle.report_list.proofs.Reader.read_file.Goals as goal

pub loop-preserved : goal.loop-preserved
loop-preserved g c = search (rules, reads_on, not_ended _ _ c.ended.ensures _ c.in_ok-over.was)
