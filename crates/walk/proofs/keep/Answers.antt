-- `walk::keep` meets its contract.
-- Assumes nothing.
use Rattle.walk.proofs.Moving.{kept_at_front}
use Rattle.walk.proofs.keep.Goals as goal

pub returns : goal.returns
returns c = kept_at_front c.args.buf.now c.copy_within.new.self c.args.from c.args.n c.copy_within.ensures.after
