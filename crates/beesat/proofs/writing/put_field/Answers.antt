-- `put_field` meets its contract: the field is put, and then the error field of what that leaves.
-- Assumes nothing.
use borrow.Author.Rules.{rules}
use Rattle.beesat.proofs.Writable.{put_there, put_within, put_sound, error_there, error_within, still_sound, put_renewed}
use Rattle.beesat.proofs.writing.put_field.Goals as goal

pub put-requires : goal.put-requires
put-requires c = search (rules, put_there, put_within, put_sound)

pub put-requires-2 : goal.put-requires-2
put-requires-2 c = search (rules, error_there, error_within, still_sound)

pub returns : goal.returns
returns c = search (rules, put_renewed)
