use borrow.Author.Rules.{rules}
use Rattle.beesat_listing.proofs.Scanning.{starts, not_full, has_room, goes_on, ends}
use Rattle.beesat_listing.proofs.list_frames.Goals as goal

pub loop-rest-init : goal.loop-rest-init
loop-rest-init c = search (rules, starts)

pub take_frame-taken-requires : goal.take_frame-taken-requires
take_frame-taken-requires c = search (rules, not_full, has_room)

pub loop-rest-preserved : goal.loop-rest-preserved
loop-rest-preserved c = search (rules, goes_on)

pub returns : goal.returns
returns c = search (rules, ends)
