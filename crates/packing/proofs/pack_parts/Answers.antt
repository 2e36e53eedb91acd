-- `pack_parts` meets its contract, by what is wrong.
-- Assumes nothing.
use Rattle.std.proofs.Common.{rules}
use Rattle.packing.proofs.Putting.{is_fine, parts_room, parts_wrong, parts_fine}
use Rattle.packing.proofs.pack_parts.Goals as goal

pub put_record-requires : goal.put_record-requires
put_record-requires c = search (rules, is_fine, parts_room)

pub returns-in-Err : goal.returns-in-Err
returns-in-Err c = search (rules, parts_wrong)

pub returns-in-Ok : goal.returns-in-Ok
returns-in-Ok c = search (rules, parts_fine)
