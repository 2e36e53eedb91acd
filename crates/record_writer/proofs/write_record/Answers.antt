-- `write_record` meets its contract: 13 by the room, and else what the header's writer answers.
-- Assumes nothing.
use mathlib.Core.Path.{◌≡◌}
use Rattle.std.proofs.lemmas.Result.{err_from_is_err_and}
use borrow.Author.Rules.{rules}
use Rattle.base.specs.Written.{done}
use Rattle.record_writer.proofs.Answering.{gives_13, payload_fits, record_fits, writes, refuses}
use Rattle.record_writer.proofs.write_record.Goals as goal

pub returns-then-room-room_for : goal.returns-then-room-room_for
returns-then-room-room_for c = search (rules, gives_13)

pub put_record-requires : goal.put_record-requires
put_record-requires c =
    let so = c.write_header.ensures in
    let e : c.write_header.result ≡ done = c.in_ok-write_header.was in
    search (rules, payload_fits, record_fits)

pub returns : goal.returns
returns c =
    let so = c.write_header.ensures in
    let e : c.write_header.result ≡ done = c.in_ok-write_header.was in
    search (rules, writes)

pub returns-in_err-write_header : goal.returns-in_err-write_header
returns-in_err-write_header c =
    let so = c.write_header.ensures in
    let e = c.in_err-write_header.was in
    let left = err_from_is_err_and c.from_residual.result c.from_residual.ensures.1 in
    rw (left.1, left.2) (search (rules, refuses))
