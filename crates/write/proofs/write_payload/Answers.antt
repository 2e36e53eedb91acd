-- `write_payload` is safe: where the record was written, it is within the array.
-- Assumes nothing.
use borrow.Author.Rules.{rules}
use Rattle.record_writer.proofs.ReadBack.{written_fits, written_size}
use Rattle.write.proofs.write_payload.Goals as goal

pub slice_bounds-out-end : goal.slice_bounds-out-end
slice_bounds-out-end c = search (rules, written_fits)

pub slice_bounds-write-end : goal.slice_bounds-write-end
slice_bounds-write-end c = search (rules, written_size)
