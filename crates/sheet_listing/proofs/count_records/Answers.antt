use mathlib.Core.Path.{refl}
use borrow.Author.Rules.{rules}
use Rattle.walk.proofs.Keeping.{scan_passes}
use Rattle.record.proofs.Splitting.{all_there}
use Rattle.record.proofs.Scanning.{counts_from, counts_on, stops_long, stops_short, stops_full, less}
use Rattle.listing.proofs.Scanning.{is_full, has_place}
use Rattle.sheet_listing.specs.Pieces.{sheet_reading}
use Rattle.sheet_listing.specs.Promises.{held_totals}
use Rattle.sheet_listing.proofs.Walking.{walked, has_record, record_place, counted_in}
use Rattle.sheet_listing.proofs.count_records.Goals as goal

pub loop-len-init : goal.loop-len-init
loop-len-init c = counts_from (sheet_reading c.args.rules) (held_totals c.args.start c.args.from) c.args.piece.now

pub bounds-totals-k : goal.bounds-totals-k
bounds-totals-k c = search (rules, has_record)

pub bounds-totals-k-in-Record : goal.bounds-totals-k-in-Record
bounds-totals-k-in-Record c = search (rules, has_record)

pub loop-len-smaller : goal.loop-len-smaller
loop-len-smaller c = search (rules, less (sheet_reading c.args.rules) c.loop-len.invariant c.in-Record.ensures c.split-parts.ensures, has_place)

pub loop-len-preserved : goal.loop-len-preserved
loop-len-preserved c =
    search (rules, counts_on (sheet_reading c.args.rules) c.loop-len.invariant c.in-Record.ensures c.split-parts.ensures, has_place, counted_in)

pub returns-then-total-ge-FULL : goal.returns-then-total-ge-FULL
returns-then-total-ge-FULL c = walked (scan_passes (stops_full (sheet_reading c.args.rules) c.loop-len.invariant c.in-Record.ensures (search (rules, is_full))))

pub returns-in-TooLong : goal.returns-in-TooLong
returns-in-TooLong c = walked (scan_passes (stops_long (sheet_reading c.args.rules) c.loop-len.invariant c.in-TooLong.ensures))

pub returns-in-Short : goal.returns-in-Short
returns-in-Short c = walked (scan_passes (stops_short (sheet_reading c.args.rules) c.loop-len.invariant c.in-Short.ensures))

pub split-parts-requires : goal.split-parts-requires
split-parts-requires c = all_there c.loop-len.rest.now c.in-Record.ensures
