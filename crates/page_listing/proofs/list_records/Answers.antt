use borrow.Author.Rules.{rules}
use Rattle.record.proofs.Splitting.{all_there}
use Rattle.record.proofs.Scanning.{starts, stops_long, stops_short, stops_full, has_room, less, goes_on}
use Rattle.page_listing.specs.Listing.{page_reading}
use Rattle.page_listing.proofs.Scanning.{is_full, has_place, lines_small}
use Rattle.page_listing.proofs.list_records.Goals as goal

pub loop-len-init : goal.loop-len-init
loop-len-init c = search (rules, starts (page_reading c.args.rules))

pub take_record-taken-requires-clause-page_room_in_bounds : goal.take_record-taken-requires-clause-page_room_in_bounds
take_record-taken-requires-clause-page_room_in_bounds c = search (rules, has_room (page_reading c.args.rules) c.loop-len.invariant c.in-Record.ensures c.split-parts.ensures, has_place, lines_small)

pub loop-len-smaller : goal.loop-len-smaller
loop-len-smaller c = search (rules, less (page_reading c.args.rules) c.loop-len.invariant c.in-Record.ensures c.split-parts.ensures, has_place)

pub loop-len-preserved : goal.loop-len-preserved
loop-len-preserved c = search (rules, goes_on (page_reading c.args.rules) c.loop-len.invariant c.in-Record.ensures c.split-parts.ensures, has_place, lines_small)

pub returns-then-heard-ge-FULL : goal.returns-then-heard-ge-FULL
returns-then-heard-ge-FULL c = search (rules, stops_full (page_reading c.args.rules) c.loop-len.invariant c.in-Record.ensures, is_full)

pub returns-in-TooLong : goal.returns-in-TooLong
returns-in-TooLong c = stops_long (page_reading c.args.rules) c.loop-len.invariant c.in-TooLong.ensures

pub returns-in-Short : goal.returns-in-Short
returns-in-Short c = stops_short (page_reading c.args.rules) c.loop-len.invariant c.in-Short.ensures

pub split-parts-requires : goal.split-parts-requires
split-parts-requires c = all_there c.loop-len.rest.now c.in-Record.ensures
