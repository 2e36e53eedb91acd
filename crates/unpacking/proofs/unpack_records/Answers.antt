use mathlib.Core.Path.{refl}
use borrow.Author.Rules.{rules}
use Rattle.record.proofs.Scanning.{starts, stops_long, stops_short, has_room, less, goes_on}
use Rattle.record.proofs.Splitting.{all_there, header_size}
use Rattle.unpacking.specs.Unpacking.{line_reading}
use Rattle.unpacking.proofs.Scanning.{line_small}
use Rattle.unpacking.proofs.unpack_records.Goals as goal

pub loop-len-init : goal.loop-len-init
loop-len-init c = search (rules, starts line_reading)

pub put_line-to-requires : goal.put_line-to-requires
put_line-to-requires c = has_room line_reading c.loop-len.invariant c.in-Record.ensures c.split-parts.ensures refl _ (line_small _ _ _ (header_size c.loop-len.rest.now c.in-Record.ensures c.split-parts.ensures) c.split-parts.ensures.payload_size)

pub loop-len-smaller : goal.loop-len-smaller
loop-len-smaller c = less line_reading c.loop-len.invariant c.in-Record.ensures c.split-parts.ensures refl

pub loop-len-preserved : goal.loop-len-preserved
loop-len-preserved c = search (rules, goes_on line_reading c.loop-len.invariant c.in-Record.ensures c.split-parts.ensures, line_small, header_size c.loop-len.rest.now c.in-Record.ensures c.split-parts.ensures)

pub returns-in-TooLong : goal.returns-in-TooLong
returns-in-TooLong c = stops_long line_reading c.loop-len.invariant c.in-TooLong.ensures

pub returns-in-Short : goal.returns-in-Short
returns-in-Short c = stops_short line_reading c.loop-len.invariant c.in-Short.ensures

pub split-parts-requires : goal.split-parts-requires
split-parts-requires c = all_there c.loop-len.rest.now c.in-Record.ensures
