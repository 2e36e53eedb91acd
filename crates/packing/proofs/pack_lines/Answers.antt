use Rattle.std.proofs.Common.{rules}
use Rattle.text.proofs.Sizes.{part_size}
use Rattle.packing.proofs.Scanning.{starts, stops_long, stops_open, stops_wrong, line_inside, end_inside, size_fits, line_short, has_room, less, goes_on}
use Rattle.packing.proofs.pack_lines.Goals as goal

pub loop-end-init : goal.loop-end-init
loop-end-init c = search (rules, starts)

pub slice_bounds-pack_line-end : goal.slice_bounds-pack_line-end
slice_bounds-pack_line-end c = search (rules, part_size, end_inside)

pub pack_line-packed-requires : goal.pack_line-packed-requires
pack_line-packed-requires c = search (rules, line_short, has_room)

pub overflow_add-rest : goal.overflow_add-rest
overflow_add-rest c = search (rules, size_fits)

pub slice_bounds-rest-count : goal.slice_bounds-rest-count
slice_bounds-rest-count c = search (rules, line_inside)

pub slice_bounds-rest-start : goal.slice_bounds-rest-start
slice_bounds-rest-start c = search (rules, line_inside)

pub loop-end-smaller : goal.loop-end-smaller
loop-end-smaller c = search (rules, less)

pub loop-end-preserved : goal.loop-end-preserved
loop-end-preserved c = search (rules, goes_on)

pub returns-then-is_wrong : goal.returns-then-is_wrong
returns-then-is_wrong c = search (rules, stops_wrong)

pub returns-in-TooLong : goal.returns-in-TooLong
returns-in-TooLong c = search (rules, stops_long)

pub returns-in-Unended : goal.returns-in-Unended
returns-in-Unended c = search (rules, stops_open)
