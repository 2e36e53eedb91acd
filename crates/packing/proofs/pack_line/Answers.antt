-- `pack_line` meets its contract, by whether the line is passed over.
-- Assumes nothing.
use Rattle.std.proofs.Common.{rules}
use Rattle.text.proofs.Sizes.{part_size}
use Rattle.packing.proofs.Lines.{space_inside, first_few, parts_fit, line_passed, line_packed}
use Rattle.packing.proofs.pack_line.Goals as goal

pub slice_bounds-letters-end : goal.slice_bounds-letters-end
slice_bounds-letters-end c = search (rules, part_size)

pub returns-then-is_passed : goal.returns-then-is_passed
returns-then-is_passed c = search (rules, line_passed)

pub slice_bounds-pack_parts-end : goal.slice_bounds-pack_parts-end
slice_bounds-pack_parts-end c = search (rules, part_size, space_inside)

pub pack_parts-requires : goal.pack_parts-requires
pack_parts-requires c = search (rules, first_few, parts_fit)

pub returns : goal.returns
returns c = search (rules, line_packed)
