-- The 17 rows of the power page as a table, to show that `layout` knows no satellite.
-- Assumes nothing.
use mathlib.Core.List.{List, map}
use Rattle.std.specs.Prelude.{ℕ, ◌*◌}
use Rattle.base.specs.Lists.{count}
use Rattle.layout.specs.Rows.{low_row}
use Rattle.layout.specs.declared.Row.{Row}
use Rattle.scaling.specs.Shown.{row_count}

-- "Row r is a 16-bit .. number, low byte first .., at user byte 2r."
unfoldable pub power_rows : List Row
power_rows = map (λ r. low_row (16 * r) 16) (count row_count 0)
