-- A sheet that was opened.
-- Assumes nothing.
use mathlib.Core.Path.{◌≡◌, ap}
use Rattle.base.specs.declared.Edition.TheVariants.{Corrected}
use Rattle.sheet.specs.Sheets.{new_sheet}
use Rattle.wide_sheet.specs.Wide.{WideSheet}
use Rattle.wide_sheet.specs.Wide.{held, widened}
use Rattle.sheet_listing.specs.Pieces.{blank_sheet}

-- a new wide sheet holds nothing
pub holds_nothing : (sheet : WideSheet) → sheet ≡ widened (new_sheet Corrected) → held sheet ≡ blank_sheet
holds_nothing sheet new = ap held new
