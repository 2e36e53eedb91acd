-- The wide sheet, of the corrected edition: what it holds, as a sheet of the definitions.
-- Assumes nothing.
use Rattle.sheet.specs.declared.Sheet.{Sheet as SheetOf}
use Rattle.sheet.specs.declared.Offered.{Offered as OfferedOf}
use Rattle.sheet.specs.Sheets.{Sheet, Offered}
use Rattle.wide_sheet.specs.declared.TheConstants.{WIDE_RECORDS}

abbrev pub WideSheet : Type 0
WideSheet = SheetOf WIDE_RECORDS

abbrev pub WideOffered : Type 0
WideOffered = OfferedOf WIDE_RECORDS

abbrev pub held : WideSheet → Sheet
held sheet = record { sources = sheet.sources; refusals = sheet.refusals }

abbrev pub widened : Sheet → WideSheet
widened sheet = record { sources = sheet.sources; refusals = sheet.refusals }

abbrev pub wide_offered : Offered → WideOffered
wide_offered offered = record { read = offered.read; sheet = widened offered.sheet }
