-- The header answer of a window, and the reports of a recording in pieces.
-- Assumes nothing.
use mathlib.Core.Path.{◌≡◌, ap}
use mathlib.Core.List.{List, map}
use Prim.Native.Nat.{ℕ}
use lib.ListN.{take, drop}
use Rattle.base.specs.declared.Edition.{Edition}
use Rattle.air.specs.Air.{air_bits}
use Rattle.header.specs.declared.Rules.{Rules}
use Rattle.header.specs.declared.Read.{Read}
use Rattle.header_reader.specs.Reading.{signal, header_read}
use Rattle.header.specs.Rules.{usual_rules}
use Rattle.marks.specs.declared.Mark.{Mark}
use Rattle.marks.specs.Marked.{marker_bits}
use Rattle.marks.specs.Pieces.{fresh_state, all_bits}
use Rattle.marks.specs.Reports.{Run}
use Rattle.marks.proofs.Runs.{however_run}
use Rattle.search.specs.Reports.{window_read, report_of, reports_of}

pub by_rules : (edition : Edition) (window : List ℕ) (rules : Rules) (r : Read) → rules ≡ usual_rules edition
    → r ≡ header_read (signal rules (take air_bits (drop marker_bits window))) → r ≡ window_read edition window
unfolding window_read
by_rules edition window rules r e er = rw e at er

-- "However the recording is cut, the reports are those of the whole."
pub however_reported : (edition : Edition) (pieces : List (List ℕ)) (ms : List Mark) → Run fresh_state pieces ms
    → map (report_of edition) ms ≡ reports_of edition (all_bits fresh_state pieces)
unfolding reports_of
however_reported edition pieces ms run = ap (map (report_of edition)) (however_run pieces ms run)
