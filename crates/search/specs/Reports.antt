-- The reports of a recording: "place (the marker's first bit, from 0) and header answer".
-- Assumes nothing.
use Rattle.std.specs.Prelude.{ℕ, List, map, take, drop}
use Rattle.base.specs.declared.Edition.{Edition}
use Rattle.air.specs.Air.{air_bits}
use Rattle.header.specs.declared.Read.{Read}
use Rattle.header_reader.specs.Reading.{signal, header_read}
use Rattle.header.specs.Rules.{usual_rules}
use Rattle.marks.specs.declared.Mark.{Mark}
use Rattle.marks.specs.Marked.{marker_bits, marks_of}

-- the header of a window, the 210 bits after the marker, read: "the search takes 28"
unfoldable pub window_read : Edition → List ℕ → Read
window_read edition window = header_read (signal (usual_rules edition) (take air_bits (drop marker_bits window)))

abbrev pub mark_read : Edition → Mark → Read
mark_read edition m = window_read edition m.window

pub record Report : Type 0 where
  pub place : ℕ
  pub read : Read

abbrev pub report_of : Edition → Mark → Report
report_of edition m = record { place = m.place; read = mark_read edition m }

unfoldable pub reports_of : Edition → List ℕ → List Report
reports_of edition recording = map (report_of edition) (marks_of recording)
