-- The text of a search through a recording: "recording", a line for each report, and the last line with the counts.
-- Assumes nothing.
use Rattle.std.specs.Prelude.{List, [], ◌∷◌, ◌++◌, ℕ, Ok, Err, Option, None, Some}
use Rattle.base.specs.declared.Edition.{Edition}
use Rattle.base.specs.declared.Refusal.{Refusal}
use Rattle.text.specs.Text.{ascii}
use Rattle.text.specs.Forms.{form_of}
use Rattle.air.specs.WordRepairs.{worst_of}
use Rattle.header.specs.declared.Read.{Read}
use Rattle.header.specs.Answers.{Answer}
use Rattle.lines.specs.declared.Tally.{Tally}
use Rattle.lines.specs.Tallies.{total_of}
use Rattle.lines.specs.Lines.{accepted_line, refused_line}

-- the first line
unfoldable pub heading : List ℕ
heading = ascii "recording\n"

-- `1042 accepted A radio 1 tx 14 repaired 0 worst 0 length 62`, the last number being PduLength; `9000 refused 3 4`
abbrev pub report_for : Edition → ℕ → List ℕ → Answer → List ℕ
report_for edition place patterns (Ok a) =
    accepted_line edition place a.header.«fields».src_id a.header.«fields».fr_cnt_tx a.flips (worst_of patterns) (ascii " length ") a.header.pdu_length
report_for edition place patterns (Err why) = refused_line place why

abbrev pub report_line : Edition → ℕ → Read → List ℕ
report_line edition place read = report_for edition place read.patterns read.answer

-- why a search stopped, if it did
abbrev pub Stop : Type 0
Stop = Option Refusal

-- `stopped 19 77`: the refusal, and the first byte that is not taken
abbrev pub stop_of : Stop → List ℕ
stop_of None = []
stop_of (Some why) = form_of (ascii "stopped % %\n") (why.number ∷ why.place ∷ []) []

-- `bits 34560000 headers 2 accepted 1 refused 1`
unfoldable pub last_of : ℕ → Tally → List ℕ
last_of bits tally = form_of (ascii "bits % headers % accepted % refused %\n") (bits ∷ total_of tally ∷ tally.accepted ∷ tally.refused ∷ []) []

abbrev pub ending_of : ℕ → Tally → Stop → List ℕ
ending_of bits tally stop = stop_of stop ++ last_of bits tally
