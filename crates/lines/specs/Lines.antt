-- The text of every line: "Numbers are decimal and every line ends with one line feed."
-- Assumes nothing.
use Rattle.std.specs.Prelude.{Bool, cond, List, [], ◌∷◌, ◌++◌, ℕ, ◌+◌, Ok, Err}
use Rattle.base.specs.declared.Refusal.{Refusal}
use Rattle.base.specs.declared.Edition.{Edition}
use Rattle.base.specs.declared.Edition.TheVariants.{Flown, Corrected}
use Rattle.text.specs.Text.{ascii}
use Rattle.text.specs.Forms.{form_of}
use Rattle.air.specs.WordRepairs.{worst_of}
use Rattle.header.specs.declared.Read.{Read}
use Rattle.header.specs.Answers.{Answer}
use Rattle.header.specs.Fields.{satellite_of, radio_of}
use Rattle.lines.specs.declared.Tally.{Tally}
use Rattle.lines.specs.Tallies.{total_of}

-- the first line
unfoldable pub title : List ℕ
title = ascii "pass sheet\n"

-- "satellite A, B, C, D": the ASCII code of "A" is 65
abbrev pub letter_of : ℕ → ℕ
letter_of srcId = 65 + satellite_of srcId

-- `3 accepted B radio 2 tx 5 repaired 7 worst 4 bytes 42`, or another word before the last number;
-- under the corrected edition "a frame is given to no S-NET satellite: the listing writes `source 97`"
abbrev pub accepted_line : Edition → ℕ → ℕ → ℕ → ℕ → ℕ → List ℕ → ℕ → List ℕ
accepted_line Flown k srcId tx flips worst word n =
    form_of (ascii "% accepted # radio % tx % repaired % worst %&%\n") (k ∷ letter_of srcId ∷ radio_of srcId ∷ tx ∷ flips ∷ worst ∷ n ∷ []) word
accepted_line Corrected k srcId tx flips worst word n = form_of (ascii "% accepted source % tx % repaired % worst %&%\n") (k ∷ srcId ∷ tx ∷ flips ∷ worst ∷ n ∷ []) word

-- `0 refused 4 6`: "a refused one gives the refusal and its place"
abbrev pub refused_line : ℕ → Refusal → List ℕ
refused_line k why = form_of (ascii "% refused % %\n") (k ∷ why.number ∷ why.place ∷ []) []

-- the line of record k with so many payload bytes: "Each record's line opens with its number, from 0"
abbrev pub line_for : Edition → ℕ → ℕ → List ℕ → Answer → List ℕ
line_for edition k bytes patterns (Ok a) = accepted_line edition k a.header.«fields».src_id a.header.«fields».fr_cnt_tx a.flips (worst_of patterns) (ascii " bytes ") bytes
line_for edition k bytes patterns (Err why) = refused_line k why

abbrev pub line_of : Edition → ℕ → ℕ → Read → List ℕ
line_of edition k bytes read = line_for edition k bytes read.patterns read.answer

-- `heard 1 accepted 0 refused 1`
unfoldable pub last_line : Tally → List ℕ
last_line tally = form_of (ascii "heard % accepted % refused %\n") (total_of tally ∷ tally.accepted ∷ tally.refused ∷ []) []

-- "prints `cut`, then the last line with the counts so far"
unfoldable pub cut_line : List ℕ
cut_line = ascii "cut\n"

abbrev pub closing_of : Tally → Bool → List ℕ
closing_of tally cut = cond cut cut_line [] ++ last_line tally
