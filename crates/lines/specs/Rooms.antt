-- For contracts inside: the parts in which the line of an accepted record is put, and the most bytes that lines take.
-- Assumes nothing.
use Rattle.std.specs.Prelude.{List, [], ◌∷◌, ℕ, length}
use Rattle.base.specs.declared.Edition.{Edition}
use Rattle.base.specs.declared.Edition.TheVariants.{Flown, Corrected}
use Rattle.text.specs.Text.{ascii}
use Rattle.text.specs.Forms.{form_of, room_of}
use Rattle.header.specs.Fields.{radio_of}
use Rattle.lines.specs.Lines.{letter_of}

-- who spoke
unfoldable pub speaker_of : Edition → ℕ → List ℕ
speaker_of Flown srcId = form_of (ascii "# radio %") (letter_of srcId ∷ radio_of srcId ∷ []) []
speaker_of Corrected srcId = form_of (ascii "source %") (srcId ∷ []) []

abbrev pub speaker_room : ℕ
speaker_room = room_of (ascii "# radio %") []

-- up to there
unfoldable pub opening_of : Edition → ℕ → ℕ → List ℕ
opening_of Flown k srcId = form_of (ascii "% accepted # radio %") (k ∷ letter_of srcId ∷ radio_of srcId ∷ []) []
opening_of Corrected k srcId = form_of (ascii "% accepted source %") (k ∷ srcId ∷ []) []

abbrev pub opening_room : ℕ
opening_room = room_of (ascii "% accepted # radio %") []

-- the counter, the flips, the word with the most of them, and a number that is named
unfoldable pub damage_of : ℕ → ℕ → ℕ → List ℕ → ℕ → List ℕ
damage_of tx flips worst name n = form_of (ascii "% repaired % worst %&%\n") (tx ∷ flips ∷ worst ∷ n ∷ []) name

-- the longest name, and that part with it
abbrev pub name_room : ℕ
name_room = length (ascii " length ")

abbrev pub damage_room : ℕ
damage_room = room_of (ascii "% repaired % worst %&%\n") (ascii " length ")

-- the longest line
abbrev pub line_room : ℕ
line_room = room_of (ascii "% accepted # radio % tx % repaired % worst %&%\n") (ascii " length ")
