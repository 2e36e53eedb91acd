-- For contracts inside: the most bytes that lines take, worked out from their forms.
-- Assumes nothing.
use Rattle.std.specs.Prelude.{true, List, [], ℕ, ◌+◌, ◌*◌}
use Rattle.text.specs.Text.{ascii}
use Rattle.text.specs.Forms.{room_of}
use Rattle.lines.specs.Rooms.{line_room}
use Rattle.source.specs.Counts.{refusal_counts}
use Rattle.sheet_lines.specs.Lines.{lane_form}

-- a source's line: its opening, and two lanes
abbrev pub opening_room : ℕ
opening_room = room_of (ascii "# radio % frames % repaired %") []

abbrev pub lane_room : List ℕ → ℕ
lane_room name = room_of (lane_form true) name

abbrev pub source_room : ℕ
source_room = opening_room + lane_room (ascii "caller") + lane_room (ascii "responder") + 1

-- a refusal's line
abbrev pub refusal_room : ℕ
refusal_room = room_of (ascii "refused % frames %\n") []

-- the records of the widest sheet
abbrev pub most_records : ℕ
most_records = 128

abbrev pub sheet_room : ℕ
sheet_room = most_records * source_room + refusal_counts * refusal_room

-- with the last lines
abbrev pub totals_room : ℕ
totals_room = sheet_room + 2 * line_room
