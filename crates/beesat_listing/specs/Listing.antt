-- The listing of frames one after another: of a whole input, and of one that comes in pieces.
-- Assumes nothing.
use Rattle.std.specs.Prelude.{cond, List, [], ◌++◌, ℕ, ltb, length, take}
use Rattle.walk.specs.Walks.{Front, whole, waits, Walk, closed_by, told_of, walk_of, fed_of}
use Rattle.beesat.specs.Tables.{frame_bytes}
use Rattle.beesat.specs.Reading.{read_of}
use Rattle.beesat_listing.specs.declared.Counts.{Counts}
use Rattle.beesat_listing.specs.Counting.{no_counts, heard_of, counted_of}
use Rattle.beesat_listing.specs.Lines.{title, frame_line, closing_of}

-- "Frame k is bytes 144k to 144k + 143, whatever stands there": nothing stops the listing, and "a rest under 144 bytes" is no frame
abbrev pub frame_front : List ℕ → Front (Unit {0}) ⊥
frame_front l = cond (ltb (length l) frame_bytes) waits (whole tt)

abbrev pub frame_in : List ℕ → List ℕ
frame_in l = take frame_bytes l

-- the counts after a frame
abbrev pub next_counts : Counts → List ℕ → Counts
next_counts c frame = counted_of c (read_of frame).answer

-- frames that follow those counted: a line has the number of frames before it
abbrev pub frame_walk : Walk Counts (Unit {0}) ⊥
frame_walk = record { cut = λ c l. frame_front l; size = λ i. frame_bytes; next = λ c i l. next_counts c (frame_in l); text = λ c i l. frame_line (heard_of c) (read_of (frame_in l)) }

-- the lines, and the closing: what is left is cut
unfoldable pub frames_listing : List ℕ → List ℕ
frames_listing input = title ++ (told_of (closed_by closing_of) (walk_of frame_walk no_counts input)).text

-- what is written for an input that comes in pieces
unfoldable pub streamed_of : List (List ℕ) → List ℕ
streamed_of pieces = title ++ (fed_of frame_walk (closed_by closing_of) no_counts [] pieces).text
