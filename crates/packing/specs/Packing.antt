-- The records of lines one after the other.
-- Assumes nothing.
use Rattle.std.specs.Prelude.{ℕ, ◌+◌, ◌%◌, ◌^◌, Bool, true, false, List, [], ◌∷◌, length, take, nat_lt, Ok, Err}
use Rattle.base.specs.Checks.{check, first}
use Rattle.base.specs.Lists.{place_in}
use Rattle.walk.specs.Walks.{Front as WalkFront, whole, stops, waits, Walk, Ended, waiting, stopped, Walked, walk_of}
use Rattle.packing.specs.declared.Fault.TheVariants.{LongLine}
use Rattle.packing.specs.declared.Front.{Front}
use Rattle.packing.specs.declared.Front.TheVariants.{Line, TooLong, Unended}
use Rattle.packing.specs.Lines.{longest_line, Judged, wrong, pack_of}

-- whether a line is wrong
abbrev pub wrong_of : Judged → Bool
wrong_of (Ok u) = false
wrong_of (Err why) = true

-- what stands at the front of some bytes: a line ends at the first line feed
unfoldable pub front_of : List ℕ → Front
front_of l =
    first Unended
    (check (nat_lt longest_line (place_in l 10)) TooLong
    ∷ check (nat_lt (place_in l 10) (length l)) (Line (place_in l 10))
    ∷ [])

-- so many lines, and some more: a number past 2^64, which no input reaches, would wrap
abbrev pub lines_after : ℕ → ℕ → ℕ
lines_after lines more = (lines + more) % 2 ^ 64

-- a whole line is packed where it is well, and a wrong one stops what is packed
abbrev pub judged_front : ℕ → Judged → WalkFront ℕ Judged
judged_front n (Ok u) = whole n
judged_front n (Err why) = stops (Err why)

abbrev pub line_front : List ℕ → Front → WalkFront ℕ Judged
line_front l (Line n) = judged_front n (pack_of (take n l)).judged
line_front l TooLong = stops (wrong LongLine (longest_line + 1))
line_front l Unended = waits

-- lines one after the other: how many there were is kept, and a line's text is its record
abbrev pub pack_walk : Walk ℕ ℕ Judged
pack_walk = record { cut = λ lines l. line_front l (front_of l); size = λ n. n + 1; next = λ lines n l. lines_after lines 1; text = λ lines n l. (pack_of (take n l)).bytes }

-- how it ended, by what is wrong with the next line
abbrev pub judged_ends : Judged → Ended Judged
judged_ends (Ok u) = waiting
judged_ends (Err why) = stopped (Err why)

-- what becomes of some bytes, the first lines being counted from 0
abbrev pub scan_of : List ℕ → Walked ℕ Judged
scan_of l = walk_of pack_walk 0 l
