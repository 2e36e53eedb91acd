-- What the program makes of the bits that were read, and what it counts of them.
-- Assumes nothing.
use Rattle.std.specs.Prelude.{Some, None, is_some, ◌≡◌, false, List, ◌++◌, ℕ, ◌+◌, ◌≤◌, length, take}
use Rattle.base.specs.declared.Edition.{Edition}
use Rattle.text.specs.Text.{Put}
use Rattle.marks.specs.declared.State.{State}
use Rattle.marks.specs.Marked.{marks_of}
use Rattle.marks.specs.Pieces.{moved_on, grown, marks_at}
use Rattle.streams.specs.declared.Next.{Next}
use Rattle.streams.specs.Turns.{read_on, ended_of}
use Rattle.lines.specs.declared.Tally.{Tally}
use Rattle.lines.specs.Tallies.{nothing_heard, total_of}
use Rattle.lines.specs.Recordings.{ending_of}
use Rattle.reporting.specs.Texts.{tally_over}
use Rattle.reporting.specs.Takings.{why_no_more, taken_bits}
use Rattle.night.specs.declared.Turned.{Turned}

-- the headers of all marks of a piece are counted, each once; no more headers are counted than bits were passed
pub record AllTold (edition : Edition) (s : State) (piece : List ℕ) (tally : Tally) (r : Tally) : Type 0 where
  pub few : total_of r ≤ s.total + length piece
  pub counted : r ≡ tally_over edition tally (marks_at s piece 0)

-- bits were read: what can be taken is, its marks are told, and `stop` is why no more is taken; only where there is none is more read
pub record Moves (edition : Edition) (s : State) (tally : Tally) (bits : List ℕ) (r : Turned) : Type 0 where
  pub end_is : r.end ≡ length bits
  pub few : total_of r.tally ≤ r.state.total
  pub state_is : r.state ≡ moved_on s (taken_bits s.total bits)
  pub stop_is : r.stop ≡ why_no_more s.total bits
  pub on : r.over ≡ false → r.stop ≡ None
  pub counted : r.tally ≡ tally_over edition tally (marks_at s (taken_bits s.total bits) 0)

-- the same after a read that did not fail, and how the search goes on: no more is read just where that read was the last, or the search stopped
pub record MovesOn (edition : Edition) (s : State) (tally : Tally) (read : Next) (bits : List ℕ) (r : Turned) : Type 0 where
  pub moves : Moves edition s tally bits r
  pub over_is : Some r.over ≡ ended_of (read_on read (is_some r.stop))

-- the state after the bits of a recording, and the tally of the headers of all its marks
pub record Heard (edition : Edition) (recording : List ℕ) (s : State) (tally : Tally) : Type 0 where
  pub state_is : s ≡ grown recording
  pub tally_is : tally ≡ tally_over edition nothing_heard (marks_of recording)

-- a turn takes what can be taken of the bytes that the read left in the buffer, and counts the headers of the marks that this adds
pub record Goes (edition : Edition) (s : State) (tally : Tally) (buf : List ℕ) (r : Turned) : Type 0 where
  pub inside : r.end ≤ length buf
  pub few : total_of r.tally ≤ r.state.total
  pub stop_is : r.stop ≡ why_no_more s.total (take r.end buf)
  pub on : r.over ≡ false → r.stop ≡ None
  pub heard : (recording : List ℕ) → Heard edition recording s tally
      → Heard edition (recording ++ taken_bits s.total (take r.end buf)) r.state r.tally

-- all turns: bits were taken before the last bytes, which the last read left in the buffer, and then what can be taken of these; `stop` is why no more of them was
pub record Whole (edition : Edition) (buf : List ℕ) (r : Turned) : Type 0 where
  pub before : List ℕ
  pub stop_is : r.stop ≡ why_no_more (length before) (take r.end buf)
  pub heard : Heard edition (before ++ taken_bits (length before) (take r.end buf)) r.state r.tally

-- the last line is put at the front of a buffer
pub record Closing (done : Turned) (out out' : List ℕ) : Type 0 where
  pub to : ℕ
  pub text : Put out 0 (ending_of done.state.total done.tally done.stop) out' to
