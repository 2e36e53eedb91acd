-- For contracts inside: what opens a search, the next mark, a line, and the lines of some marks of a piece.
-- Assumes nothing.
use Rattle.std.specs.Prelude.{◌≡◌, true, false, Some, None, List, [], ◌∷◌, ◌++◌, ℕ, ◌+◌, ◌<◌, ◌≤◌, length}
use Rattle.base.specs.declared.Edition.{Edition}
use Rattle.text.specs.Text.{Put}
use Rattle.marks.specs.declared.Mark.{Mark}
use Rattle.marks.specs.declared.State.{State}
use Rattle.marks.specs.declared.Step.{Step}
use Rattle.marks.specs.Pieces.{fresh_state, marks_at}
use Rattle.lines.specs.declared.Tally.{Tally}
use Rattle.lines.specs.Tallies.{nothing_heard, total_of}
use Rattle.lines.specs.Recordings.{heading}
use Rattle.reporting.specs.declared.Line.{Line}
use Rattle.reporting.specs.declared.Opened.{Opened}
use Rattle.reporting.specs.declared.Told.{Told}
use Rattle.reporting.specs.Texts.{mark_line, lines_of, tally_mark, tally_over}

-- the heading is put at the front, no bit is taken, and nothing is heard
pub record Opening (before after : List ℕ) (r : Opened) : Type 0 where
  pub state_is : r.state ≡ fresh_state
  pub tally_is : r.tally ≡ nothing_heard
  pub line : Put before 0 heading after r.to

-- the next mark from `at` on: the first of those that are left, which ends past `at`; or none is left
pub record NextMark (s : State) (piece : List ℕ) (at : ℕ) (step : Step) : Type 0 where
  pub some : (m : Mark) → step.mark ≡ Some m → (at < step.next) × (step.next ≤ length piece) × (marks_at s piece at ≡ m ∷ marks_at s piece step.next)
  pub none : step.mark ≡ None → marks_at s piece at ≡ []

-- a mark's line is put, and its header counted
pub record LinePut (edition : Edition) (m : Mark) (tally : Tally) (out : List ℕ) (to : ℕ) (out' : List ℕ) (r : Line) : Type 0 where
  pub text : Put out to (mark_line edition m) out' r.to
  pub counted : r.tally ≡ tally_mark edition tally m

-- the lines of some of the marks from `from` on are put at the front, and these marks counted; the others are those from `at` on
pub record Reported (edition : Edition) (s : State) (piece : List ℕ) (from : ℕ) (tally : Tally) (out out' : List ℕ) (r : Told) : Type 0 where
  pub given : List Mark
  pub split : marks_at s piece from ≡ given ++ marks_at s piece r.at
  pub text : Put out 0 (lines_of edition given) out' r.to
  pub counted : r.tally ≡ tally_over edition tally given
  -- none are left, or the position has gone on
  pub over : r.over ≡ true → marks_at s piece r.at ≡ []
  pub on : r.over ≡ false → from < r.at
  pub inside : r.at ≤ length piece
  pub few : total_of r.tally ≤ s.total + r.at
