-- The marks of a piece reported, a buffer at a time: each header is counted once, and no more headers are counted than bits were passed.
-- Assumes nothing.
use mathlib.Core.Path.{◌≡◌, refl, sym, ap, ◌∙◌}
use mathlib.Core.Bool.{true, false}
use mathlib.Core.List.{List}
use Prim.Native.Nat.{ℕ, ◌+◌, ◌-◌, ◌<◌, ◌≤◌, zero-le}
use native.Mathlib.Omega.{arith}
use lib.ListN.{length}
use Rattle.base.specs.declared.Edition.{Edition}
use Rattle.marks.specs.declared.State.{State}
use Rattle.marks.specs.Pieces.{longest_recording, marks_at}
use Rattle.lines.specs.declared.Tally.{Tally}
use Rattle.lines.specs.Tallies.{total_of}
use Rattle.lines.specs.Rooms.{line_room}
use Rattle.reporting.specs.declared.Told.{Told}
use Rattle.reporting.specs.Texts.{tally_over}
use Rattle.reporting.specs.Promises.{Reported}
use Rattle.reporting.proofs.Telling.{tally_append, tally_none}
use Rattle.night.specs.Turns.{AllTold}

pub record Passing (edition : Edition) (s : State) (piece : List ℕ) (start : Tally) (out₀ out : List ℕ) (tally : Tally) (at : ℕ) : Type 0 where
  pub whole : s.total + length piece ≤ longest_recording
  pub inside : at ≤ length piece
  pub few : total_of tally ≤ s.total + at
  pub room : line_room ≤ length out
  pub same : length out ≡ length out₀
  -- what is counted, and the marks that are left, make up all marks of the piece
  pub left : tally_over edition start (marks_at s piece 0) ≡ tally_over edition tally (marks_at s piece at)

pub all_starts : (edition : Edition) (s : State) (piece out : List ℕ) (tally : Tally) → s.total + length piece ≤ longest_recording → total_of tally ≤ s.total
    → line_room ≤ length out → Passing edition s piece tally out out tally 0
all_starts edition s piece out tally whole few room = record { whole = whole; inside = zero-le; few = omega arith; room = room; same = refl; left = refl }

module _ (edition : Edition) (s : State) (piece : List ℕ) (start : Tally) (out₀ out : List ℕ) (tally : Tally) (at : ℕ)
    (so : Passing edition s piece start out₀ out tally at) (out' : List ℕ) (r : Told)
    (told : Reported edition s piece at tally out out' r) where
  left_on : tally_over edition start (marks_at s piece 0) ≡ tally_over edition r.tally (marks_at s piece r.at)
  left_on =
      so.left
      ∙ ap (tally_over edition tally) told.split
      ∙ tally_append edition tally told.given (marks_at s piece r.at)
      ∙ ap (λ (t : Tally). tally_over edition t (marks_at s piece r.at)) (sym told.counted)

  all_few : total_of r.tally ≤ s.total + length piece
  all_few = omega (arith, told.few, told.inside)

  pub all_over : r.over ≡ true → AllTold edition s piece start r.tally
  all_over none = record {
    few = all_few;
    counted = tally_none edition r.tally ∙ ap (tally_over edition r.tally) (sym (told.over none)) ∙ sym left_on;
  }

  pub all_less : r.over ≡ false → length piece - r.at < length piece - at
  all_less more = omega (arith, told.on more, told.inside)

  pub all_goes_on : Passing edition s piece start out₀ out' r.tally r.at
  all_goes_on = record {
    whole = so.whole;
    inside = told.inside;
    few = told.few;
    room = omega (arith, so.room, told.text.kept);
    same = told.text.kept ∙ so.same;
    left = left_on;
  }
