-- The lines of marks, one after the other; and the loop that puts them.
-- Assumes nothing.
use mathlib.Core.Path.{◌≡◌, refl, sym, ap, ◌∙◌}
use mathlib.Core.Bool.{true, false, true≢false, false≢true}
use mathlib.Core.List.{List, [], ◌∷◌, ◌++◌, append_assoc, append-nil}
use Prim.Native.Nat.{ℕ, ◌+◌, ◌-◌, ◌<◌, ◌≤◌, zero-le}
use native.Mathlib.Nat.{le_refl}
use native.Mathlib.Omega.{arith}
use lib.ListN.{length}
use Rattle.std.specs.Prelude.{Some, None}
use Rattle.base.specs.declared.Edition.{Edition}
use Rattle.text.specs.Text.{Put}
use Rattle.text.proofs.Laid.{put_none, put_then}
use Rattle.header.specs.declared.Read.{Read}
use Rattle.marks.specs.declared.Mark.{Mark}
use Rattle.marks.specs.declared.State.{State}
use Rattle.marks.specs.declared.Step.{Step}
use Rattle.marks.specs.Marked.{window_bits}
use Rattle.marks.specs.Pieces.{longest_recording, marks_at, step_of}
use Rattle.marks.proofs.Asked.{finds, finds_none}
use Rattle.search.specs.Reports.{mark_read}
use Rattle.lines.specs.declared.Tally.{Tally}
use Rattle.lines.specs.Tallies.{total_of, tally_after}
use Rattle.lines.specs.Rooms.{line_room}
use Rattle.lines.specs.Recordings.{report_line}
use Rattle.lines.proofs.Counting.{counts_one}
use Rattle.reporting.specs.declared.Line.{Line}
use Rattle.reporting.specs.Texts.{mark_line, lines_of, tally_mark, tally_over}
use Rattle.reporting.specs.Promises.{NextMark, LinePut, Reported}

-- marks in two parts
pub lines_append : (edition : Edition) (ms ns : List Mark) → lines_of edition (ms ++ ns) ≡ lines_of edition ms ++ lines_of edition ns
unfolding lines_of
lines_append edition [] ns = refl
lines_append edition (m ∷ ms) ns = rw (lines_append edition ms ns) (sym (append_assoc (mark_line edition m) (lines_of edition ms) (lines_of edition ns)))

pub tally_append : (edition : Edition) (tally : Tally) (ms ns : List Mark) → tally_over edition tally (ms ++ ns) ≡ tally_over edition (tally_over edition tally ms) ns
unfolding tally_over
tally_append edition tally [] ns = refl
tally_append edition tally (m ∷ ms) ns = tally_append edition (tally_mark edition tally m) ms ns

pub lines_none : (edition : Edition) → [] ≡ lines_of edition []
unfolding lines_of
lines_none edition = refl

pub tally_none : (edition : Edition) (tally : Tally) → tally ≡ tally_over edition tally []
unfolding tally_over
tally_none edition tally = refl

lines_one : (edition : Edition) (ms : List Mark) (m : Mark) → lines_of edition (ms ++ (m ∷ [])) ≡ lines_of edition ms ++ mark_line edition m
unfolding lines_of
lines_one edition ms m = lines_append edition ms (m ∷ []) ∙ ap (λ (l : List ℕ). lines_of edition ms ++ l) (append-nil (mark_line edition m))

tally_one : (edition : Edition) (tally : Tally) (ms : List Mark) (m : Mark) → tally_over edition tally (ms ++ (m ∷ [])) ≡ tally_mark edition (tally_over edition tally ms) m
unfolding tally_over
tally_one edition tally ms m = tally_append edition tally ms (m ∷ [])

-- THE NEXT MARK, AND ITS LINE
pub next_is : (s : State) (piece : List ℕ) (at : ℕ) → length s.bits ≡ window_bits → s.total + length piece ≤ longest_recording → (step : Step) → step ≡ step_of s piece at
    → NextMark s piece at step
next_is s piece at long room step e = record { some = λ m f. finds s piece at long step e m f; none = λ f. finds_none s piece at long step e room f }

pub line_is : (edition : Edition) (m : Mark) (tally : Tally) (out : List ℕ) (to : ℕ) (out' : List ℕ) (next : ℕ) (r : Read) (counted : Tally) → r ≡ mark_read edition m
    → Put out to (report_line edition m.place r) out' next → counted ≡ tally_after tally r.answer → LinePut edition m tally out to out' (record { tally = counted; to = next })
line_is edition m tally out to out' next r counted is put count = record { text = rw is at put; counted = rw is at count }

-- THE LOOP
pub record Telling (edition : Edition) (s : State) (piece : List ℕ) (from : ℕ) (start : Tally) (out₀ out : List ℕ) (tally : Tally) (to at : ℕ) : Type 0 where
  pub whole : s.total + length piece ≤ longest_recording
  pub room : line_room ≤ length out₀
  pub given : List Mark
  pub split : marks_at s piece from ≡ given ++ marks_at s piece at
  pub text : Put out₀ 0 (lines_of edition given) out to
  pub counted : tally ≡ tally_over edition start given
  pub begun : from ≤ at
  pub on : 0 < to → from < at
  pub inside : at ≤ length piece
  pub few : total_of tally ≤ s.total + at

pub tell_starts : (edition : Edition) (s : State) (piece : List ℕ) (from : ℕ) (start : Tally) (out : List ℕ) → s.total + length piece ≤ longest_recording → line_room ≤ length out
    → from ≤ length piece → total_of start ≤ s.total + from → Telling edition s piece from start out out start 0 from
unfolding lines_of tally_over
tell_starts edition s piece from start out whole room inside few =
    record { whole = whole; room = room; given = []; split = refl; text = put_none zero-le; counted = refl; begun = le_refl from; on = λ h. absurd (omega arith); inside = inside; few = few }

module _ (edition : Edition) (s : State) (piece : List ℕ) (from : ℕ) (start : Tally) (out₀ out : List ℕ) (tally : Tally) (to at : ℕ) (so : Telling edition s piece from start out₀ out tally to at) where
  pub tell_inside : to ≤ length out
  tell_inside = omega (arith, so.text.fits, so.text.kept)

  pub tell_line : line_room ≤ length out - to → to + line_room ≤ length out
  tell_line h = omega (arith, tell_inside)

  -- no room for a further line
  pub tell_ends : length out - to < line_room → Reported edition s piece from start out₀ out (record { tally = tally; to = to; at = at; over = false })
  tell_ends h = record {
    given = so.given;
    split = so.split;
    text = so.text;
    counted = so.counted;
    over = λ e. absurd (false≢true e);
    on = λ e. so.on (omega (arith, so.room, so.text.kept));
    inside = so.inside;
    few = so.few;
  }

  module _ (step : Step) (is : NextMark s piece at step) where
    -- no mark is left
    pub tell_over : step.mark ≡ None → Reported edition s piece from start out₀ out (record { tally = tally; to = to; at = at; over = true })
    tell_over none = record {
      given = so.given;
      split = so.split;
      text = so.text;
      counted = so.counted;
      over = λ e. is.none none;
      on = λ e. absurd (true≢false e);
      inside = so.inside;
      few = so.few;
    }

    module _ (m : Mark) (found : step.mark ≡ Some m) where
      pub tell_room : total_of tally < longest_recording
      tell_room = omega (arith, so.few, so.whole, (is.some m found).0, (is.some m found).1)

      pub tell_less : length piece - step.next < length piece - at
      tell_less = omega (arith, (is.some m found).0, (is.some m found).1)

      pub tell_goes_on : (out' : List ℕ) (line : Line) → LinePut edition m tally out to out' line
          → Telling edition s piece from start out₀ out' line.tally line.to step.next
      tell_goes_on out' line put =
          let further = is.some m found in
          let one_more : total_of line.tally ≡ total_of tally + 1 = ap total_of put.counted ∙ counts_one tally (mark_read edition m).answer in
          record {
            whole = so.whole;
            room = so.room;
            given = so.given ++ (m ∷ []);
            split = so.split ∙ ap (λ (ms : List Mark). so.given ++ ms) further.2 ∙ sym (append_assoc so.given (m ∷ []) (marks_at s piece step.next));
            text = rw (lines_one edition so.given m) (put_then so.text put.text);
            counted = put.counted ∙ ap (λ (t : Tally). tally_mark edition t m) so.counted ∙ sym (tally_one edition start so.given m);
            begun = omega (arith, so.begun, further.0);
            on = λ h. omega (arith, so.begun, further.0);
            inside = further.1;
            few = omega (arith, one_more, so.few, further.0);
          }
