-- What `put_marks` promises can be had: a piece is told by calls that put a line each, and one that puts none.
-- Assumes nothing.
use mathlib.Core.Path.{◌≡◌, refl, sym}
use mathlib.Core.Bool.{true, false, true≢false, false≢true}
use mathlib.Core.List.{List, [], ◌∷◌, ◌++◌, append-nil}
use Prim.Native.Nat.{ℕ, ◌+◌, ◌≤◌, zero-le}
use Rattle.std.specs.Prelude.{Some}
use native.Mathlib.Nat.{le_refl, zero-add}
use native.Mathlib.Omega.{arith}
use lib.ListN.{length, take}
use lib.Seq.{drop-length}
use Rattle.base.specs.declared.Edition.{Edition}
use Rattle.base.specs.Written.{done}
use Rattle.text.specs.Text.{laid, Put}
use Rattle.text.proofs.Laid.{put_none}
use Rattle.marks.specs.declared.Mark.{Mark}
use Rattle.marks.specs.declared.State.{State}
use Rattle.marks.specs.declared.Step.{Step}
use Rattle.marks.specs.Marked.{window_bits}
use Rattle.marks.specs.Pieces.{longest_recording, verdict_of, marks_at, step_of}
use Rattle.marks.specs.Reports.{Got, last as Got-Last, more as got-more}
use Rattle.marks.proofs.Asked.{something_got}
use Rattle.marks.proofs.Verdicts.{room}
use Rattle.search.specs.Reports.{mark_read}
use Rattle.lines.specs.declared.Tally.{Tally}
use Rattle.lines.specs.Tallies.{total_of}
use Rattle.lines.proofs.Counting.{counts_one}
use Rattle.reporting.specs.Texts.{lines_of, tally_over}
use Rattle.reporting.specs.Promises.{NextMark, Reported}
use Rattle.reporting.specs.Searches.{Tells, last, more}
use Rattle.reporting.proofs.Telling.{lines_none, tally_none, next_is}

-- a text is put over itself: the buffer is just as long as it
put_itself : (text : List ℕ) → Put text 0 text text (length text)
unfolding laid
put_itself text =
    record { bytes = rw (zero-add (length text), drop-length text) (sym (append-nil text)); place = sym (zero-add (length text)); fits = le_refl (length text); kept = refl }

tally_single : (edition : Edition) (tally : Tally) (m : Mark) → total_of (tally_over edition tally (m ∷ [])) ≡ total_of tally + 1
unfolding tally_over
tally_single edition tally m = counts_one tally (mark_read edition m).answer

module _ (edition : Edition) (s : State) (piece : List ℕ) where
  -- no mark is left from `at` on
  none_told : (at : ℕ) (tally : Tally) → at ≤ length piece → total_of tally ≤ s.total + at → marks_at s piece at ≡ []
      → Reported edition s piece at tally [] [] (record { tally = tally; to = 0; at = at; over = true })
  none_told at tally inside few none = record {
    given = [];
    split = refl;
    text = rw (← (lines_none edition)) (put_none zero-le);
    counted = tally_none edition tally;
    over = λ e. none;
    on = λ e. absurd (true≢false e);
    inside = inside;
    few = few;
  }

  -- the line of the next mark is put
  one_told : (at : ℕ) (tally : Tally) → total_of tally ≤ s.total + at → (step : Step) (m : Mark) → NextMark s piece at step → step.mark ≡ Some m
      → Reported edition s piece at tally (lines_of edition (m ∷ [])) (lines_of edition (m ∷ []))
      (record { tally = tally_over edition tally (m ∷ []); to = length (lines_of edition (m ∷ [])); at = step.next; over = false })
  one_told at tally few step m is found =
      let further = is.some m found in
      record {
        given = m ∷ [];
        split = further.2;
        text = put_itself (lines_of edition (m ∷ []));
        counted = refl;
        over = λ e. absurd (false≢true e);
        on = λ e. further.0;
        inside = further.1;
        few = omega (arith, tally_single edition tally m, few, further.0);
      }

-- a text and a tally of a piece from `at` on; no more headers are counted than bits were passed
pub record ToldFrom (edition : Edition) (s : State) (piece : List ℕ) (at : ℕ) (tally : Tally) : Type 0 where
  pub text : List ℕ
  pub after : Tally
  pub tells : Tells edition s piece at tally text after
  pub few : total_of after ≤ s.total + length piece

module _ (edition : Edition) (s : State) (piece : List ℕ) (long : length s.bits ≡ window_bits) (whole : s.total + length piece ≤ longest_recording) where
  next : (at : ℕ) → NextMark s piece at (step_of s piece at)
  next at = next_is s piece at long whole (step_of s piece at) refl

  got_told : (at : ℕ) (ms : List Mark) → Got s piece at ms → (tally : Tally) → at ≤ length piece → total_of tally ≤ s.total + at → ToldFrom edition s piece at tally
  got_told at ms (Got-Last none) tally inside few =
      record { text = []; after = tally; tells = last (none_told edition s piece at tally inside few ((next at).none none)) refl; few = omega (arith, inside, few) }
  got_told at ms (got-more {m = m} {ms = ns} found got) tally inside few =
      let step : Step = step_of s piece at in
      let put = one_told edition s piece at tally few step m (next at) found in
      let rest = got_told step.next ns got (tally_over edition tally (m ∷ [])) put.inside put.few in
      record {
        text = take (length (lines_of edition (m ∷ []))) (lines_of edition (m ∷ [])) ++ rest.text;
        after = rest.after;
        tells = more put rest.tells;
        few = rest.few;
      }

-- an accepted piece is told
pub piece_told : (edition : Edition) (s : State) (piece : List ℕ) (tally : Tally) → length s.bits ≡ window_bits → verdict_of s.total piece ≡ done → total_of tally ≤ s.total
    → ToldFrom edition s piece 0 tally
piece_told edition s piece tally long accepted few =
    let asked = something_got s piece long 0 in
    got_told edition s piece long (room s.total piece (verdict_of s.total piece) refl accepted) 0 asked.marks asked.got tally zero-le (omega arith)
