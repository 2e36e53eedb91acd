-- The lines of a search put together from their parts.
-- Assumes nothing.
use Rattle.std.specs.Prelude.{None, Some}
use mathlib.Core.Path.{◌≡◌}
use mathlib.Core.List.{List, [], ◌∷◌}
use Prim.Native.Nat.{ℕ, ◌+◌, ◌≤◌}
use native.Mathlib.Omega.{arith}
use lib.ListN.{length}
use Rattle.base.specs.declared.Refusal.{Refusal}
use Rattle.base.specs.declared.Edition.{Edition}
use Rattle.text.specs.Text.{ascii, Put}
use Rattle.text.specs.Forms.{form_of}
use Rattle.text.proofs.Laid.{put_none}
use Rattle.air.specs.WordRepairs.{worst_of}
use Rattle.header.specs.declared.Header.{Header}
use Rattle.header.specs.declared.Read.{Read}
use Rattle.header.specs.Answers.{accepted, refused}
use Rattle.lines.specs.declared.Tally.{Tally}
use Rattle.lines.specs.Tallies.{total_of}
use Rattle.lines.specs.Lines.{accepted_line, refused_line}
use Rattle.lines.specs.Rooms.{line_room}
use Rattle.lines.specs.Recordings.{Stop, heading, report_line, stop_of, last_of}

module _ {l m : List ℕ} {at next : ℕ} where
  pub put_heading : Put l at (ascii "recording\n") m next → Put l at heading m next
  unfolding heading
  put_heading put = put

  -- the report of a header that is accepted, and of one that is refused
  pub report_accepted : (edition : Edition) (place : ℕ) (r : Read) (h : Header) (flips worst : ℕ) → r.answer ≡ accepted h flips → worst ≡ worst_of r.patterns
      → Put l at (accepted_line edition place h.«fields».src_id h.«fields».fr_cnt_tx flips worst (ascii " length ") h.pdu_length) m next
      → Put l at (report_line edition place r) m next
  report_accepted edition place r h flips worst e found put = rw (e, ← found) put

  pub report_refused : (edition : Edition) (place : ℕ) (r : Read) (why : Refusal) → r.answer ≡ refused why → Put l at (refused_line place why) m next → Put l at (report_line edition place r) m next
  report_refused edition place r why e put = rw e put

-- nothing is put where the search did not stop
pub stop_nowhere : (l : List ℕ) (at : ℕ) (stop : Stop) → stop ≡ None → at + line_room ≤ length l → Put l at (stop_of stop) l at
stop_nowhere l at stop e h = rw e (put_none (omega arith))

pub stop_stopped : {l m : List ℕ} {at p : ℕ} (stop : Stop) (why : Refusal) → stop ≡ Some why
    → Put l at (form_of (ascii "stopped % %\n") (why.number ∷ why.place ∷ []) []) m p → Put l at (stop_of stop) m p
stop_stopped stop why e put = rw e put

pub put_found : {l m : List ℕ} {at p : ℕ} (bits : ℕ) (tally : Tally) (heard : ℕ) → heard ≡ total_of tally
    → Put l at (form_of (ascii "bits % headers % accepted % refused %\n") (bits ∷ heard ∷ tally.accepted ∷ tally.refused ∷ []) []) m p → Put l at (last_of bits tally) m p
unfolding last_of
put_found bits tally heard is put = rw (← is) put
