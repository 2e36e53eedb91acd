-- REQUEST a. "Find each place where the 32-bit marker .. is followed by 210 more bits, overlapping places included, and report place and
-- header answer, each once, ascending .. However the recording is cut, the reports are those of the whole."
-- A program offers pieces one after the other, and asks each that is accepted for its marks until there is none (`Run`).
-- Assumes nothing.
use mathlib.Core.Path.{◌≡◌, ap, ◌∙◌}
use mathlib.Core.Bool.{true}
use mathlib.Core.List.{List, [], ◌∷◌, map, flatten, Memᴰ}
use Prim.Native.Nat.{ℕ, ◌≤◌}
use native.Mathlib.Nat.{zero-add}
use lib.ListN.{length, drop}
use Rattle.base.specs.declared.Edition.{Edition}
use Rattle.base.specs.declared.Refusal.{Refusal}
use Rattle.base.specs.Checks.{Exactly}
use Rattle.base.specs.Written.{refused as piece_refused}
use Rattle.base.specs.Lists.{AreBits}
use Rattle.base.proofs.First.{NoneApplies}
use Rattle.header.specs.Answers.{refused}
use Rattle.header_reader.specs.Reading.{limit_above42, not210_long, no_bit}
use Rattle.marks.specs.declared.Mark.{Mark}
use Rattle.marks.specs.declared.State.{State}
use Rattle.marks.specs.Marked.{marked, mark_at, marks_of}
use Rattle.marks.specs.Pieces.{longest_recording, piece_checks, verdict_of, fresh_state, grown, all_after, all_bits}
use Rattle.marks.specs.Reports.{MarkOf, Rising, Run}
use Rattle.marks.proofs.Exactly.{given, only, ascending}
use Rattle.marks.proofs.Cuts.{however_kept}
use Rattle.marks.proofs.Runs.{Ran, a_run_exists, LeftOut, left_out, whole_taken}
use Rattle.marks.proofs.Verdicts.{piece_exactly}
use Rattle.search.specs.Reports.{mark_read, report_of, reports_of}
use Rattle.search.proofs.Given.{however_reported}
use Rattle.search.proofs.Rows.{signal_of, never_20_1_2, never_23_24_7_8, refused_3_21_4_5_6}

-- EACH PLACE, and no other; "each once, ascending"
module _ (recording : List ℕ) where
  pub every_place : (p : ℕ) → marked (drop p recording) ≡ true → Memᴰ (mark_at p (drop p recording)) (marks_of recording)
  every_place p is = rw zero-add at (given p 0 recording is)

  pub no_other_place : (m : Mark) → Memᴰ m (marks_of recording) → MarkOf 0 recording m
  no_other_place m = only 0 recording m

  pub each_once_ascending : Rising 0 (marks_of recording)
  each_once_ascending = ascending 0 recording

-- HOWEVER IT IS CUT: the bits of the accepted pieces are the recording
module _ (edition : Edition) (pieces : List (List ℕ)) (ms : List Mark) (run : Run fresh_state pieces ms) where
  pub reports_of_the_whole : map (report_of edition) ms ≡ reports_of edition (all_bits fresh_state pieces)
  reports_of_the_whole = however_reported edition pieces ms run

  -- and where all are bits, and not too many, that is all of them
  pub reports_of_all : AreBits (flatten pieces) → length (flatten pieces) ≤ longest_recording → map (report_of edition) ms ≡ reports_of edition (flatten pieces)
  reports_of_all bits room = reports_of_the_whole ∙ ap (reports_of edition) (whole_taken pieces bits room)

-- and there is such a run, whatever the pieces are
pub every_run : (pieces : List (List ℕ)) → Ran fresh_state pieces
every_run = a_run_exists

-- "the last 242 bits are kept between pieces"
pub kept_between : (pieces : List (List ℕ)) → all_after fresh_state pieces ≡ grown (all_bits fresh_state pieces)
kept_between = however_kept

-- 19 and 37 are given exactly when the paper says; "state unchanged in both"
pub piece_refused_exactly : (total : ℕ) (piece : List ℕ) (why : Refusal) → Exactly (verdict_of total piece) (piece_refused why) (piece_checks total piece)
piece_refused_exactly = piece_exactly

pub refused_leaves : (s : State) (piece : List ℕ) (why : Refusal) (pieces : List (List ℕ)) → verdict_of s.total piece ≡ piece_refused why → LeftOut s piece why pieces
refused_leaves = left_out

-- the checks 20, 1 and 2 never apply to a report
pub no_20_1_2 : (edition : Edition) (recording : List ℕ) → AreBits recording → (m : Mark) → Memᴰ m (marks_of recording)
    → NoneApplies (limit_above42 (signal_of edition m) ∷ not210_long (signal_of edition m) ∷ no_bit (signal_of edition m) ∷ [])
no_20_1_2 = never_20_1_2

-- no call sign is given and "Payloads aren't read here": of no mark at all is the header refused with 23, 24, 7 or 8
pub no_23_24_7_8 : (edition : Edition) (m : Mark) (why : Refusal) → (mark_read edition m).answer ≡ refused why → Memᴰ why.number (23 ∷ 24 ∷ 7 ∷ 8 ∷ []) → ⊥
no_23_24_7_8 = never_23_24_7_8

-- so the refusals of a report are 3, 21, 4, 5 and 6
pub only_3_21_4_5_6 : (edition : Edition) (recording : List ℕ) → AreBits recording → (m : Mark) → Memᴰ m (marks_of recording) → (why : Refusal)
    → (mark_read edition m).answer ≡ refused why → Memᴰ why.number (3 ∷ 21 ∷ 4 ∷ 5 ∷ 6 ∷ [])
only_3_21_4_5_6 = refused_3_21_4_5_6
