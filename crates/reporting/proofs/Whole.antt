-- However a recording is cut, and however often lines are written, what is written is the text of the whole. And something is: for pieces that are accepted one after the
-- other there is a search.
-- Assumes nothing.
use mathlib.Core.Path.{◌≡◌, sym, ap, ◌∙◌}
use mathlib.Core.List.{List, [], ◌∷◌, ◌++◌, append-nil}
use Prim.Native.Nat.{ℕ, ◌≤◌, zero-le}
use lib.ListN.{length, take}
use Rattle.base.specs.declared.Edition.{Edition}
use Rattle.text.proofs.Laid.{put_front}
use Rattle.marks.specs.declared.Mark.{Mark}
use Rattle.marks.specs.declared.State.{State}
use Rattle.marks.specs.Marked.{window_bits}
use Rattle.marks.specs.Pieces.{moved_on, marks_at, fresh_state, all_marks, all_bits}
use Rattle.marks.proofs.Cuts.{however_cut, no_marks}
use Rattle.marks.proofs.Runs.{fresh_long, stays_long, marks_more}
use Rattle.marks.proofs.Verdicts.{total_after}
use Rattle.lines.specs.declared.Tally.{Tally}
use Rattle.lines.specs.Tallies.{nothing_heard, total_of}
use Rattle.lines.specs.Recordings.{Stop, heading, ending_of}
use Rattle.reporting.specs.Texts.{lines_of, tally_over, search_of}
use Rattle.reporting.specs.Searches.{Tells, last, more, Searches, over, taken, AllAccepted}
use Rattle.reporting.proofs.Telling.{lines_append, tally_append, lines_none, tally_none}
use Rattle.reporting.proofs.LineByLine.{piece_told}

-- the lines and the tally of some marks
pub record Of (edition : Edition) (tally : Tally) (ms : List Mark) (text : List ℕ) (after : Tally) : Type 0 where
  pub lines : text ≡ lines_of edition ms
  pub tallied : after ≡ tally_over edition tally ms

joined : (edition : Edition) (tally between after : Tally) (ms ns : List Mark) (text rest : List ℕ) → Of edition tally ms text between → Of edition between ns rest after
    → Of edition tally (ms ++ ns) (text ++ rest) after
joined edition tally between after ms ns text rest one two = record {
  lines = rw (lines_append edition ms ns, ← one.lines, ← two.lines);
  tallied = two.tallied ∙ ap (λ (t : Tally). tally_over edition t ns) one.tallied ∙ sym (tally_append edition tally ms ns);
}

-- one piece
told : (edition : Edition) (s : State) (piece : List ℕ) (at : ℕ) (tally : Tally) (text : List ℕ) (after : Tally) → Tells edition s piece at tally text after
    → Of edition tally (marks_at s piece at) text after
told edition s piece at tally text after (last {r = r} put none) =
    rw (put.split, put.over none, append-nil put.given) (record { lines = put_front put.text; tallied = put.counted })
told edition s piece at tally text after (more {out' = out'} {text = rest} {r = r} put tells) =
    rw put.split
    (joined edition tally r.tally after put.given (marks_at s piece r.at) (take r.to out') rest (record { lines = put_front put.text; tallied = put.counted })
    (told edition s piece r.at r.tally rest after tells))

-- all pieces
all_told : (edition : Edition) (s : State) (tally : Tally) (pieces : List (List ℕ)) (text : List ℕ) (after : Tally) → Searches edition s tally pieces text after
    → Of edition tally (all_marks s pieces) text after
all_told edition s tally [] text after over = rw (no_marks s) (record { lines = lines_none edition; tallied = tally_none edition tally })
all_told edition s tally (piece ∷ pieces) text after (taken {between = between} {text = front} {rest = rest} e tells searches) =
    rw (marks_more s piece pieces e)
    (joined edition tally between after (marks_at s piece 0) (all_marks (moved_on s piece) pieces) front rest (told edition s piece 0 tally front between tells)
    (all_told edition (moved_on s piece) between pieces rest after searches))

pub whole_search : (edition : Edition) (pieces : List (List ℕ)) (text : List ℕ) (after : Tally) (stop : Stop) → Searches edition fresh_state nothing_heard pieces text after
    → heading ++ text ++ ending_of (length (all_bits fresh_state pieces)) after stop ≡ search_of edition (all_bits fresh_state pieces) stop
unfolding search_of
whole_search edition pieces text after stop searches =
    let all : Of edition nothing_heard (all_marks fresh_state pieces) text after = all_told edition fresh_state nothing_heard pieces text after searches in
    rw (all.lines, all.tallied, however_cut pieces)

-- A SEARCH EXISTS for pieces that are accepted one after the other
pub record Searched (edition : Edition) (s : State) (tally : Tally) (pieces : List (List ℕ)) : Type 0 where
  pub text : List ℕ
  pub after : Tally
  pub searches : Searches edition s tally pieces text after

searches_on : (edition : Edition) (s : State) (tally : Tally) (pieces : List (List ℕ)) → length s.bits ≡ window_bits → total_of tally ≤ s.total → AllAccepted s pieces
    → Searched edition s tally pieces
searches_on edition s tally [] long few all = record { text = []; after = tally; searches = over }
searches_on edition s tally (piece ∷ pieces) long few all =
    let here = piece_told edition s piece tally long all.0 few in
    let rest = searches_on edition (moved_on s piece) here.after pieces (stays_long s piece long) (rw (total_after s piece) here.few) all.1 in
    record { text = here.text ++ rest.text; after = rest.after; searches = taken all.0 here.tells rest.searches }

pub a_search_exists : (edition : Edition) (pieces : List (List ℕ)) → AllAccepted fresh_state pieces → Searched edition fresh_state nothing_heard pieces
a_search_exists edition pieces = searches_on edition fresh_state nothing_heard pieces fresh_long zero-le
