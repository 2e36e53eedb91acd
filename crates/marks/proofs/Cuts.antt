-- "However the recording is cut, the reports are those of the whole."
-- Assumes nothing.
use mathlib.Core.Path.{◌≡◌, refl, sym, ap, ◌∙◌}
use mathlib.Core.List.{List, [], ◌∷◌, ◌++◌, append_assoc, append-nil}
use Prim.Native.Nat.{ℕ, ◌+◌, ◌-◌, ◌≤◌}
use Rattle.std.specs.Prelude.{Ok, Err}
use native.Mathlib.Omega.{arith}
use lib.ListN.{length, drop, replicate, length-append, length-drop, length-replicate}
use lib.Seq.{drop-append-le, drop-append-add, drop-drop}
use Rattle.marks.specs.declared.Mark.{Mark}
use Rattle.marks.specs.declared.State.{State}
use Rattle.base.specs.Written.{Written}
use Rattle.marks.specs.Marked.{window_bits, marks_from, marks_of}
use Rattle.marks.specs.Pieces.{fresh_state, moved_on, grown, verdict_of, after_by, marks_at, marks_by, bits_by, all_marks, all_after, all_bits}
use Rattle.marks.proofs.Whole.{later, cut}

-- the zeros before the first bit
abbrev zeros : List ℕ
zeros = replicate window_bits 0

zeros_long : length zeros ≡ window_bits
zeros_long = length-replicate {A = ℕ} window_bits 0

module _ (before done piece : List ℕ) (long : length before ≡ window_bits) where
  kept_long : length (drop (length done) (before ++ done)) ≡ window_bits
  kept_long = simp (length-drop, length-append) (omega arith)

  -- what is kept from index k on is the recording from place p on
  kept_from : (p k : ℕ) → k ≤ window_bits → length done + k ≡ window_bits + p → drop k (drop (length done) (before ++ done) ++ piece) ≡ drop p done ++ piece
  kept_from p k h e =
      drop-append-le k (drop (length done) (before ++ done)) piece (omega (arith, kept_long))
      ∙ ap (λ (l : List ℕ). l ++ piece)
      (drop-drop k (length done) (before ++ done)
      ∙ ap (λ (n : ℕ). drop n (before ++ done)) (e ∙ ap (λ (n : ℕ). n + p) (sym long))
      ∙ drop-append-add before done p)

  -- the state moves on
  kept_on : drop (length piece) (drop (length done) (before ++ done) ++ piece) ≡ drop (length (done ++ piece)) (before ++ (done ++ piece))
  kept_on =
      ap (drop (length piece)) (sym (drop-append-le (length done) (before ++ done) piece (omega (arith, length-append before done))))
      ∙ drop-drop (length piece) (length done) ((before ++ done) ++ piece)
      ∙ rw (append_assoc, length-append done piece)

new_marks : (done piece : List ℕ) → marks_at (grown done) piece 0 ≡ later (length done - (window_bits - 1)) 0 done piece
unfolding marks_at grown
new_marks done piece =
    let e : length done + 0 - (window_bits - 1) ≡ length done - (window_bits - 1) = omega arith in
    let e₀ : 0 + (length done - (window_bits - 1)) ≡ length done - (window_bits - 1) = omega arith in
    rw (e, e₀, kept_from zeros done piece zeros_long (length done - (window_bits - 1)) (length done - (window_bits - 1) + window_bits - length done) (omega arith) (omega arith))

pub grows : (done piece : List ℕ) → moved_on (grown done) piece ≡ grown (done ++ piece)
unfolding moved_on grown
grows done piece = rw (kept_on zeros done piece zeros_long, length-append done piece)

pub starts : fresh_state ≡ grown []
unfolding fresh_state grown
starts = rw (append-nil zeros)

pub grown_total : (done : List ℕ) → (grown done).total ≡ length done
unfolding grown
grown_total done = refl

-- one piece
pub marks_grow : (done piece : List ℕ) → marks_of (done ++ piece) ≡ marks_of done ++ marks_at (grown done) piece 0
marks_grow done piece = cut 0 done piece ∙ ap (λ (ms : List Mark). marks_of done ++ ms) (sym (new_marks done piece))

by_verdict_lem : (v : Written) (done piece : List ℕ) → marks_of (done ++ bits_by v piece) ≡ marks_of done ++ marks_by v (grown done) piece
by_verdict_lem (Ok u) done piece = marks_grow done piece
by_verdict_lem (Err why) done piece = rw (append-nil done, append-nil (marks_of done))

grows_by : (v : Written) (done piece : List ℕ) → after_by v (grown done) piece ≡ grown (done ++ bits_by v piece)
grows_by (Ok u) done piece = grows done piece
grows_by (Err why) done piece = rw (append-nil done)

-- many pieces, after a first part
next_piece : (v : Written) (done piece : List ℕ) (pieces : List (List ℕ))
    → marks_of ((done ++ bits_by v piece) ++ all_bits (grown (done ++ bits_by v piece)) pieces)
    ≡ marks_of (done ++ bits_by v piece) ++ all_marks (grown (done ++ bits_by v piece)) pieces
    → marks_of (done ++ (bits_by v piece ++ all_bits (after_by v (grown done) piece) pieces))
    ≡ marks_of done ++ (marks_by v (grown done) piece ++ all_marks (after_by v (grown done) piece) pieces)
next_piece v done piece pieces ih =
    rw (
      grows_by v done piece,
      ← (append_assoc done (bits_by v piece) (all_bits (grown (done ++ bits_by v piece)) pieces)),
      ← (append_assoc (marks_of done) (marks_by v (grown done) piece) (all_marks (grown (done ++ bits_by v piece)) pieces)),
      ← (by_verdict_lem v done piece),
    )
    ih

pub marks_after : (done : List ℕ) (pieces : List (List ℕ)) → marks_of (done ++ all_bits (grown done) pieces) ≡ marks_of done ++ all_marks (grown done) pieces
unfolding all_bits all_marks
marks_after done [] = rw (append-nil done, append-nil (marks_of done))
marks_after done (piece ∷ pieces) =
    let v : Written = verdict_of (grown done).total piece in
    next_piece v done piece pieces (marks_after (done ++ bits_by v piece) pieces)

pub state_after_lem : (done : List ℕ) (pieces : List (List ℕ)) → all_after (grown done) pieces ≡ grown (done ++ all_bits (grown done) pieces)
unfolding all_bits all_after
state_after_lem done [] = rw (append-nil done)
state_after_lem done (piece ∷ pieces) =
    let v : Written = verdict_of (grown done).total piece in
    ap (λ (s : State). all_after s pieces) (grows_by v done piece)
    ∙ state_after_lem (done ++ bits_by v piece) pieces
    ∙ ap grown (append_assoc done (bits_by v piece) (all_bits (grown (done ++ bits_by v piece)) pieces)
    ∙ ap (λ (s : State). done ++ (bits_by v piece ++ all_bits s pieces)) (sym (grows_by v done piece)))

-- "However the recording is cut, the reports are those of the whole."
pub however_cut : (pieces : List (List ℕ)) → all_marks fresh_state pieces ≡ marks_of (all_bits fresh_state pieces)
unfolding marks_from
however_cut pieces = rw starts (sym (marks_after [] pieces))

-- "the last 242 bits are kept between pieces"
pub however_kept : (pieces : List (List ℕ)) → all_after fresh_state pieces ≡ grown (all_bits fresh_state pieces)
however_kept pieces = rw starts (state_after_lem [] pieces)

-- before the first piece
pub no_marks : (s : State) → all_marks s [] ≡ []
unfolding all_marks
no_marks s = refl

pub none_marked : marks_of [] ≡ []
unfolding marks_from
none_marked = refl
