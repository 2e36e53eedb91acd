-- A program that offers one piece after the other, and asks for the marks of each that is accepted, gets those of the whole recording.
-- Assumes nothing.
use mathlib.Core.Path.{◌≡◌, refl, ap, ◌∙◌}
use mathlib.Core.List.{List, [], ◌∷◌, ◌++◌, flatten}
use mathlib.Core.Logic.{⊎_elim}
use Prim.Native.Nat.{ℕ, ◌+◌, ◌≤◌, ◌<◌}
use Rattle.std.specs.Prelude.{Ok, Err}
use native.Mathlib.Omega.{arith}
use lib.ListN.{length, length-append, length-drop, length-replicate, get_or-append, get_or-eq_default}
use lib.Dec.{lit<}
use lib.Seq.{get_or-append-add}
use Rattle.base.specs.Lists.{AreBits}
use Rattle.base.proofs.Tests.{lt_or_ge}
use Rattle.base.specs.Written.{Written, done, refused}
use Rattle.base.specs.declared.Refusal.{Refusal}
use Rattle.marks.specs.declared.Mark.{Mark}
use Rattle.marks.specs.declared.State.{State}
use Rattle.marks.specs.Marked.{window_bits, marks_of}
use Rattle.marks.specs.Pieces.{longest_recording, fresh_state, moved_on, verdict_of, taken_of, marks_at, all_marks, all_after, all_bits}
use Rattle.marks.specs.Reports.{Run, over, passed, taken}
use Rattle.marks.proofs.Verdicts.{room, bits_accepted, total_after}
use Rattle.marks.proofs.Asked.{got_all, something_got}
use Rattle.marks.proofs.Cuts.{however_cut}

pub stays_long : (s : State) (piece : List ℕ) → length s.bits ≡ window_bits → length (moved_on s piece).bits ≡ window_bits
unfolding moved_on
stays_long s piece long = simp (length-drop, length-append) (omega arith)

pub fresh_long : length fresh_state.bits ≡ window_bits
unfolding fresh_state
fresh_long = length-replicate {A = ℕ} window_bits 0

run_all : (s : State) (pieces : List (List ℕ)) (ms : List Mark) → length s.bits ≡ window_bits → Run s pieces ms → ms ≡ all_marks s pieces
unfolding all_marks
run_all s [] ms long over = refl
run_all s (piece ∷ pieces) ms long (passed e run) = rw e (run_all s pieces ms long run)
run_all s (piece ∷ pieces) ms long (taken {gs = gs} {ms = ns} e got run) =
    rw (
      e,
      got_all s piece long (room s.total piece (verdict_of s.total piece) refl e) 0 gs got,
      run_all (moved_on s piece) pieces ns (stays_long s piece long) run,
    )

-- "However the recording is cut, the reports are those of the whole."
pub however_run : (pieces : List (List ℕ)) (ms : List Mark) → Run fresh_state pieces ms → ms ≡ marks_of (all_bits fresh_state pieces)
however_run pieces ms run = run_all fresh_state pieces ms fresh_long run ∙ however_cut pieces

-- A RUN EXISTS for every list of pieces
pub record Ran (s : State) (pieces : List (List ℕ)) : Type 0 where
  pub marks : List Mark
  pub run : Run s pieces marks

runs : (s : State) (pieces : List (List ℕ)) → length s.bits ≡ window_bits → Ran s pieces
runs s [] long = record { marks = []; run = over }
runs s (piece ∷ pieces) long =
    by (runs s pieces long) (runs (moved_on s piece) pieces (stays_long s piece long)) (verdict_of s.total piece) refl
  where
    by : Ran s pieces → Ran (moved_on s piece) pieces → (v : Written) → verdict_of s.total piece ≡ v → Ran s (piece ∷ pieces)
    by without with (Ok u) e =
        let asked = something_got s piece long 0 in
        record { marks = asked.marks ++ with.marks; run = taken e asked.got with.run }
    by without with (Err why) e = record { marks = without.marks; run = passed e without.run }

pub a_run_exists : (pieces : List (List ℕ)) → Ran fresh_state pieces
a_run_exists pieces = runs fresh_state pieces fresh_long

-- bits in front and behind
bits_front : (l m : List ℕ) → AreBits (l ++ m) → AreBits l
bits_front l m bits k =
    ⊎_elim
    (λ (h : k < length l). rw (get_or-append l m 0 k h) at (bits k))
    (λ (h : length l ≤ k). rw (get_or-eq_default l 0 {n = k} h) (lit< tt))
    (lt_or_ge k (length l))

bits_back : (l m : List ℕ) → AreBits (l ++ m) → AreBits m
bits_back l m bits k = rw (get_or-append-add l m k 0) at (bits (length l + k))

-- a recording of bits that is not too long is taken whole, however it is cut
all_taken : (s : State) (pieces : List (List ℕ)) → AreBits (flatten pieces) → s.total + length (flatten pieces) ≤ longest_recording → all_bits s pieces ≡ flatten pieces
unfolding all_bits flatten
all_taken s [] bits room = refl
all_taken s (piece ∷ pieces) bits room =
    let both : length (piece ++ flatten pieces) ≡ length piece + length (flatten pieces) = length-append piece (flatten pieces) in
    let accepted : verdict_of s.total piece ≡ done = bits_accepted s.total piece (bits_front piece (flatten pieces) bits) (omega arith) in
    rw accepted
    (ap (λ (l : List ℕ). piece ++ l) (all_taken (moved_on s piece) pieces (bits_back piece (flatten pieces) bits) (rw (total_after s piece) (omega arith))))

pub whole_taken : (pieces : List (List ℕ)) → AreBits (flatten pieces) → length (flatten pieces) ≤ longest_recording → all_bits fresh_state pieces ≡ flatten pieces
unfolding fresh_state
whole_taken pieces bits room = all_taken fresh_state pieces bits (omega arith)

-- what a refused piece leaves: the state, and all that comes after it
pub record LeftOut (s : State) (piece : List ℕ) (why : Refusal) (pieces : List (List ℕ)) : Type 0 where
  pub answer : taken_of s piece ≡ record { verdict = refused why; state = s }
  pub marks : all_marks s (piece ∷ pieces) ≡ all_marks s pieces
  pub state : all_after s (piece ∷ pieces) ≡ all_after s pieces
  pub bits : all_bits s (piece ∷ pieces) ≡ all_bits s pieces

pub left_out : (s : State) (piece : List ℕ) (why : Refusal) (pieces : List (List ℕ)) → verdict_of s.total piece ≡ refused why → LeftOut s piece why pieces
unfolding taken_of all_marks all_after all_bits
left_out s piece why pieces e = record { answer = rw e; marks = rw e; state = rw e; bits = rw e }

-- an accepted piece adds its marks
pub marks_more : (s : State) (piece : List ℕ) (pieces : List (List ℕ)) → verdict_of s.total piece ≡ done → all_marks s (piece ∷ pieces) ≡ marks_at s piece 0 ++ all_marks (moved_on s piece) pieces
unfolding all_marks
marks_more s piece pieces e = rw e
