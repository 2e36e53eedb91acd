-- What a piece is answered, and the state after it.
-- Assumes nothing.
use mathlib.Core.Path.{◌≡◌, refl, sym, ap, ◌∙◌}
use mathlib.Core.List.{List, ◌++◌}
use Prim.Native.Nat.{ℕ, ◌+◌, ◌-◌, ◌^◌, ◌<◌, ◌≤◌}
use native.Mathlib.Nat.{le_refl}
use native.Mathlib.Omega.{arith}
use lib.ListN.{length, take, drop, length-append, length-drop}
use lib.Seq.{take_all}
use borrow.Author.Tests.{lt-ltb, le-ltb, ltb-false}
use Rattle.base.specs.declared.Refusal.{Refusal}
use Rattle.base.specs.Checks.{Exactly, refusal}
use Rattle.base.specs.Written.{Written, done, refused}
use Rattle.base.proofs.First.{first_passes}
use Rattle.base.proofs.Exactly.{exactly, done_apart, not_done}
use Rattle.base.specs.Lists.{AreBits}
use Rattle.air.specs.Air.{first_no_bit}
use Rattle.air.proofs.Bits.{no_bit_none}
use Rattle.marks.specs.declared.State.{State}
use Rattle.marks.specs.declared.Taken.{Taken}
use Rattle.marks.specs.Marked.{window_bits}
use Rattle.marks.specs.Pieces.{longest_recording, piece_checks, verdict_of, moved_on, taken_of}

module _ (total : ℕ) (piece : List ℕ) (at : ℕ) (is : at ≡ first_no_bit piece) where
  pub gives_19 : at < length piece → refused (refusal 19 at) ≡ verdict_of total piece
  unfolding verdict_of
  gives_19 h = rw (← is, lt-ltb at (length piece) h)

  pub gives_37 : length piece ≤ at → longest_recording - total < length piece → refused (refusal 37 (length piece)) ≡ verdict_of total piece
  unfolding verdict_of
  gives_37 h long = rw (← is, le-ltb at (length piece) h, lt-ltb longest_recording (total + length piece) (omega arith))

  pub accepts : length piece ≤ at → total < 2 ^ 32 → length piece ≤ longest_recording - total → done ≡ verdict_of total piece
  unfolding verdict_of
  accepts h fits short = rw (← is, le-ltb at (length piece) h, le-ltb longest_recording (total + length piece) (omega arith))

-- bits that fit are accepted
pub bits_accepted : (total : ℕ) (piece : List ℕ) → AreBits piece → total + length piece ≤ longest_recording → verdict_of total piece ≡ done
bits_accepted total piece bits fits =
    sym (accepts total piece (first_no_bit piece) refl (rw (no_bit_none piece bits) (le_refl (length piece))) (omega arith) (omega arith))

-- "given exactly when"
pub piece_exactly : (total : ℕ) (piece : List ℕ) (why : Refusal) → Exactly (verdict_of total piece) (refused why) (piece_checks total piece)
unfolding verdict_of
piece_exactly total piece why = exactly done (refused why) (piece_checks total piece) (done_apart why)

-- an accepted piece leaves the recording within the limit
pub room : (total : ℕ) (piece : List ℕ) (v : Written) → v ≡ verdict_of total piece → v ≡ done → total + length piece ≤ longest_recording
unfolding verdict_of
room total piece v e k =
    ltb-false longest_recording (total + length piece)
    (first_passes done done (piece_checks total piece) (not_done _, (not_done _, tt)) (sym e ∙ k)).1.1.0

-- the state after an accepted piece
pub after_accepted : (s : State) (piece : List ℕ) (t : Taken) → t ≡ taken_of s piece → verdict_of s.total piece ≡ done → t.state ≡ moved_on s piece
unfolding taken_of
after_accepted s piece t e k = ap (λ (x : Taken). x.state) e ∙ rw k

pub total_after : (s : State) (piece : List ℕ) → (moved_on s piece).total ≡ s.total + length piece
unfolding moved_on
total_after s piece = refl

pub stays : (s : State) (piece : List ℕ) (v : Written) (why : Refusal) → v ≡ verdict_of s.total piece → v ≡ refused why
    → record { verdict = refused why; state = s } ≡ taken_of s piece
unfolding taken_of
stays s piece v why e k = rw (← e, k)

pub moves_on : (s : State) (piece : List ℕ) (v : Written) (bits : List ℕ) (total : ℕ) → v ≡ verdict_of s.total piece → v ≡ done → length s.bits ≡ window_bits
    → bits ≡ take window_bits (drop (length piece) (s.bits ++ piece)) → total ≡ s.total + length piece
    → record { verdict = done; state = record { bits = bits; total = total } } ≡ taken_of s piece
unfolding taken_of moved_on
moves_on s piece v bits total e k long eb et =
    rw (← e, k, eb, et, take_all window_bits (drop (length piece) (s.bits ++ piece)) (simp (length-drop, length-append) (omega arith)))
