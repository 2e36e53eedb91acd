-- What is taken of the bits that were read: those before the first that cannot be taken, which are accepted.
-- Assumes nothing.
use mathlib.Core.Path.{◌≡◌, refl, sym, ap, ◌∙◌}
use mathlib.Core.Bool.{Bool, true, false, cond}
use mathlib.Core.List.{List}
use Prim.Native.Nat.{ℕ, ◌+◌, ◌-◌, ◌^◌, ◌<◌, ◌≤◌}
use native.Mathlib.Omega.{arith}
use lib.Dec.{ltb}
use lib.ListN.{length, take}
use lib.Seq.{take-take}
use borrow.Author.Tests.{ltb-true, ltb-false}
use Rattle.base.specs.Lists.{AreBits}
use Rattle.base.specs.Written.{done}
use Rattle.air.specs.Air.{first_no_bit}
use Rattle.air.proofs.Bits.{no_bit_le, bits_before}
use Rattle.text.proofs.Sizes.{part_size}
use Rattle.marks.specs.declared.State.{State}
use Rattle.marks.specs.declared.Taken.{Taken}
use Rattle.marks.specs.Pieces.{longest_recording, verdict_of, taken_of, moved_on}
use Rattle.marks.proofs.Verdicts.{bits_accepted, after_accepted, total_after}
use Rattle.reporting.specs.declared.Taking.{Taking}
use Rattle.reporting.specs.Takings.{fitting_of, front_of, stop_after, why_no_more, taken_bits, taking_of}
use Rattle.lines.specs.Recordings.{Stop}

-- no more than were read fit, and no more than the recording takes
fitting_le : (total n : ℕ) → (fitting_of total n ≤ n) × (fitting_of total n ≤ longest_recording - total)
fitting_le total n = go (ltb (longest_recording - total) n) refl
  where
    go : (b : Bool) → ltb (longest_recording - total) n ≡ b → (cond b (longest_recording - total) n ≤ n) × (cond b (longest_recording - total) n ≤ longest_recording - total)
    go true e = (omega (arith, ltb-true (longest_recording - total) n e), omega arith)
    go false e = (omega arith, ltb-false (longest_recording - total) n e)

module _ (total : ℕ) (bits : List ℕ) (fits : ℕ) (is : fits ≡ fitting_of total (length bits)) where
  pub fits_size : fits ≡ length (take fits bits)
  fits_size = part_size bits fits (omega (arith, is, (fitting_le total (length bits)).0))

  module _ (n : ℕ) (front : n ≡ first_no_bit (take fits bits)) where
    front_le : n ≤ fits
    front_le = omega (arith, front, no_bit_le (take fits bits), fits_size)

    pub front_size : n ≡ length (take n bits)
    front_size = part_size bits n (omega (arith, front_le, is, (fitting_le total (length bits)).0))

    pub front_room : total < 2 ^ 32 → total + n ≤ longest_recording
    front_room fit = omega (arith, front_le, is, (fitting_le total (length bits)).1)

    front_bits : AreBits (take n bits)
    front_bits = rw (front, ← (take-take (first_no_bit (take fits bits)) fits bits (omega (arith, front_le, front)))) (bits_before (take fits bits))

    accepted : total < 2 ^ 32 → verdict_of total (take n bits) ≡ done
    accepted fit = bits_accepted total (take n bits) front_bits (omega (arith, front_room fit, front_size))

pub takes_front : (s : State) (bits : List ℕ) (fits n : ℕ) (t : Taken) (stop : Stop) → s.total < 2 ^ 32 → fits ≡ fitting_of s.total (length bits)
    → n ≡ first_no_bit (take fits bits) → t ≡ taken_of s (take n bits) → stop ≡ stop_after s.total n fits (length bits)
    → record { n = n; state = t.state; stop = stop } ≡ taking_of s bits
unfolding taking_of
takes_front s bits fits n t stop fit is front taken why =
    rw (after_accepted s (take n bits) t taken (accepted s.total bits fits is n front fit), why, front, is)

-- WHAT IS TAKEN, by the answer of `take_front`
module _ (s : State) (bits : List ℕ) (r : Taking) (is : r ≡ taking_of s bits) where
  pub taken_front : r.n ≡ front_of s.total bits
  unfolding taking_of
  taken_front = ap (λ (t : Taking). t.n) is

  pub taken_size : r.n ≡ length (take r.n bits)
  taken_size = front_size s.total bits (fitting_of s.total (length bits)) refl r.n taken_front

  pub taken_room : s.total < 2 ^ 32 → s.total + length (take r.n bits) ≤ longest_recording
  taken_room fit = omega (arith, front_room s.total bits (fitting_of s.total (length bits)) refl r.n taken_front fit, taken_size)

  pub taken_state : r.state ≡ moved_on s (taken_bits s.total bits)
  unfolding taking_of
  taken_state = ap (λ (t : Taking). t.state) is

  pub taken_stop : r.stop ≡ why_no_more s.total bits
  unfolding taking_of
  taken_stop = ap (λ (t : Taking). t.stop) is

  pub taken_total : r.state.total ≡ s.total + length (take r.n bits)
  taken_total =
      ap (λ (x : State). x.total) taken_state ∙ total_after s (taken_bits s.total bits) ∙ ap (λ (n : ℕ). s.total + length (take n bits)) (sym taken_front)
