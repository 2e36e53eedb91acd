-- What is taken of the bits that were read, and why no more is.
-- Assumes nothing.
use Rattle.std.specs.Prelude.{None, Some, cond, List, ℕ, ◌+◌, ◌-◌, ltb, length, take}
use Rattle.base.specs.Checks.{refusal}
use Rattle.air.specs.Air.{first_no_bit}
use Rattle.marks.specs.declared.State.{State}
use Rattle.marks.specs.Pieces.{longest_recording, moved_on}
use Rattle.reporting.specs.declared.Taking.{Taking}
use Rattle.lines.specs.Recordings.{Stop}

-- how many of n bits fit a recording of so many
abbrev pub fitting_of : ℕ → ℕ → ℕ
fitting_of total n = cond (ltb (longest_recording - total) n) (longest_recording - total) n

-- and how many of them are taken: those before the first element above 1
abbrev pub front_of : ℕ → List ℕ → ℕ
front_of total bits = first_no_bit (take (fitting_of total (length bits)) bits)

-- "stopped 19 INDEX", the first byte not taken; "stopped 37 4294967295", whatever that byte is
abbrev pub stop_after : ℕ → ℕ → ℕ → ℕ → Stop
stop_after total n fits bits = cond (ltb n fits) (Some (refusal 19 (total + n))) (cond (ltb fits bits) (Some (refusal 37 longest_recording)) None)

-- why no more of some bits is taken, after so many
abbrev pub why_no_more : ℕ → List ℕ → Stop
why_no_more total bits = stop_after total (front_of total bits) (fitting_of total (length bits)) (length bits)

-- and what is taken of them
abbrev pub taken_bits : ℕ → List ℕ → List ℕ
taken_bits total bits = take (front_of total bits) bits

unfoldable pub taking_of : State → List ℕ → Taking
taking_of s bits = record { n = front_of s.total bits; state = moved_on s (taken_bits s.total bits); stop = why_no_more s.total bits }
