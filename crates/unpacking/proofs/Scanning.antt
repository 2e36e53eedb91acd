-- The room of a line in the loop of `unpack_records`.
-- Assumes nothing.
use mathlib.Core.Path.{◌≡◌}
use Prim.Native.Nat.{ℕ, ◌+◌, ◌*◌, ◌≤◌}
use native.Mathlib.Omega.{arith}
use Rattle.air.specs.Air.{air_bits}
use Rattle.record.specs.Records.{record_size}

-- a line is at most twice as long as its record
pub line_small : (h p n : ℕ) → h ≡ air_bits → p ≡ n → 2 * h + (2 * p + 2) ≤ 2 * record_size n
line_small h p n head body = omega arith
