-- What `keep` leaves: bytes copied over the front, and what then stands there.
-- Assumes nothing.
use mathlib.Core.Path.{◌≡◌}
use mathlib.Core.List.{List}
use Prim.Native.Nat.{ℕ, ◌+◌, ◌-◌}
use native.Mathlib.Omega.{arith}
use lib.ListN.{drop}
use lib.Seq.{paste}
use Rattle.walk.specs.Moves.{Moved}

pub kept_at_front : (l m : List ℕ) (from n : ℕ) → m ≡ paste l 0 (drop from l) (from + n - from) → Moved l from n m
kept_at_front l m from n e =
    let many : from + n - from ≡ n = omega arith in
    let start : 0 + n ≡ n = omega arith in
    record { bytes = rw (many, start) at e }
