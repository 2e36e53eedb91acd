-- An answer that is counted.
-- Assumes nothing.
use mathlib.Core.Path.{◌≡◌}
use Prim.Native.Nat.{ℕ, ◌+◌}
use native.Mathlib.Omega.{arith}
use Rattle.std.specs.Prelude.{Ok, Err}
use Rattle.base.specs.declared.Refusal.{Refusal}
use Rattle.header.specs.declared.Header.{Header}
use Rattle.header.specs.Answers.{Answer, accepted, refused}
use Rattle.lines.specs.declared.Tally.{Tally}
use Rattle.lines.specs.Tallies.{total_of, tally_after}

-- an answer adds one to its count
module _ (tally : Tally) (a : Answer) where
  pub counts_accepted : (h : Header) (flips : ℕ) → a ≡ accepted h flips → ◌≡◌ {A = Tally} (record { accepted = tally.accepted + 1; refused = tally.refused }) (tally_after tally a)
  counts_accepted h flips e = rw e

  pub counts_refused : (why : Refusal) → a ≡ refused why → ◌≡◌ {A = Tally} (record { accepted = tally.accepted; refused = tally.refused + 1 }) (tally_after tally a)
  counts_refused why e = rw e

-- and one to all of them
pub counts_one : (tally : Tally) (a : Answer) → total_of (tally_after tally a) ≡ total_of tally + 1
counts_one tally (Ok a) = omega arith
counts_one tally (Err why) = omega arith
