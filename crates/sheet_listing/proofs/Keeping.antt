-- A piece in a buffer: its records are counted, and what is left of it is kept at the buffer's front.
-- Assumes nothing.
use mathlib.Core.Path.{◌≡◌}
use mathlib.Core.Bool.{false}
use mathlib.Core.List.{List, []}
use Prim.Native.Nat.{ℕ, ◌+◌, ◌-◌, ◌<◌, ◌≤◌}
use native.Mathlib.Omega.{arith}
use lib.ListN.{length, take}
use Rattle.header.specs.declared.Rules.{Rules}
use Rattle.air.specs.Air.{payload_limit}
use Rattle.walk.specs.Walks.{walk_of}
use Rattle.walk.proofs.Keeping as keeping
use Rattle.record.specs.Records.{record_size}
use Rattle.record.specs.Walks.{ended_as, over_of}
use Rattle.record.proofs.Walking.{waits_short, not_over}
use Rattle.wide_sheet.specs.Wide.{WideSheet}
use Rattle.lines.specs.declared.Tally.{Tally}
use Rattle.sheet_listing.specs.declared.Counted.{Counted}
use Rattle.sheet_listing.specs.Pieces.{sheet_reading, sheet_walk}
use Rattle.sheet_listing.specs.Promises.{held_totals, Walked, Turns}
use Rattle.sheet_listing.proofs.TakenFrames.{sheet_sound}

module _ (rules : Rules) (start : WideSheet) (tally : Tally) (buf : List ℕ) (end : ℕ) (inside : end ≤ length buf) (r : Counted) (so : Walked rules start tally (take end buf) r) where
  -- what is left is within the piece
  pub left_inside : r.left ≤ end
  left_inside = keeping.rest_inside (sheet_walk rules) (sheet_sound rules) (held_totals start tally) buf end inside r.left so.left_is

-- and then stands at the buffer's front
pub rest_kept : (rules : Rules) (start : WideSheet) (tally : Tally) (buf : List ℕ) (end : ℕ) → end ≤ length buf → (buf' : List ℕ) (r : Counted) → Turns rules start tally buf end buf' r
    → take r.left buf' ≡ (walk_of (sheet_walk rules) (held_totals start tally) (take end buf)).rest
rest_kept rules start tally buf end inside buf' r turned =
    keeping.rest_moved (sheet_walk rules) (sheet_sound rules) (held_totals start tally) buf end inside r.left turned.walked.left_is buf' turned.kept

-- where the sheet is not over, what is left is shorter than the longest record
pub left_short : (rules : Rules) (start : WideSheet) (tally : Tally) (l : List ℕ) (r : Counted) → Walked rules start tally l r → over_of r.ending ≡ false → r.left < record_size payload_limit
left_short rules start tally l r so e =
    keeping.left_short (sheet_walk rules) (sheet_sound rules) (held_totals start tally) (record_size payload_limit) (waits_short (sheet_reading rules)) l r.left (ended_as r.ending) so.left_is
    so.ended_is (not_over r.ending e)
