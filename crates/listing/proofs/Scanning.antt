-- The loop of `list_records`: a sheet that is full takes no record, and a line is shorter than its record.
-- Assumes nothing.
use mathlib.Core.Path.{◌≡◌}
use mathlib.Core.Bool.{true, false}
use mathlib.Core.List.{List}
use Prim.Native.Nat.{ℕ, ◌+◌, ◌*◌, ◌<◌, ◌≤◌}
use native.Mathlib.Omega.{arith}
use lib.ListN.{length, take}
use borrow.Author.Tests.{le-leb, lt-leb}
use Rattle.header.specs.declared.Rules.{Rules}
use Rattle.lines.specs.declared.Tally.{Tally}
use Rattle.lines.specs.Tallies.{total_of}
use Rattle.lines.specs.Rooms.{line_room}
use Rattle.sheet.specs.Sheets.{full_sheet}
use Rattle.text.proofs.Sizes.{part_size}
use Rattle.walk.proofs.Scanning as scan
use Rattle.record.specs.Records.{record_size}
use Rattle.listing.specs.Listing.{full_at, list_walk}
use Rattle.listing.proofs.Streaming.{list_sound}

pub is_full : (tally : Tally) (k : ℕ) → k ≡ total_of tally → full_sheet ≤ k → full_at tally ≡ true
is_full tally k heard h = le-leb full_sheet (total_of tally) (omega arith)

pub has_place : (tally : Tally) (k : ℕ) → k ≡ total_of tally → k < full_sheet → full_at tally ≡ false
has_place tally k heard h = lt-leb full_sheet (total_of tally) (omega arith)

pub line_small : (n : ℕ) → line_room ≤ 1 * record_size n
line_small n = omega arith

-- the first n bytes have room where n bytes have
pub part_fits : (l : List ℕ) (n : ℕ) → n ≤ length l → (room : ℕ) → n ≤ room → 0 + length (take n l) ≤ room
part_fits l n inside room h = omega (arith, part_size l n inside)
