-- The loop of `list_records`: a sheet that is full takes no record, and the lines of a record take at most 16 bytes for each of its own.
-- Assumes nothing.
use mathlib.Core.Path.{◌≡◌}
use mathlib.Core.Bool.{true, false}
use mathlib.Core.List.{List}
use Prim.Native.Nat.{ℕ, ◌+◌, ◌*◌, ◌<◌, ◌≤◌}
use native.Mathlib.Omega.{arith}
use lib.ListN.{length}
use borrow.Author.Tests.{le-leb, lt-leb}
use Rattle.header.specs.declared.Rules.{Rules}
use Rattle.sheet.specs.Sheets.{full_sheet}
use Rattle.walk.proofs.Scanning as scan
use Rattle.record.specs.Records.{record_size}
use Rattle.page_lines.specs.declared.Counts.{Counts}
use Rattle.page_lines.specs.Counting.{records_heard}
use Rattle.page_lines.specs.Rooms.{page_room}
use Rattle.page_listing.specs.Listing.{growth, pages_full, page_walk}
use Rattle.page_listing.proofs.Streaming.{page_sound}

pub is_full : (c : Counts) (k : ℕ) → k ≡ records_heard c → full_sheet ≤ k → pages_full c ≡ true
is_full c k heard h = le-leb full_sheet (records_heard c) (omega arith)

pub has_place : (c : Counts) (k : ℕ) → k ≡ records_heard c → k < full_sheet → pages_full c ≡ false
has_place c k heard h = lt-leb full_sheet (records_heard c) (omega arith)

pub lines_small : (n : ℕ) → page_room ≤ growth * record_size n
lines_small n = omega arith
