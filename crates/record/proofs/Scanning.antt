-- The loop of a function that walks over records and puts texts, by what stands at the front of the rest.
-- Assumes nothing.
use mathlib.Core.Path.{◌≡◌, sym}
use mathlib.Core.Bool.{Bool, true, false}
use mathlib.Core.List.{List, []}
use Prim.Native.Nat.{ℕ, ◌+◌, ◌*◌, ◌<◌, ◌≤◌, zero-le}
use native.Mathlib.Omega.{arith}
use lib.ListN.{length}
use Rattle.text.specs.Text.{Put}
use Rattle.text.proofs.Laid.{put_none}
use Rattle.walk.specs.Walks.{whole, stopped, waiting}
use Rattle.walk.specs.Scans.{Scanned}
use Rattle.walk.proofs.Scanning as scan
use Rattle.record.specs.declared.Cut.TheVariants.{Record, TooLong, Short}
use Rattle.record.specs.declared.Parts.{Parts}
use Rattle.record.specs.declared.Ending.TheVariants.{Full, TooLong as LongLength}
use Rattle.record.specs.Records.{record_size, cut_of}
use Rattle.record.specs.Parts.{PartsIn}
use Rattle.record.specs.Walks.{Reading, record_walk}
use Rattle.record.proofs.Walking.{record_sound, at_long, at_short, at_full, at_whole}

-- what holds at each turn, and before the first
module _ {S : Type 0} (reading : Reading S) (growth : ℕ) where
  abbrev pub Scanning : S → List ℕ → List ℕ → ℕ → List ℕ → S → List ℕ → ℕ → Type 0
  Scanning = scan.Scanning (record_walk reading) (record_sound reading) growth

  pub starts : (s : S) (l before : List ℕ) (at : ℕ) → at + growth * length l ≤ length before → Scanning s l before at before s l at
  starts = scan.starts (record_walk reading) (record_sound reading) growth

module _ {S : Type 0} (reading : Reading S) {growth : ℕ} {start : S} {l before : List ℕ} {at : ℕ} {out : List ℕ} {s : S} {rest : List ℕ} {to : ℕ}
    (so : Scanning reading growth start l before at out s rest to) where
  pub stops_long : TooLong ≡ cut_of rest → Scanned (record_walk reading) growth start l before at out s (length rest) to (stopped LongLength)
  stops_long e = scan.scan_ends (record_walk reading) (record_sound reading) growth start l before at out s rest to so (stopped LongLength) (at_long reading s rest (sym e))

  pub stops_short : Short ≡ cut_of rest → Scanned (record_walk reading) growth start l before at out s (length rest) to waiting
  stops_short e = scan.scan_ends (record_walk reading) (record_sound reading) growth start l before at out s rest to so waiting (at_short reading s rest (sym e))

  module _ {n : ℕ} (e : Record n ≡ cut_of rest) where
    pub stops_full : reading.full s ≡ true → Scanned (record_walk reading) growth start l before at out s (length rest) to (stopped Full)
    stops_full g = scan.scan_ends (record_walk reading) (record_sound reading) growth start l before at out s rest to so (stopped Full) (at_full reading s rest n (sym e) g)

    module _ {parts : Parts} (is : PartsIn n rest parts) (room : reading.full s ≡ false) where
      item : (record_walk reading).cut s rest ≡ whole n
      item = at_whole reading s rest n (sym e) room

      -- less is left behind the record
      pub less : length parts.rest.now < length rest
      less = rw is.rest_is (scan.less (record_walk reading) (record_sound reading) growth start l before at out s rest to so n item)

      -- its text has room
      pub has_room : (most : ℕ) → most ≤ growth * record_size n → to + most ≤ length out
      has_room = scan.has_room (record_walk reading) (record_sound reading) growth start l before at out s rest to so n item

      pub goes_on : (most : ℕ) → most ≤ growth * record_size n → (kept : S) → kept ≡ reading.next s parts.header.now parts.payload.now → (out' : List ℕ) (to' : ℕ)
          → Put out to (reading.text s parts.header.now parts.payload.now) out' to' → to' ≤ to + most → Scanning reading growth start l before at out' kept parts.rest.now to'
      goes_on most short kept after out' to' put within =
          rw is.rest_is
          (scan.goes_on (record_walk reading) (record_sound reading) growth start l before at out s rest to so n item most short kept
          (rw (← is.header_is, ← is.payload_is) after) out' to' (rw (← is.header_is, ← is.payload_is) put) within)

-- A walk that puts nothing, as one that puts no text into no room
module _ {S : Type 0} (reading : Reading S) where
  abbrev pub Counting : S → List ℕ → S → List ℕ → Type 0
  Counting start l s rest = Scanning reading 0 start l [] 0 [] s rest 0

  pub counts_from : (start : S) (l : List ℕ) → Counting start l start l
  counts_from start l = starts reading 0 start l [] 0 (omega arith)

  pub counts_on : {start : S} {l : List ℕ} {s : S} {rest : List ℕ} → Counting start l s rest → {n : ℕ} → Record n ≡ cut_of rest → {parts : Parts} → PartsIn n rest parts → reading.full s ≡ false
      → reading.text s parts.header.now parts.payload.now ≡ [] → (kept : S) → kept ≡ reading.next s parts.header.now parts.payload.now → Counting start l kept parts.rest.now
  counts_on so e is room silent kept after = goes_on reading so e is room 0 zero-le kept after [] 0 (rw silent (put_none zero-le)) zero-le
