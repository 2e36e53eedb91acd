-- A piece in a buffer: its frames can be counted, and what is left of it is shorter than a frame.
-- Assumes nothing.
use mathlib.Core.Path.{refl}
use mathlib.Core.List.{List}
use Prim.Native.Nat.{ℕ, ◌+◌, ◌^◌, ◌<◌, ◌≤◌}
use native.Mathlib.Omega.{arith}
use lib.ListN.{length, take}
use Rattle.text.proofs.Sizes.{part_size}
use Rattle.walk.specs.Walks.{waiting}
use Rattle.walk.specs.Scans.{Scanned}
use Rattle.walk.proofs.Keeping as keeping
use Rattle.beesat.specs.Tables.{frame_bytes}
use Rattle.beesat_listing.specs.declared.Counts.{Counts}
use Rattle.beesat_listing.specs.Counting.{heard_of}
use Rattle.beesat_listing.specs.Listing.{frame_walk}
use Rattle.beesat_listing.proofs.Frames.{front_waits}
use Rattle.beesat_listing.proofs.Streaming.{frame_sound}

-- the first n bytes are few where n are
pub part_few : (l : List ℕ) (n : ℕ) → n ≤ length l → (c : Counts) → heard_of c + n < 2 ^ 64 → heard_of c + length (take n l) < 2 ^ 64
part_few l n inside c h = omega (arith, part_size l n inside)

pub left_short : (c : Counts) (l before : List ℕ) (at : ℕ) (after : List ℕ) (state : Counts) (left to : ℕ) → Scanned frame_walk 8 c l before at after state left to waiting → left < frame_bytes
left_short c l before at after state left to so = keeping.left_short frame_walk frame_sound c frame_bytes (λ s m e. front_waits m e) l left waiting so.left_is so.ended_is refl
