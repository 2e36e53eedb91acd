-- The front of some bytes is a frame where there are 144, and waits for more where there are fewer.
-- Assumes nothing.
use mathlib.Core.Path.{◌≡◌, refl, sym}
use mathlib.Core.Bool.{Bool, true, false, cond}
use mathlib.Core.List.{List}
use Prim.Native.Nat.{ℕ, ◌<◌, ◌≤◌}
use native.Mathlib.Omega.{arith}
use lib.Dec.{ltb}
use lib.ListN.{length}
use borrow.Author.Tests.{lt-ltb, le-ltb, ltb-true, ltb-false}
use Rattle.walk.specs.Walks.{Front, whole, waits}
use Rattle.beesat.specs.Tables.{frame_bytes}
use Rattle.beesat_listing.specs.Listing.{frame_front}

whole_waits : {i : Unit {0}} → ◌≡◌ {A = Front (Unit {0}) ⊥} (whole i) waits → ⊥
whole_waits e = let z : ◌≡◌ {A = ℕ} 0 1 = cc in omega arith

module _ (l : List ℕ) where
  pub front_some : frame_bytes ≤ length l → frame_front l ≡ whole tt
  front_some h = rw (le-ltb (length l) frame_bytes h)

  pub front_none : length l < frame_bytes → frame_front l ≡ waits
  front_none h = rw (lt-ltb (length l) frame_bytes h)

  pub front_whole : (i : Unit {0}) → frame_front l ≡ whole i → frame_bytes ≤ length l
  front_whole i e = by (ltb (length l) frame_bytes) refl e
    where
      by : (b : Bool) → ltb (length l) frame_bytes ≡ b → ◌≡◌ {A = Front (Unit {0}) ⊥} (cond b waits (whole tt)) (whole i) → frame_bytes ≤ length l
      by true is e = absurd (whole_waits (sym e))
      by false is e = ltb-false (length l) frame_bytes is

  pub front_waits : frame_front l ≡ waits → length l < frame_bytes
  front_waits e = by (ltb (length l) frame_bytes) refl e
    where
      by : (b : Bool) → ltb (length l) frame_bytes ≡ b → ◌≡◌ {A = Front (Unit {0}) ⊥} (cond b waits (whole tt)) waits → length l < frame_bytes
      by true is e = ltb-true (length l) frame_bytes is
      by false is e = absurd (whole_waits e)
