-- A piece in a buffer: what is left of it is kept at the buffer's front.
-- Assumes nothing.
use mathlib.Core.Path.{◌≡◌, sym, ap, ◌∙◌}
use mathlib.Core.List.{List}
use Prim.Native.Nat.{ℕ, ◌+◌, ◌-◌, ◌*◌, ◌<◌, ◌≤◌}
use native.Mathlib.Omega.{arith}
use lib.ListN.{length, take, drop, length-drop}
use lib.Seq.{length-take-le, take-add, take_at, drop_at}
use Rattle.text.proofs.Sizes.{part_size}
use Rattle.walk.specs.Walks.{waits, Walk, Ended, waiting, walk_of}
use Rattle.walk.specs.Moves.{Moved}
use Rattle.walk.specs.Scans.{Scanned, Turned}
use Rattle.walk.specs.Promises.{Passes, Turns}
use Rattle.walk.proofs.Walking.{Sound, Stopped, short, Suffix, walk_rest, walk_stopped}

-- the first n bytes have room where n bytes have
pub part_fits : (growth : ℕ) (l : List ℕ) (n : ℕ) → n ≤ length l → (room : ℕ) → growth * n ≤ room → 0 + growth * length (take n l) ≤ room
part_fits growth l n inside room h = rw (← part_size l n inside) (omega (arith, h))

-- the end of the first bytes
drop_take : (from n : ℕ) (l : List ℕ) → from ≤ length l → drop from (take (from + n) l) ≡ take n (drop from l)
drop_take from n l h = rw (take-add from n l) (drop_at (take from l) (take n (drop from l)) from (length-take-le from l h))

-- what was moved stands at the front
moved_front : (before : List ℕ) (from n : ℕ) (after : List ℕ) → from + n ≤ length before → Moved before from n after → take n after ≡ take n (drop from before)
moved_front before from n after room moved =
    rw moved.bytes (take_at (take n (drop from before)) (drop n before) n (length-take-le n (drop from before) (omega (arith, length-drop from before))))

module _ {S I R : Type 0} (walk : Walk S I R) (sound : Sound walk) (start : S) where
  -- the bytes that are left of the first `end` of a buffer, so many
  module _ (buf : List ℕ) (end : ℕ) (inside : end ≤ length buf) (left : ℕ) (many : left ≡ length (walk_of walk start (take end buf)).rest) where
    suffix : Suffix (take end buf) (walk_of walk start (take end buf)).rest
    suffix = walk_rest walk sound start (take end buf)

    skipped : left + suffix.skip ≡ end
    skipped =
        let so : left ≡ length (take end buf) - suffix.skip = many ∙ ap length (sym suffix.is) ∙ length-drop suffix.skip (take end buf) in
        omega (arith, suffix.inside, part_size buf end inside)

    -- are within them
    pub rest_inside : left ≤ end
    rest_inside = omega (arith, skipped)

    -- and are their end
    rest_there : take left (drop (end - left) buf) ≡ (walk_of walk start (take end buf)).rest
    rest_there =
        let from : ℕ = end - left in
        let all : from + left ≡ end = omega (arith, skipped) in
        let skip : suffix.skip ≡ from = omega (arith, skipped) in
        sym (rw all at (drop_take from left buf (omega arith))) ∙ rw skip at suffix.is

    -- so where they were moved, they stand at the buffer's front
    pub rest_moved : (buf' : List ℕ) → Moved buf (end - left) left buf' → take left buf' ≡ (walk_of walk start (take end buf)).rest
    rest_moved buf' moved = moved_front buf (end - left) left buf' (omega (arith, rest_inside)) moved ∙ rest_there

  -- where the walk waits for more, what is left is less than what any item needs
  module _ (most : ℕ) (few : (s : S) (l : List ℕ) → walk.cut s l ≡ waits → length l < most) where
    waiting_short : (s : S) (l : List ℕ) → Stopped walk s l waiting → length l < most
    waiting_short s l (short e) = few s l e

    pub left_short : (l : List ℕ) (left : ℕ) (ended : Ended R) → left ≡ length (walk_of walk start l).rest → ended ≡ (walk_of walk start l).ended → ended ≡ waiting → left < most
    left_short l left ended many is e =
        rw many (waiting_short (walk_of walk start l).state (walk_of walk start l).rest (rw (← is, e) at (walk_stopped walk sound start l)))

-- THE SAME of what a function promises
module _ {S I R : Type 0} (walk : Walk S I R) (growth : ℕ) (start : S) (buf : List ℕ) (end : ℕ) (inside : end ≤ length buf) (out out' : List ℕ) (state : S) (left to : ℕ) (ended : Ended R)
    (so : Scanned walk growth start (take end buf) out 0 out' state left to ended) (sound : Sound walk) where
  -- what is left is within the piece
  pub left_inside : left ≤ end
  left_inside = rest_inside walk sound start buf end inside left so.left_is

-- and then stands at the buffer's front
pub kept_rest : {S I R : Type 0} (walk : Walk S I R) → Sound walk → (growth : ℕ) (start : S) (buf : List ℕ) (end : ℕ) → end ≤ length buf → (out buf' out' : List ℕ) (state : S) (left to : ℕ) (ended : Ended R)
    → Turned walk growth start buf end out buf' out' state left to ended → take left buf' ≡ (walk_of walk start (take end buf)).rest
kept_rest walk sound growth start buf end inside out buf' out' state left to ended turned = rest_moved walk sound start buf end inside left turned.listed.left_is buf' turned.kept

-- the text is within the buffer
pub text_inside : {S I R : Type 0} (walk : Walk S I R) (growth : ℕ) (start : S) (buf : List ℕ) (end : ℕ) (out buf' out' : List ℕ) (state : S) (left to : ℕ) (ended : Ended R)
    → Turned walk growth start buf end out buf' out' state left to ended → to ≤ length out'
text_inside walk growth start buf end out buf' out' state left to ended turned = omega (arith, turned.listed.put.fits, turned.listed.put.kept)

-- THE SAME where nothing was put
pub scan_passes : {S I R : Type 0} {walk : Walk S I R} {growth : ℕ} {start : S} {l before : List ℕ} {at : ℕ} {after : List ℕ} {state : S} {left to : ℕ} {ended : Ended R}
    → Scanned walk growth start l before at after state left to ended → Passes walk start l state left ended
scan_passes so = record { state_is = so.state_is; left_is = so.left_is; ended_is = so.ended_is }

module _ {S I R : Type 0} (walk : Walk S I R) (sound : Sound walk) (start : S) (state : S) (left : ℕ) (ended : Ended R) where
  module _ (buf : List ℕ) (end : ℕ) (inside : end ≤ length buf) where
    pub passed_inside : Passes walk start (take end buf) state left ended → left ≤ end
    passed_inside so = rest_inside walk sound start buf end inside left so.left_is

    pub passed_rest : (buf' : List ℕ) → Turns walk start buf end buf' state left ended → take left buf' ≡ (walk_of walk start (take end buf)).rest
    passed_rest buf' turned = rest_moved walk sound start buf end inside left turned.walked.left_is buf' turned.kept

  pub passed_short : (most : ℕ) → ((s : S) (l : List ℕ) → walk.cut s l ≡ waits → length l < most) → (l : List ℕ) → Passes walk start l state left ended → ended ≡ waiting → left < most
  passed_short most few l so = left_short walk sound start most few l left ended so.left_is so.ended_is
