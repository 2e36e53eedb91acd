-- The loop of a function that walks over bytes and puts texts: the items before the rest are taken, and their texts are put.
-- Assumes nothing.
use mathlib.Core.Path.{◌≡◌, refl, ap, ◌∙◌}
use mathlib.Core.List.{List, [], ◌++◌, append_assoc, append-nil}
use Prim.Native.Nat.{ℕ, ◌+◌, ◌*◌, ◌<◌, ◌≤◌}
use native.Mathlib.Omega.{arith}
use native.Mathlib.Nat.{mul-add}
use lib.ListN.{length, drop, length-drop}
use Rattle.text.specs.Text.{Put}
use Rattle.text.proofs.Laid.{put_none, put_then}
use Rattle.walk.specs.Walks.{whole, Walk, Ended, halt, behind, walk_of}
use Rattle.walk.specs.Scans.{Scanned}
use Rattle.walk.proofs.Walking.{Sound, Stopped, walk_stops, walk_takes}

module _ {S I R : Type 0} (walk : Walk S I R) (sound : Sound walk) (growth : ℕ) where
  -- what holds at each turn: the texts put so far, and then what becomes of the rest
  pub record Scanning (start : S) (l before : List ℕ) (at : ℕ) (out : List ℕ) (s : S) (rest : List ℕ) (to : ℕ) : Type 0 where
    pub room : at + growth * length l ≤ length before
    pub ahead : to + growth * length rest ≤ at + growth * length l
    pub text : List ℕ
    pub lines : Put before at text out to
    pub left : walk_of walk start l ≡ behind text (walk_of walk s rest)

  pub starts : (s : S) (l before : List ℕ) (at : ℕ) → at + growth * length l ≤ length before → Scanning s l before at before s l at
  starts s l before at room = record { room = room; ahead = omega arith; text = []; lines = put_none (omega arith); left = refl }

  module _ (start : S) (l before : List ℕ) (at : ℕ) (out : List ℕ) (s : S) (rest : List ℕ) (to : ℕ) (so : Scanning start l before at out s rest to) where
    -- no more is taken
    pub scan_ends : (ended : Ended R) → Stopped walk s rest ended → Scanned walk growth start l before at out s (length rest) to ended
    scan_ends ended over =
        let all : walk_of walk start l ≡ behind so.text (halt s rest ended) = so.left ∙ ap (behind so.text) (walk_stops walk sound s rest ended over) in
        record {
          state_is = rw all;
          put = rw (all, append-nil) so.lines;
          short = omega (arith, so.ahead);
          left_is = rw all;
          ended_is = rw all;
        }

    -- nothing more is put
    pub puts_nothing : (out' : List ℕ) (to' : ℕ) → Put out to [] out' to' → Scanning start l before at out' s rest to'
    puts_nothing out' to' put = record {
      room = so.room;
      ahead = omega (arith, put.place, so.ahead);
      text = so.text;
      lines = rw append-nil at (put_then so.lines put);
      left = so.left;
    }

    module _ (i : I) (e : walk.cut s rest ≡ whole i) where
      -- the item is there
      pub all_there : walk.size i ≤ length rest
      all_there = sound.there s rest i e

      -- less is left behind it
      pub less : length (drop (walk.size i) rest) < length rest
      less = omega (arith, length-drop (walk.size i) rest, all_there, sound.some s rest i e)

      parts : growth * walk.size i + growth * length (drop (walk.size i) rest) ≡ growth * length rest
      parts =
          let whole_rest : walk.size i + length (drop (walk.size i) rest) ≡ length rest = omega (arith, length-drop (walk.size i) rest, all_there) in
          omega (arith, mul-add growth (walk.size i) (length (drop (walk.size i) rest)), ap (λ (n : ℕ). growth * n) whole_rest)

      -- its text has room
      module _ (most : ℕ) (short : most ≤ growth * walk.size i) where
        pub has_room : to + most ≤ length out
        has_room = omega (arith, short, parts, so.ahead, so.room, so.lines.kept)

        pub goes_on : (after : S) → after ≡ walk.next s i rest → (out' : List ℕ) (to' : ℕ) → Put out to (walk.text s i rest) out' to' → to' ≤ to + most
            → Scanning start l before at out' after (drop (walk.size i) rest) to'
        goes_on after next out' to' put within = record {
          room = so.room;
          ahead = omega (arith, short, parts, so.ahead, within);
          text = so.text ++ walk.text s i rest;
          lines = put_then so.lines put;
          left = so.left ∙ rw (walk_takes walk sound s rest i e, next, append_assoc);
        }
