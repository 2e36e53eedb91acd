-- THE LISTING OF PIECES: however the input is cut into pieces, the listing is that of the whole.
-- Assumes nothing.
use mathlib.Core.Path.{◌≡◌, ap}
use mathlib.Core.List.{List, [], ◌++◌, flatten}
use Prim.Native.Nat.{ℕ}
use native.Mathlib.Omega.{arith}
use lib.ListN.{length-append}
use lib.Seq.{take-append-le}
use Rattle.walk.specs.Walks.{whole, Closed, closed_by}
use Rattle.walk.proofs.Walking.{Sound}
use Rattle.walk.proofs.Feeding.{fed_whole}
use Rattle.beesat.specs.Tables.{frame_bytes}
use Rattle.beesat_listing.specs.Counting.{no_counts}
use Rattle.beesat_listing.specs.Lines.{title, closing_of}
use Rattle.beesat_listing.specs.Listing.{frame_in, frame_walk, frames_listing, streamed_of}
use Rattle.beesat_listing.proofs.Frames.{front_some, front_none, front_whole}

-- a frame that is there stays, whatever follows
frame_stays : (l f : List ℕ) (i : Unit {0}) → frame_walk.cut no_counts l ≡ whole i → frame_in (l ++ f) ≡ frame_in l
frame_stays l f i e = take-append-le frame_bytes l f (front_whole l i e)

pub frame_sound : Sound frame_walk
frame_sound = record {
  some = λ s l i e. omega arith;
  there = λ s l i e. front_whole l i e;
  none = λ s. front_none [] (omega arith);
  whole_stays = λ s l f i e. front_some (l ++ f) (omega (arith, front_whole l i e, length-append l f));
  stop_stays = λ s l f why e. absurd why;
  next_stays = λ s l f i e. rw (frame_stays l f i e);
  text_stays = λ s l f i e. rw (frame_stays l f i e);
}

-- however the input is cut into pieces, what is written is the listing of the whole
pub whole_frames : (pieces : List (List ℕ)) → streamed_of pieces ≡ frames_listing (flatten pieces)
unfolding streamed_of frames_listing
whole_frames pieces = ap (λ (c : Closed (Unit {0})). title ++ c.text) (fed_whole frame_walk frame_sound (closed_by closing_of) (λ s l f why e. absurd why) no_counts pieces)
