-- The loop of `list_frames`: the frames before the rest are taken, and all that are left can be counted.
-- Assumes nothing.
use mathlib.Core.Path.{◌≡◌, ap, ◌∙◌}
use mathlib.Core.List.{List}
use Prim.Native.Nat.{ℕ, ◌+◌, ◌-◌, ◌*◌, ◌^◌, ◌≤◌, ◌<◌}
use native.Mathlib.Omega.{arith}
use Rattle.std.specs.Prelude.{Ok, Err}
use lib.ListN.{length, take, drop, length-drop}
use lib.Seq.{take-length}
use Rattle.text.specs.Text.{Put}
use Rattle.walk.specs.Walks.{whole, waiting, walk_of}
use Rattle.walk.specs.Scans.{Scanned}
use Rattle.walk.specs.declared.After.{After}
use Rattle.walk.specs.Promises.{Takes}
use Rattle.walk.proofs.Walking.{short, walk_stops, walk_takes, by_items}
use Rattle.walk.proofs.Scanning as scan
use Rattle.beesat.specs.Tables.{frame_bytes}
use Rattle.beesat.specs.Reading.{read_of}
use Rattle.beesat.specs.Answers.{Answer}
use Rattle.beesat.specs.declared.Contents.TheVariants.{Telemetry, Idle}
use Rattle.beesat.specs.declared.Read.{Read}
use Rattle.beesat_listing.specs.declared.Counts.{Counts}
use Rattle.beesat_listing.specs.Counting.{heard_of, counted_of}
use Rattle.beesat_listing.specs.Lines.{frame_line, line_room}
use Rattle.beesat_listing.specs.Listing.{frame_in, next_counts, frame_walk}
use Rattle.beesat_listing.proofs.Frames.{front_some, front_none, front_whole}
use Rattle.beesat_listing.proofs.Streaming.{frame_sound}

-- one frame more is heard
pub heard_more_lem : (c : Counts) (a : Answer) → heard_of (counted_of c a) ≡ heard_of c + 1
heard_more_lem c (Ok (Telemetry h)) = omega arith
heard_more_lem c (Ok (Idle h)) = omega arith
heard_more_lem c (Err why) = omega arith

-- a frame that is taken
pub takes : (c : Counts) (frame before : List ℕ) (at : ℕ) (after : List ℕ) (k next : ℕ) (read : Read) (counts : Counts)
    → k ≡ heard_of c → read ≡ read_of frame → Put before at (frame_line k read) after next → next ≤ at + line_room → counts ≡ counted_of c read.answer
    → Takes (next_counts c frame) (frame_line (heard_of c) (read_of frame)) line_room before at after (record { state = counts; to = next })
takes c frame before at after k next read counts number is put within then =
    record { state_is = then ∙ ap (λ (r : Read). counted_of c r.answer) is; line = rw (← number, ← is) put; short = within }

-- what holds at each turn
pub record Counting (start : Counts) (l before : List ℕ) (at : ℕ) (out : List ℕ) (c : Counts) (rest : List ℕ) (to : ℕ) : Type 0 where
  pub scanning : scan.Scanning frame_walk frame_sound 8 start l before at out c rest to
  pub few : heard_of c + length rest < 2 ^ 64

pub starts : (c : Counts) (l before : List ℕ) (at : ℕ) → at + 8 * length l ≤ length before → heard_of c + length l < 2 ^ 64 → Counting c l before at before c l at
starts c l before at room few = record { scanning = scan.starts frame_walk frame_sound 8 c l before at room; few = few }

module _ (start : Counts) (l before : List ℕ) (at : ℕ) (out : List ℕ) (c : Counts) (rest : List ℕ) (to : ℕ) (so : Counting start l before at out c rest to) where
  module _ (there : frame_bytes ≤ length rest) where
    item : frame_walk.cut c rest ≡ whole tt
    item = front_some rest there

    pub not_full : heard_of c + 1 < 2 ^ 64
    not_full = omega (arith, so.few)

    pub has_room : to + line_room ≤ length out
    has_room = scan.has_room frame_walk frame_sound 8 start l before at out c rest to so.scanning tt item line_room (omega arith)

    pub goes_on : (after : List ℕ) (r : After Counts) → Takes (next_counts c (take frame_bytes rest)) (frame_line (heard_of c) (read_of (take frame_bytes rest))) line_room out to after r
        → (next : List ℕ) → next ≡ take (length rest - frame_bytes) (drop frame_bytes rest) → Counting start l before at after r.state next r.to
    goes_on after r taken next behind =
        let is_rest : next ≡ drop frame_bytes rest = behind ∙ rw (← length-drop frame_bytes rest) (take-length (drop frame_bytes rest)) in
        rw is_rest
        (record {
          scanning = scan.goes_on frame_walk frame_sound 8 start l before at out c rest to so.scanning tt item line_room (omega arith) r.state taken.state_is after r.to taken.line taken.short;
          few = rw taken.state_is (omega (arith, so.few, there, heard_more_lem c (read_of (take frame_bytes rest)).answer, length-drop frame_bytes rest));
        })

  pub ends : length rest < frame_bytes → Scanned frame_walk 8 start l before at out c (length rest) to waiting
  ends h = scan.scan_ends frame_walk frame_sound 8 start l before at out c rest to so.scanning waiting (short (front_none rest h))

-- no more frames are heard than there are bytes
pub heard_few : (c : Counts) (l : List ℕ) → heard_of (walk_of frame_walk c l).state ≤ heard_of c + length l
heard_few =
    by_items frame_walk frame_sound (λ c l. heard_of (walk_of frame_walk c l).state ≤ heard_of c + length l)
    (λ c l ended stopped. rw (walk_stops frame_walk frame_sound c l ended stopped) (omega arith))
    (λ c l i e more.
    rw (walk_takes frame_walk frame_sound c l i e) (omega (arith, more, heard_more_lem c (read_of (frame_in l)).answer, front_whole l i e, length-drop frame_bytes l)))
