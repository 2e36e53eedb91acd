-- The program's turns: the frames of all turns that are left can be counted, and what `beesat_listing` leaves of a piece is less than a frame.
-- Assumes nothing.
use mathlib.Core.Path.{◌≡◌, refl, ◌∙◌}
use mathlib.Core.List.{List}
use Prim.Native.Nat.{ℕ, ◌+◌, ◌-◌, ◌*◌, ◌^◌, ◌<◌, ◌≤◌}
use native.Mathlib.Omega.{arith}
use lib.ListN.{length, take}
use Rattle.beesat.specs.Tables.{frame_bytes}
use Rattle.beesat_listing.specs.declared.Counts.{Counts}
use Rattle.beesat_listing.specs.Counting.{heard_of, no_counts}
use Rattle.walk.specs.Walks.{waiting}
use Rattle.walk.specs.Scans.{Turned}
use Rattle.beesat_listing.specs.Listing.{frame_walk}
use Rattle.beesat_listing.proofs.Keeping.{left_short}
use Rattle.beesat_listing.proofs.Scanning.{heard_few}
use Rattle.text.proofs.Sizes.{part_size}
use Rattle.streams.specs.declared.Filled.{Filled}
use Rattle.streams.specs.Turns.{ReadOn}
use Rattle.beesat_list.specs.Sizes.{buffer_bytes}
use Rattle.beesat_list.specs.declared.TheConstants.{MOST_TURNS as most_turns}

-- what holds at each turn
pub record Counting (buf₀ out₀ buf out : List ℕ) (c : Counts) (kept turn : ℕ) : Type 0 where
  pub size : length buf₀ ≡ buffer_bytes
  pub input : length buf ≡ length buf₀
  pub output : length out ≡ length out₀
  pub short : kept < frame_bytes
  pub few : heard_of c + buffer_bytes * (most_turns - turn) < 2 ^ 64

pub starts_counting : (buf out : List ℕ) (c : Counts) → length buf ≡ buffer_bytes → c ≡ no_counts → Counting buf out buf out c 0 0
starts_counting buf out c size none = record { size = size; input = refl; output = refl; short = omega arith; few = rw none (omega arith) }

module _ (buf₀ out₀ buf out : List ℕ) (c : Counts) (kept turn : ℕ) (so : Counting buf₀ out₀ buf out c kept turn) where
  -- there is room to read on
  pub has_room : kept < length buf
  has_room = omega (arith, so.size, so.input, so.short)

  -- a read, and the lines of what was read
  pub counts_on : (filled : Filled) → ReadOn buf kept filled → (read : List ℕ) → length read ≡ length buf
      → (buf' out' : List ℕ) (c' : Counts) (left to : ℕ) → Turned frame_walk 8 c read filled.end out buf' out' c' left to waiting → length buf' ≡ length read → length out' ≡ length out → turn < most_turns
      → Counting buf₀ out₀ buf' out' c' left (turn + 1)
  counts_on filled came read same buf' out' c' left to done input output more =
      let inside : filled.end ≤ length read = omega (arith, came.inside, same) in
      let heard : heard_of c' ≤ heard_of c + length (take filled.end read) = rw done.listed.state_is (heard_few c (take filled.end read)) in
      record {
        size = so.size;
        input = input ∙ same ∙ so.input;
        output = output ∙ so.output;
        short = left_short c (take filled.end read) out 0 out' c' left to done.listed;
        few = omega (arith, so.few, so.size, so.input, came.inside, heard, part_size read filled.end inside, more);
      }

  -- and the frames up to the end can be counted
  pub closes : (filled : Filled) → ReadOn buf kept filled → (read : List ℕ) → length read ≡ length buf
      → (buf' out' : List ℕ) (c' : Counts) (left to : ℕ) → Turned frame_walk 8 c read filled.end out buf' out' c' left to waiting → length buf' ≡ length read → length out' ≡ length out → turn < most_turns
      → heard_of c' < 2 ^ 64
  closes filled came read same buf' out' c' left to done input output more =
      let next : Counting buf₀ out₀ buf' out' c' left (turn + 1) = counts_on filled came read same buf' out' c' left to done input output more in
      omega (arith, next.few)
