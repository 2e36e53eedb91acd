-- A lane of a source's record, and what accepted frames add to it.
-- Assumes nothing.
use Rattle.std.specs.Prelude.{ℕ, ◌+◌, ◌-◌, ◌*◌, ◌%◌, min, true, false, cond, List, ◌==◌}
use mathlib.Core.List.{foldl}
use Rattle.source.specs.declared.Lane.{Lane}

-- "frames accepted, bits repaired, missed, repeats, last FrCntTx if any": of a lane that was never heard
abbrev pub silent_lane : Lane
silent_lane = record { frames = 0; repaired = 0; missed = 0; repeats = 0; heard = false; last = 0 }

-- "a count that would pass 4,294,967,295 stays there"
abbrev pub count_limit : ℕ
count_limit = 4294967295

abbrev pub add_of : ℕ → ℕ → ℕ
add_of count more = min (count + more) count_limit

-- "Frame counters run freely and wrap from 15 to 0."
abbrev pub counters : ℕ
counters = 16

-- "(new - last - 1) mod 16", of any two bytes: sixteen rounds more keep the difference above zero and change nothing mod 16
abbrev pub missed_of : ℕ → ℕ → ℕ
missed_of last new = (new + 16 * counters - last - 1) % counters

-- "An offered frame that is accepted adds one to its source's frames and its repaired bits", and so much to the other two
unfoldable pub tally_of : Lane → ℕ → ℕ → ℕ → ℕ → Lane
tally_of l new flips repeats missed = record {
  frames = add_of l.frames 1;
  repaired = add_of l.repaired flips;
  missed = add_of l.missed missed;
  repeats = add_of l.repeats repeats;
  heard = true;
  last = new;
}

-- "If that source was heard before", in this lane: "an equal FrCntTx adds one to repeats; otherwise (new - last - 1) mod 16 is added to missed."
unfoldable pub next_of : Lane → ℕ → ℕ → Lane
next_of l new flips =
    cond l.heard
    (cond (new == l.last) (tally_of l new flips 1 0) (tally_of l new flips 0 (missed_of l.last new)))
    (tally_of l new flips 0 0)

-- what a lane hears of a frame: its FrCntTx and its repaired bits
pub record Own : Type 0 where
  pub counter : ℕ
  pub flips : ℕ

-- a lane after such frames, and the lane that they make
abbrev pub replay_from : Lane → List Own → Lane
replay_from l own = foldl (λ r x. next_of r x.counter x.flips) l own

abbrev pub replay_of : List Own → Lane
replay_of own = replay_from silent_lane own
