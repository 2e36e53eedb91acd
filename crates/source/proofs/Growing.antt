-- A lane after an accepted frame: the missed frames by wrapping subtraction, the three ways to go on, and how far counts get.
-- Assumes nothing.
use Rattle.std.proofs.Common.{◌≡◌, ℕ, ◌+◌, ◌*◌, ◌%◌, ◌<◌, ◌≤◌, Bool, true, false, cond, eqb, [], ◌∷◌, refl, arith, w8, Fits, eq-eqb, ne_eqb}
use Rattle.source.specs.declared.Lane.{Lane}
use Rattle.source.specs.Records.{counters, missed_of, add_of, tally_of, next_of, Own, replay_from}
use Rattle.air.specs.Flips.{most_flips}

-- two wrapping subtractions of bytes, reduced mod 16
pub missed_wraps : (last new apart between : ℕ) → Fits w8 last → Fits w8 new → Fits w8 apart → Fits w8 between → (apart + last) % 256 ≡ new → (between + 1) % 256 ≡ apart → between % counters ≡ missed_of last new
missed_wraps last new apart between a b c d e f = omega arith

-- a lane made of the four counts
pub tallied : (l : Lane) (new flips again gap frames repaired missed repeats : ℕ) → frames ≡ add_of l.frames 1 → repaired ≡ add_of l.repaired flips → missed ≡ add_of l.missed gap → repeats ≡ add_of l.repeats again → record { frames = frames; repaired = repaired; missed = missed; repeats = repeats; heard = true; last = new } ≡ tally_of l new flips again gap
unfolding tally_of
tallied l new flips again gap frames repaired missed repeats f p m r = cc

module _ (l : Lane) (new flips : ℕ) (after : Lane) where
  -- the lane was heard before, with the same counter
  pub again : l.heard ≡ true → new ≡ l.last → after ≡ tally_of l new flips 1 0 → after ≡ next_of l new flips
  unfolding next_of tally_of
  again before same is = rw (before, eq-eqb new l.last same) is

  -- with another counter
  pub onward : l.heard ≡ true → (new ≡ l.last → ⊥) → (missed : ℕ) → missed ≡ missed_of l.last new → after ≡ tally_of l new flips 0 missed → after ≡ next_of l new flips
  unfolding next_of tally_of
  onward before other missed between is = rw (before, ne_eqb new l.last other, ← between) is

  -- it is heard for the first time
  pub first_heard : l.heard ≡ false → after ≡ tally_of l new flips 0 0 → after ≡ next_of l new flips
  unfolding next_of tally_of
  first_heard never is = rw never is

-- whatever the way, a frame adds at most one repeat, and fewer missed frames than there are counters
pub next_cases : (P : Lane → Type 0) (l : Lane) (new flips : ℕ) → ((repeats missed : ℕ) → repeats ≤ 1 → missed < counters → P (tally_of l new flips repeats missed)) → P (next_of l new flips)
unfolding next_of
next_cases P l new flips each = by l.heard (eqb new l.last)
  where
    by : (heard same : Bool) → P (cond heard (cond same (tally_of l new flips 1 0) (tally_of l new flips 0 (missed_of l.last new))) (tally_of l new flips 0 0))
    by true true = each 1 0 (omega arith) (omega arith)
    by true false = each 0 (missed_of l.last new) (omega arith) (omega arith)
    by false same = each 0 0 (omega arith) (omega arith)

-- and always one frame
pub next_frames : (l : Lane) (new flips : ℕ) → (next_of l new flips).frames ≡ add_of l.frames 1
unfolding tally_of
next_frames l new flips = next_cases (λ r. r.frames ≡ add_of l.frames 1) l new flips (λ repeats missed a b. refl)

-- the counts of a lane that heard at most n frames
pub record Within (n : ℕ) (l : Lane) : Type 0 where
  pub frames_le : l.frames ≤ n
  pub repaired_le : l.repaired ≤ most_flips * n
  pub missed_le : l.missed ≤ counters * n
  pub repeats_le : l.repeats ≤ n

-- n is a bound: it may be larger
pub within_more : (n : ℕ) (l : Lane) → Within n l → Within (n + 1) l
within_more n l so = omega arith

-- one frame more
within_next : (n : ℕ) (l : Lane) → Within n l → (new flips : ℕ) → flips ≤ most_flips → Within (n + 1) (next_of l new flips)
unfolding tally_of
within_next n l so new flips few = next_cases (Within (n + 1)) l new flips (λ repeats missed one some. omega arith)

-- a frame that is its own or not
pub within_heard : (own : Bool) (n : ℕ) (l : Lane) → Within n l → (x : Own) → x.flips ≤ most_flips → Within (n + 1) (replay_from l (cond own (x ∷ []) []))
within_heard true n l so x few = within_next n l so x.counter x.flips few
within_heard false n l so x few = within_more n l so
