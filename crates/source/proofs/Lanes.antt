-- Two lanes: a frame changes its own and leaves the other as it is. Of one source, and of lists of sources of any length.
-- Assumes nothing.
use Rattle.std.proofs.Common.{◌≡◌, ℕ, ◌+◌, ◌<◌, ◌≤◌, Bool, true, false, cond, not, eqb, List, [], ◌∷◌, length, sym, refl, ap, ◌∙◌, arith, get_or-set_other, get_or-set_same, le-ltb, lt-ltb, eq-eqb, ne_eqb, eqb-true}
use borrow.Author.Tests.{eqb-false}
use Rattle.base.proofs.OneMore.{sum_set}
use Rattle.header.specs.declared.Header.{Header}
use Rattle.header.specs.Answers.{accepted}
use Rattle.source.specs.declared.Lane.{Lane}
use Rattle.source.specs.declared.Source.{Source}
use Rattle.source.specs.declared.Display.{Display}
use Rattle.source.specs.Records.{count_limit, next_of, Own, replay_from}
use Rattle.source.specs.Lanes.{Role, as_caller, as_responder, is_caller, sent_as, lane_of, lane_after, silent, hear_of, frames_of, repaired_of, summed_of, source_in, record_of, heard_in, accepted_in, display_in, own_in}
use Rattle.source.proofs.Growing.{next_frames}

-- what the Caller bit makes of a source
module _ (s : Source) (h : Header) (flips : ℕ) (after : Lane) where
  pub hears_caller : h.«fields».«caller» ≡ 1 → after ≡ next_of s.caller h.«fields».fr_cnt_tx flips → record { caller = after; responder = s.responder } ≡ hear_of s h flips
  unfolding hear_of
  hears_caller one is = rw (eq-eqb h.«fields».«caller» 1 one, is)

  pub hears_responder : (h.«fields».«caller» ≡ 1 → ⊥) → after ≡ next_of s.responder h.«fields».fr_cnt_tx flips → record { caller = s.caller; responder = after } ≡ hear_of s h flips
  unfolding hear_of
  hears_responder other is = rw (ne_eqb h.«fields».«caller» 1 other, is)

-- so either lane hears the frame where it is its own,
hear_lane : (role : Role) (s : Source) (h : Header) (flips : ℕ) → lane_of role (hear_of s h flips) ≡ lane_after role s h flips
unfolding hear_of
hear_lane as_caller s h flips = refl
hear_lane as_responder s h flips = refl

-- and then has one frame more, if it has room
after_frames : (role : Role) (s : Source) (h : Header) (flips : ℕ) → (lane_of role s).frames < count_limit → (lane_after role s h flips).frames ≡ (lane_of role s).frames + cond (sent_as role h) 1 0
after_frames role s h flips room = by (sent_as role h)
  where
    by : (own : Bool) → (cond own (next_of (lane_of role s) h.«fields».fr_cnt_tx flips) (lane_of role s)).frames ≡ (lane_of role s).frames + cond own 1 0
    by true = next_frames (lane_of role s) h.«fields».fr_cnt_tx flips ∙ omega (arith, room)
    by false = omega arith

-- a frame is of one lane
pub one_lane : (h : Header) → cond (sent_as as_caller h) 1 0 + cond (sent_as as_responder h) 1 0 ≡ 1
one_lane h = by (is_caller h)
  where
    by : (called : Bool) → cond called 1 0 + cond (not called) 1 0 ≡ 1
    by true = refl
    by false = refl

-- so the source has one frame more
hear_frames : (s : Source) (h : Header) (flips : ℕ) → ((role : Role) → (lane_of role s).frames < count_limit) → frames_of (hear_of s h flips) ≡ frames_of s + 1
unfolding hear_of
hear_frames s h flips room = omega (arith, after_frames as_caller s h flips (room as_caller), after_frames as_responder s h flips (room as_responder), one_lane h)

-- A LIST OF SOURCES in which the frame has a record
module _ (sources : List Source) (h : Header) (flips : ℕ) (there : record_of h < length sources) where
  -- each lane of each source hears its own frames
  pub heard_lane : (k : ℕ) (role : Role) → lane_of role (source_in (heard_in sources h flips) k) ≡ replay_from (lane_of role (source_in sources k)) (own_in k role (accepted h flips))
  heard_lane k role = by (eqb (record_of h) k) refl
    where
      next : Source
      next = hear_of (source_in sources (record_of h)) h flips

      own : Own
      own = record { counter = h.«fields».fr_cnt_tx; flips = flips }

      mine : (b : Bool) (l : Lane) → cond b (next_of l h.«fields».fr_cnt_tx flips) l ≡ replay_from l (cond b (own ∷ []) [])
      mine true l = refl
      mine false l = refl

      by : (b : Bool) → eqb (record_of h) k ≡ b → lane_of role (source_in (heard_in sources h flips) k) ≡ replay_from (lane_of role (source_in sources k)) (own_in k role (accepted h flips))
      by true e =
          let same : record_of h ≡ k = eqb-true (record_of h) k e in
          rw (e, ← same, get_or-set_same sources (record_of h) next silent there)
          (hear_lane role (source_in sources (record_of h)) h flips ∙ mine (sent_as role h) (lane_of role (source_in sources (record_of h))))
      by false e =
          rw (e, get_or-set_other sources (record_of h) k next silent (λ (q : k ≡ record_of h). eqb-false (record_of h) k e (sym q)))

  -- and over n sources there is one frame more
  pub heard_more_lem : (n : ℕ) → record_of h < n → ((role : Role) → (lane_of role (source_in sources (record_of h))).frames < count_limit) → accepted_in n (heard_in sources h flips) ≡ accepted_in n sources + 1
  heard_more_lem n below room =
      sum_set frames_of silent sources (record_of h) (hear_of (source_in sources (record_of h)) h flips) n below there (hear_frames (source_in sources (record_of h)) h flips room)

-- a source with its sums
pub sums : (s : Source) (frames repaired : ℕ) → frames ≡ frames_of s → repaired ≡ repaired_of s → record { caller = s.caller; responder = s.responder; frames = frames; repaired = repaired } ≡ summed_of s
sums s frames repaired f p = rw (f, p)

-- of n sources, the numbers of one with a record, and of one without
module _ (n k : ℕ) (sources : List Source) (found : Source) (shown : Display) (is : shown ≡ summed_of found) where
  pub shows : k < n → found ≡ source_in sources k → shown ≡ display_in n sources k
  shows below there = rw (lt-ltb k n below) (is ∙ ap summed_of there)

  pub shows_none : n ≤ k → found ≡ silent → shown ≡ display_in n sources k
  shows_none past none = rw (le-ltb k n past) (is ∙ ap summed_of none)
