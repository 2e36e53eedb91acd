-- A walk over records is sound, whatever is made of each: what stands at the front stays, whatever follows.
-- Assumes nothing.
use mathlib.Core.Path.{◌≡◌, refl, sym, ap, ◌∙◌}
use mathlib.Core.Bool.{Bool, true, false, cond, true≢false}
use mathlib.Core.List.{List, [], ◌++◌}
use Prim.Native.Nat.{ℕ, ◌<◌}
use native.Mathlib.Omega.{arith}
use borrow.Author.Tests.{lt-ltb}
use lib.Dec.{lit<}
use lib.ListN.{length, length-append}
use Rattle.air.specs.Air.{payload_limit}
use Rattle.walk.specs.Walks.{Front, whole, stops, waits, Ended, waiting, stopped, closed_by}
use Rattle.walk.specs.Scans.{Scanned}
use Rattle.walk.proofs.Walking.{Sound, Stopped, halted, short}
use Rattle.walk.proofs.Keeping.{left_short}
use Rattle.record.specs.declared.Ending.{Ending}
use Rattle.record.specs.declared.Ending.TheVariants.{Waits, Full, TooLong as LongLength}
use Rattle.record.specs.declared.Cut.{Cut}
use Rattle.record.specs.declared.Cut.TheVariants.{Record, TooLong, Short}
use Rattle.record.specs.Records.{record_size, cut_of}
use Rattle.record.specs.Walks.{Reading, record_front, record_walk, ended_as, over_of}
use Rattle.record.proofs.Cuts.{no_length, whole_at, long_at, short_at}
use Rattle.record.proofs.Stays.{long_stays, whole_stays, air_stays, payload_stays}

-- three ways to stand at the front
whole_stops : {i : ℕ} {why : Ending} → whole i ≡ stops why → ⊥
whole_stops e = let z : ◌≡◌ {A = ℕ} 0 1 = cc in omega arith

whole_waits : {i : ℕ} → ◌≡◌ {A = Front ℕ Ending} (whole i) waits → ⊥
whole_waits e = let z : ◌≡◌ {A = ℕ} 0 1 = cc in omega arith

stops_waits : {why : Ending} → ◌≡◌ {A = Front ℕ Ending} (stops why) waits → ⊥
stops_waits e = let z : ◌≡◌ {A = ℕ} 0 1 = cc in omega arith

-- what a front says of the bytes
pub front_whole : (full : Bool) (l : List ℕ) (n : ℕ) → record_front full (cut_of l) ≡ whole n → (cut_of l ≡ Record n) × (full ≡ false)
front_whole full l n e = by full (cut_of l) refl e
  where
    by : (b : Bool) (c : Cut) → cut_of l ≡ c → record_front b c ≡ whole n → (cut_of l ≡ Record n) × (b ≡ false)
    by false (Record m) is e = let same : m ≡ n = cc in (is ∙ ap Record same, refl)
    by true (Record m) is e = absurd (whole_stops (sym e))
    by b TooLong is e = absurd (whole_stops (sym e))
    by b Short is e = absurd (whole_waits (sym e))

front_waits : (full : Bool) (l : List ℕ) → record_front full (cut_of l) ≡ waits → cut_of l ≡ Short
front_waits full l e = by full (cut_of l) refl e
  where
    by : (b : Bool) (c : Cut) → cut_of l ≡ c → record_front b c ≡ waits → cut_of l ≡ Short
    by b Short is e = is
    by b TooLong is e = absurd (stops_waits e)
    by true (Record m) is e = absurd (stops_waits e)
    by false (Record m) is e = absurd (whole_waits e)

-- a stop leaves something, and stays
pub front_stops : (full : Bool) (l f : List ℕ) (why : Ending) → record_front full (cut_of l) ≡ stops why → (0 < length l) × (record_front full (cut_of (l ++ f)) ≡ stops why)
front_stops full l f why e = by full (cut_of l) refl e
  where
    by : (b : Bool) (c : Cut) → cut_of l ≡ c → record_front b c ≡ stops why → (0 < length l) × (record_front b (cut_of (l ++ f)) ≡ stops why)
    by true (Record n) is e = (omega (arith, (whole_at l n is).there), rw (whole_stays l f n is) e)
    by false (Record n) is e = absurd (whole_stops e)
    by b TooLong is e = (omega (arith, (long_at l is).two), rw (long_stays l f is) e)
    by b Short is e = absurd (stops_waits (sym e))

pub not_over : (ending : Ending) → over_of ending ≡ false → ended_as ending ≡ waiting
not_over Waits e = refl
not_over LongLength e = absurd (true≢false e)
not_over Full e = absurd (true≢false e)

-- what stands at the front where no record is taken
pub data Halts (full : Bool) (l : List ℕ) : Ended Ending → Type 0 where
  filled : {n : ℕ} → cut_of l ≡ Record n → full ≡ true → Halts full l (stopped Full)
  long : cut_of l ≡ TooLong → Halts full l (stopped LongLength)
  early : cut_of l ≡ Short → Halts full l waiting

front_halts : (full : Bool) (l : List ℕ) (why : Ending) → record_front full (cut_of l) ≡ stops why → Halts full l (stopped why)
front_halts full l why e = by full (cut_of l) refl e
  where
    by : (b : Bool) (c : Cut) → cut_of l ≡ c → record_front b c ≡ stops why → Halts b l (stopped why)
    by true (Record n) is e =
        let same : Full ≡ why = cc in
        let so : Halts true l (stopped Full) = filled is refl in
        rw same at so
    by false (Record n) is e = absurd (whole_stops e)
    by b TooLong is e =
        let same : LongLength ≡ why = cc in
        let so : Halts b l (stopped LongLength) = long is in
        rw same at so
    by b Short is e = absurd (stops_waits (sym e))

module _ {S : Type 0} (reading : Reading S) where
  pub record_sound : Sound (record_walk reading)
  record_sound = record {
    some = λ s l n e. omega arith;
    there = λ s l n e. (whole_at l n (front_whole (reading.full s) l n e).0).there;
    none = λ s. rw (← no_length [] (lit< tt));
    whole_stays = λ s l f n e.
        let so = front_whole (reading.full s) l n e in
        ap (λ (c : Cut). record_front (reading.full s) c) (whole_stays l f n so.0) ∙ ap (λ (b : Bool). cond b (stops Full) (whole n)) so.1;
    stop_stays = λ s l f why e. (front_stops (reading.full s) l f why e).1;
    next_stays = λ s l f n e. let so = (front_whole (reading.full s) l n e).0 in rw (air_stays l f n so, payload_stays l f n so);
    text_stays = λ s l f n e. let so = (front_whole (reading.full s) l n e).0 in rw (air_stays l f n so, payload_stays l f n so);
  }

  -- what is left where a walk waits is less than the longest record
  pub waits_short : (s : S) (l : List ℕ) → (record_walk reading).cut s l ≡ waits → length l < record_size payload_limit
  waits_short s l e = short_at l (front_waits (reading.full s) l e)

  -- so where it is not over
  pub left_of_records : (growth : ℕ) (start : S) (l before : List ℕ) (at : ℕ) (after : List ℕ) (state : S) (left to : ℕ) (ending : Ending)
      → Scanned (record_walk reading) growth start l before at after state left to (ended_as ending) → over_of ending ≡ false → left < record_size payload_limit
  left_of_records growth start l before at after state left to ending so open' =
      left_short (record_walk reading) record_sound start (record_size payload_limit) waits_short l left (ended_as ending) so.left_is so.ended_is (not_over ending open')

  -- what closes a walk that stopped is the same, whatever follows: it is cut
  pub cut_settled : (closing : S → Bool → List ℕ) (s : S) (l f : List ℕ) (why : Ending) → (record_walk reading).cut s l ≡ stops why
      → closed_by closing s (stopped why) l ≡ closed_by closing s (stopped why) (l ++ f)
  cut_settled closing s l f why e =
      let some : 0 < length l = (front_stops (reading.full s) l f why e).0 in
      rw (lt-ltb 0 (length l) some, lt-ltb 0 (length (l ++ f)) (omega (arith, length-append l f)))

  -- by what stands at the front
  module _ (s : S) (l : List ℕ) where
    pub at_long : cut_of l ≡ TooLong → Stopped (record_walk reading) s l (stopped LongLength)
    at_long e = halted (ap (record_front (reading.full s)) e)

    pub at_short : cut_of l ≡ Short → Stopped (record_walk reading) s l (ended_as Waits)
    at_short e = short (ap (record_front (reading.full s)) e)

    module _ (n : ℕ) (e : cut_of l ≡ Record n) where
      pub at_full : reading.full s ≡ true → Stopped (record_walk reading) s l (stopped Full)
      at_full g = halted (ap (record_front (reading.full s)) e ∙ ap (λ (b : Bool). cond b (stops Full) (whole n)) g)

      pub at_whole : reading.full s ≡ false → (record_walk reading).cut s l ≡ whole n
      at_whole g = ap (record_front (reading.full s)) e ∙ ap (λ (b : Bool). cond b (stops Full) (whole n)) g

    -- and back
    pub halts : (ended : Ended Ending) → Stopped (record_walk reading) s l ended → Halts (reading.full s) l ended
    halts ended (halted {why} e) = front_halts (reading.full s) l why e
    halts ended (short e) = early (front_waits (reading.full s) l e)
