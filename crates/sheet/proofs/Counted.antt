-- One answer counted: a lane hears its own frames only, a refusal its own number, and the sum grows by one.
-- Assumes nothing.
use mathlib.Core.Path.{◌≡◌, refl, ◌∙◌}
use mathlib.Core.Bool.{Bool, true, false, cond}
use Prim.Native.Nat.{ℕ, ◌+◌, ◌≤◌, ◌<◌}
use native.Mathlib.Omega.{arith}
use lib.Dec.{eqb}
use lib.ListN.{length, length-set}
use lib.Seq.{get_or-set_same, get_or-set_other}
use borrow.Author.Tests.{eqb-true, eqb-false}
use Rattle.std.specs.Prelude.{Ok, Err}
use Rattle.base.specs.declared.Edition.{Edition}
use Rattle.header.specs.Answers.{Answer}
use Rattle.source.specs.Records.{add_of, replay_from}
use Rattle.source.specs.Lanes.{Role, record_of, of_lane, own_in}
use Rattle.source.specs.Counts.{refusal_counts, slot_of}
use Rattle.sheet.specs.Sheets.{Sheet}
use Rattle.sheet.specs.Sheets.{records_of, lane_at, refusals_at, accept_of, refuse_of, counted_of, accepted_of, refused_of, heard_of, full_sheet}
use Rattle.sheet.specs.Histories.{refused_in}
use Rattle.source.proofs.Growing.{Within, within_more, within_heard}
use Rattle.source.proofs.Lanes.{heard_lane, heard_more_lem}
use Rattle.source.proofs.Counts.{HasSlot, counts_one, slot_one}
use Rattle.sheet.proofs.Offering.{Countable, recorded, numbered}
use Rattle.base.proofs.OneMore.{sum_part, sum_set}

-- a sheet that has taken n frames
pub record Grown (own : Edition) (n : ℕ) (sheet : Sheet) : Type 0 where
  pub sources_long : length sheet.sources ≡ records_of own
  pub refusals_long : length sheet.refusals ≡ refusal_counts
  pub heard_is : heard_of own sheet ≡ n
  pub within : (k : ℕ) (role : Role) → Within n (lane_at sheet k role)

module _ (own : Edition) (n : ℕ) (sheet : Sheet) (so : Grown own n sheet) where
  -- no refusal's count is above the number of frames
  pub refusals_le : (k : ℕ) → k < refusal_counts → refusals_at sheet k ≤ n
  unfolding refused_of
  refusals_le k h = omega (arith, so.heard_is, sum_part (refusals_at sheet) k refusal_counts h)

  -- a lane hears its own frames
  pub counted_own : (k : ℕ) (role : Role) (a : Answer) → Countable own a → lane_at (counted_of sheet a) k role ≡ replay_from (lane_at sheet k role) (own_in k role a)
  unfolding accept_of
  counted_own k role (Err why) (numbered has) = refl
  counted_own k role (Ok a) (recorded known few) = heard_lane sheet.sources a.header a.flips (rw so.sources_long known) k role

  module _ (room : n < full_sheet) where
    -- a count of a sheet with room has room
    exact : (count : ℕ) → count ≤ n → add_of count 1 ≡ count + 1
    exact count h = omega arith

    -- so a refusal's count grows by one
    refusal_more : (number : ℕ) → HasSlot number → add_of (refusals_at sheet (slot_of number)) 1 ≡ refusals_at sheet (slot_of number) + 1
    refusal_more number has = exact (refusals_at sheet (slot_of number)) (refusals_le (slot_of number) has)

    -- a refusal's count grows by the answers with its number
    pub counted_refusals : (number : ℕ) → HasSlot number → (a : Answer) → Countable own a → refusals_at (counted_of sheet a) (slot_of number) ≡ refusals_at sheet (slot_of number) + refused_in number a
    unfolding accept_of
    counted_refusals number known (Ok a) countable = omega arith
    counted_refusals number known (Err why) (numbered has) = by (eqb why.number number) refl
      where
        i : ℕ
        i = slot_of why.number

        more : ℕ
        more = add_of (refusals_at sheet i) 1

        by : (b : Bool) → eqb why.number number ≡ b → refusals_at (refuse_of sheet why.number) (slot_of number) ≡ refusals_at sheet (slot_of number) + cond b 1 0
        by true e =
            let own : why.number ≡ number = eqb-true why.number number e in
            rw (← own, counts_one sheet.refusals why.number has) (get_or-set_same sheet.refusals i more 0 (rw so.refusals_long has) ∙ refusal_more why.number has)
        by false e =
            rw (counts_one sheet.refusals why.number has)
            (get_or-set_other sheet.refusals i (slot_of number) more 0 (λ (q : slot_of number ≡ i). eqb-false why.number number e (slot_one why.number number has q)) ∙ omega arith)

    -- the sum of all counts grows by one
    pub counted_heard : (a : Answer) → Countable own a → heard_of own (counted_of sheet a) ≡ n + 1
    unfolding accept_of accepted_of refused_of
    counted_heard (Ok a) (recorded known few) =
        omega (arith, so.heard_is, heard_more_lem sheet.sources a.header a.flips (rw so.sources_long known) (records_of own) known (λ role. omega (arith, so.within (record_of a.header) role)))
    counted_heard (Err why) (numbered has) =
        let i = slot_of why.number in
        rw (counts_one sheet.refusals why.number has)
        (omega (arith, so.heard_is, sum_set (λ c. c) 0 sheet.refusals i (add_of (refusals_at sheet i) 1) refusal_counts has (rw so.refusals_long has) (refusal_more why.number has)))

  -- every lane stays within its bounds
  counted_within : (a : Answer) → Countable own a → (k : ℕ) (role : Role) → Within (n + 1) (lane_at (counted_of sheet a) k role)
  counted_within (Ok a) (recorded known few) k role =
      rw (counted_own k role (Ok a) (recorded known few))
      (within_heard (of_lane k role (Ok a)) n (lane_at sheet k role) (so.within k role) (record { counter = a.header.«fields».fr_cnt_tx; flips = a.flips }) few)
  counted_within (Err why) known k role = rw (counted_own k role (Err why) known) (within_more n (lane_at sheet k role) (so.within k role))

  -- no record and no count comes or goes
  counted_sources_long : (a : Answer) → Countable own a → length (counted_of sheet a).sources ≡ records_of own
  unfolding accept_of
  counted_sources_long (Ok a) known = length-set sheet.sources (record_of a.header) _ ∙ so.sources_long
  counted_sources_long (Err why) (numbered has) = so.sources_long

  counted_refusals_long : (a : Answer) → Countable own a → length (counted_of sheet a).refusals ≡ refusal_counts
  unfolding accept_of
  counted_refusals_long (Ok a) known = so.refusals_long
  counted_refusals_long (Err why) (numbered has) = rw (counts_one sheet.refusals why.number has) (length-set sheet.refusals (slot_of why.number) _ ∙ so.refusals_long)

  -- so the sheet has taken one frame more
  pub counted_grown : n < full_sheet → (a : Answer) → Countable own a → Grown own (n + 1) (counted_of sheet a)
  counted_grown room a known = record {
    sources_long = counted_sources_long a known;
    refusals_long = counted_refusals_long a known;
    heard_is = counted_heard room a known;
    within = counted_within a known;
  }
