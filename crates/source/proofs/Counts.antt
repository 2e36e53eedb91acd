-- The count of a refusal's number: the search for its place, and the counts after it.
-- Assumes nothing.
use Rattle.std.proofs.Common.{◌≡◌, ℕ, ◌<◌, ◌≤◌, true, cond, eqb, ltb, List, length, get_or, set, sym, refl, arith, le-ltb, lt-ltb}
use Rattle.std.specs.Prelude.{Option, Some, None}
use Rattle.std.specs.Option.{unwrap_or}
use Rattle.std.specs.List.{position_or_len}
use Rattle.std.proofs.lemmas.List.Sums.{position_or_len_is}
use mathlib.Core.Logic.{⊎_elim}
use Rattle.base.specs.Lists.{lowest}
use Rattle.base.proofs.Lowest.{Lowest, lowest_is}
use Rattle.base.proofs.Tests.{lt_or_ge}
use Rattle.base.proofs.Numbers.{Among, all_placed, placed, place_one}
use Rattle.source.specs.Records.{add_of}
use Rattle.source.specs.Counts.{counted, counted_at, refusal_counts, slot_of, counts_after}

-- THE SLOT OF A NUMBER: the first place that it stands at, or past the last where it has none
slot_place : (number : ℕ) → position_or_len (λ (x : ℕ). eqb number x) counted ≡ slot_of number
unfolding slot_of
slot_place number =
    let low : Lowest (λ k. eqb number (counted_at k)) refusal_counts (lowest refusal_counts (λ k. eqb number (counted_at k))) = lowest_is (λ k. eqb number (counted_at k)) refusal_counts in
    position_or_len_is (λ (x : ℕ). eqb number x) counted (slot_of number) 0 low.inside low.before low.passes

slot_inside : (number : ℕ) → slot_of number ≤ refusal_counts
unfolding slot_of
slot_inside number = (lowest_is (λ k. eqb number (counted_at k)) refusal_counts).inside

pub slot_found : (number : ℕ) (r : Option ℕ) → r ≡ cond (ltb (position_or_len (λ (x : ℕ). eqb number x) counted) (length counted)) (Some (position_or_len (λ (x : ℕ). eqb number x) counted)) None → unwrap_or r refusal_counts ≡ slot_of number
slot_found number r e =
    rw (e, slot_place number)
    (⊎_elim (λ (there : slot_of number < refusal_counts). rw (lt-ltb (slot_of number) refusal_counts there) refl)
    (λ (none : refusal_counts ≤ slot_of number). rw (le-ltb (slot_of number) refusal_counts none) (omega (arith, slot_inside number)))
    (lt_or_ge (slot_of number) refusal_counts))

-- the counts with one changed, or unchanged
module _ (counts : List ℕ) (number k : ℕ) (found : k ≡ slot_of number) where
  pub refuses_not : refusal_counts ≤ k → counts ≡ counts_after counts number
  unfolding counts_after
  refuses_not h = rw (← found, le-ltb k refusal_counts h)

  pub refuses : k < refusal_counts → (changed : ℕ) → changed ≡ add_of (get_or counts k 0) 1 → set counts k changed ≡ counts_after counts number
  unfolding counts_after
  refuses h changed is = rw (← found, lt-ltb k refusal_counts h, is)

-- a number that has a count
abbrev pub HasSlot : ℕ → Type 0
HasSlot number = slot_of number < refusal_counts

-- each of some numbers has one
pub have_slots : (numbers : List ℕ) (number : ℕ) → all_placed counted numbers ≡ true → Among number numbers → HasSlot number
unfolding slot_of
have_slots numbers number all among = placed counted numbers number all among

-- a number that has a count adds one to it, and no other number has the same
pub counts_one : (counts : List ℕ) (number : ℕ) → HasSlot number → counts_after counts number ≡ set counts (slot_of number) (add_of (get_or counts (slot_of number) 0) 1)
counts_one counts number has = sym (refuses counts number (slot_of number) refl has (add_of (get_or counts (slot_of number) 0) 1) refl)

pub slot_one : (m n : ℕ) → HasSlot m → slot_of n ≡ slot_of m → m ≡ n
unfolding slot_of
slot_one m n has same = sym (place_one counted m n has same)

-- 17 and 22 have no count, so the counts stay as they are
pub stays_17 : (counts : List ℕ) → counts_after counts 17 ≡ counts
unfolding counts_after slot_of lowest
stays_17 counts = refl

pub stays_22 : (counts : List ℕ) → counts_after counts 22 ≡ counts
unfolding counts_after slot_of lowest
stays_22 counts = refl
