-- A number above 255 counts as 255: no field allows either, so the answer is the same, and what is written has the numbers themselves.
-- Assumes nothing.
use mathlib.Core.Path.{◌≡◌, refl, sym, ap, ap₂, ◌∙◌}
use mathlib.Core.Bool.{Bool}
use mathlib.Core.List.{List, [], ◌∷◌, map}
use mathlib.Core.Logic.{⊎_elim}
use Prim.Native.Nat.{ℕ, suc, ◌<◌, ◌≤◌}
use native.Mathlib.Nat.{le_trans}
use native.Mathlib.Omega.{arith}
use lib.Dec.{ltb, ltb→lt}
use lib.ListN.{get_or, get_or-map, get_or-eq_default}
use borrow.Author.Tests.{lt-ltb, le-ltb}
use Rattle.base.specs.declared.Edition.{Edition}
use Rattle.base.specs.declared.Edition.TheVariants.{Flown, Corrected}
use Rattle.base.specs.Written.{done}
use Rattle.base.specs.Lists.{lowest}
use Rattle.base.proofs.Tests.{lt_or_ge}
use Rattle.base.proofs.Lowest.{Lowest, lowest_is, lowest_only, every_below}
use Rattle.header.specs.declared.Fields.{Fields}
use Rattle.header.specs.Fields.{field_count, fields_from, values_of}
use Rattle.header.specs.Writing.{most_of, first_over}
use Rattle.header.proofs.Ranges.{in_range}
use Rattle.record_writer.specs.Writing.{write_record_of, RecordWritten}
use Rattle.record_writer.proofs.ReadBack.{recorded}
use Rattle.write.specs.Bytes.{capped_of, capped_fields}

-- the two ways of `capped`
pub above : (n : ℕ) → 255 < n → 255 ≡ capped_of n
above n h = rw (lt-ltb 255 n h)

pub within : (n : ℕ) → n ≤ 255 → n ≡ capped_of n
within n h = rw (le-ltb 255 n h)

-- no field may be 255
below_255 : (edition : Edition) (k : ℕ) → k < field_count → most_of edition k < 255
unfolding lowest
below_255 Flown k h = ltb→lt (most_of Flown k) 255 (every_below field_count (λ k. ltb (most_of Flown k) 255) refl k h)
below_255 Corrected k h = ltb→lt (most_of Corrected k) 255 (every_below field_count (λ k. ltb (most_of Corrected k) 255) refl k h)

-- so a bound below 255 is passed by a number as it is by the number counted
same_test : (most n : ℕ) → most < 255 → ltb most (capped_of n) ≡ ltb most n
same_test most n small =
    ⊎_elim (λ (h : 255 < n). rw (← above n h, lt-ltb most 255 small, lt-ltb most n (omega arith)))
    (λ (h : n ≤ 255). rw (← within n h))
    (lt_or_ge 255 n)

-- tests that agree below n find the same number
same_lowest : (n : ℕ) (a b : ℕ → Bool) → ((k : ℕ) → k < n → a k ≡ b k) → lowest n a ≡ lowest n b
same_lowest n a b same =
    let found : Lowest a n (lowest n a) = lowest_is a n in
    lowest_only b n (lowest n a) (lowest n b)
    (record {
      inside = found.inside;
      before = λ k h. sym (same k (le_trans h found.inside)) ∙ found.before k h;
      passes = λ h. sym (same (lowest n a) h) ∙ found.passes h;
    })
    (lowest_is b n)

pub capped_over : (edition : Edition) (values : List ℕ) → first_over edition (map capped_of values) ≡ first_over edition values
capped_over edition values =
    same_lowest field_count (λ k. ltb (most_of edition k) (get_or (map capped_of values) k 0)) (λ k. ltb (most_of edition k) (get_or values k 0))
    (λ k h. ap (ltb (most_of edition k)) (get_or-map capped_of values k 0) ∙ same_test (most_of edition k) (get_or values k 0) (below_255 edition k h))

-- THE ANSWER IS THE SAME, whatever the numbers are
pub capped_answer : (edition : Edition) (f : Fields) (payload : List ℕ) (room : ℕ) → write_record_of edition (capped_fields f) payload room ≡ write_record_of edition f payload room
unfolding write_record_of
capped_answer edition f payload room = rw (capped_over edition (values_of f))

-- AND WHAT IS WRITTEN HAS THE NUMBERS THEMSELVES
same_list : (l : List ℕ) → ((k : ℕ) → get_or l k 0 ≤ 255) → map capped_of l ≡ l
same_list [] small = refl
same_list (n ∷ l) small = ap₂ ◌∷◌ (sym (within n (small 0))) (same_list l (λ k. small (suc k)))

pub written_numbers : (edition : Edition) (f : Fields) (payload before after : List ℕ) → RecordWritten edition (capped_fields f) payload before done after → capped_fields f ≡ f
written_numbers edition f payload before after so =
    let ranges : field_count ≤ first_over edition (values_of f) = rw (capped_over edition (values_of f)) at (recorded edition (capped_fields f) payload before after so).writable.ranges in
    ap fields_from
    (same_list (values_of f)
    (λ (k : ℕ).
    ⊎_elim (λ (h : k < field_count). omega (arith, in_range edition (values_of f) ranges k h, below_255 edition k h))
    (λ (h : field_count ≤ k). omega (arith, get_or-eq_default (values_of f) 0 {n = k} h))
    (lt_or_ge k field_count)))
