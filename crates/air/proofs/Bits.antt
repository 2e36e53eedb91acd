-- Are all elements 0 or 1: the search for the lowest that is not, and the union of all.
-- Assumes nothing.
use mathlib.Core.Path.{◌≡◌, sym}
use mathlib.Core.Bool.{Bool}
use mathlib.Core.List.{List, [], ◌∷◌, foldl}
use mathlib.Core.Logic.{⊎_elim}
use Prim.Native.Nat.{ℕ, zero, suc, ◌+◌, ◌≤◌, ◌<◌, suc-le-suc}
use native.Mathlib.Nat.{lt_of_le_of_lt}
use native.Mathlib.Omega.{arith}
use lib.Bits.{bit_or, or_add_and, and_le_l, and_le_r}
use lib.Dec.{ltb, lit<}
use lib.ListN.{length, get_or, take, get_or-eq_default}
use lib.Seq.{get_or-take, length-take-le}
use borrow.Author.Tests.{lt-ltb, le-ltb, ltb-false}
use Rattle.base.specs.Lists.{AreBits}
use Rattle.base.proofs.Tests.{lt_or_ge}
use Rattle.base.proofs.Lowest.{Passed, starts, goes_on, stops, ends, lowest_none, lowest_is}
use Rattle.air.specs.Air.{first_no_bit}

-- element k is above 1
abbrev pub no_bit : List ℕ → ℕ → Bool
no_bit l k = ltb 1 (get_or l k 0)

-- the elements before i are 0 or 1
abbrev pub Looked : List ℕ → ℕ → Type 0
Looked l i = Passed (length l) (no_bit l) i

pub look_starts : (l : List ℕ) → Looked l 0
look_starts l = starts (length l) (no_bit l)

module _ (l : List ℕ) (i : ℕ) (so : Looked l i) where
  pub look_goes_on : i < length l → get_or l i 0 ≤ 1 → Looked l (i + 1)
  look_goes_on h b = goes_on (length l) (no_bit l) i so h (le-ltb 1 (get_or l i 0) b)

  pub look_stops : i < length l → 1 < get_or l i 0 → i ≡ first_no_bit l
  unfolding first_no_bit
  look_stops h b = stops (length l) (no_bit l) i so h (lt-ltb 1 (get_or l i 0) b)

  pub look_ends : length l ≤ i → i ≡ first_no_bit l
  unfolding first_no_bit
  look_ends h = ends (length l) (no_bit l) i so h

pub no_bit_le : (l : List ℕ) → first_no_bit l ≤ length l
unfolding first_no_bit
no_bit_le l = (lowest_is (no_bit l) (length l)).inside

-- all are bits exactly where the search comes to the end
pub no_bit_none : (l : List ℕ) → AreBits l → first_no_bit l ≡ length l
unfolding first_no_bit
no_bit_none l bits = lowest_none (length l) (no_bit l) (λ k h. le-ltb 1 (get_or l k 0) (omega (arith, bits k)))

pub are_bits : (l : List ℕ) → first_no_bit l ≡ length l → AreBits l
unfolding first_no_bit
are_bits l e k =
    ⊎_elim
    (λ (h : k < length l). suc-le-suc (ltb-false 1 (get_or l k 0) ((rw e at (lowest_is (no_bit l) (length l)).before) k h)))
    (λ (h : length l ≤ k). rw (get_or-eq_default l 0 {n = k} h) (lit< tt))
    (lt_or_ge k (length l))

-- those before the search's answer are bits
pub bits_before : (l : List ℕ) → AreBits (take (first_no_bit l) l)
unfolding first_no_bit
bits_before l k =
    ⊎_elim
    (λ (h : k < first_no_bit l). rw (get_or-take (first_no_bit l) l k 0 h) (suc-le-suc (ltb-false 1 (get_or l k 0) ((lowest_is (no_bit l) (length l)).before k h))))
    (λ (h : first_no_bit l ≤ k).
    rw (get_or-eq_default (take (first_no_bit l) l) 0 {n = k} (rw (length-take-le (first_no_bit l) l (no_bit_le l)) h)) (lit< tt))
    (lt_or_ge k (first_no_bit l))

-- a union is at least each of its parts
or_right : (a b : ℕ) → b ≤ bit_or a b
or_right a b = omega (arith, or_add_and a b, and_le_l a b)

or_left : (a b : ℕ) → a ≤ bit_or a b
or_left a b = omega (arith, or_add_and a b, and_le_r a b)

union : (acc : ℕ) (l : List ℕ) → foldl bit_or acc l < 2 → (acc < 2) × AreBits l
union acc [] h = (h, λ k. lit< tt)
union acc (x ∷ xs) h =
    let rest = union (bit_or acc x) xs h in
    (lt_of_le_of_lt (or_left acc x) rest.0, cons x xs (lt_of_le_of_lt (or_right acc x) rest.0) rest.1)
  where
    cons : (x : ℕ) (xs : List ℕ) → x < 2 → AreBits xs → AreBits (x ∷ xs)
    cons x xs b bits zero = b
    cons x xs b bits (suc k) = bits k

pub union_bits : (l : List ℕ) (all : ℕ) → all ≡ foldl bit_or 0 l → all < 2 → length l ≡ first_no_bit l
union_bits l all e h = sym (no_bit_none l (union 0 l (rw e at h)).1)
