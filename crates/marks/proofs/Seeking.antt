-- The search for the marker: the loop, and two searches one after the other.
-- Assumes nothing.
use mathlib.Core.Path.{◌≡◌, refl, sym, ap, ◌∙◌}
use mathlib.Core.Bool.{Bool, true, false}
use mathlib.Core.List.{List, ◌++◌}
use mathlib.Core.Logic.{◌⊎◌, inl, inr, ⊎_elim}
use Prim.Native.Nat.{ℕ, ◌+◌, ◌-◌, ◌≤◌, ◌<◌, zero-le}
use native.Mathlib.Nat.{le_refl, eq-or-lt_of_le, le_of_suc-le-suc, not-suc-le-zero}
use native.Mathlib.Numerals.{add-one}
use native.Mathlib.Omega.{arith}
use lib.Bits.{bit_and, and_zero_l, and_zero_r}
use lib.ListN.{length, get_or, drop}
use lib.Seq.{get_or-drop}
use Rattle.base.proofs.Tests.{lt_or_ge}
use Rattle.marks.specs.Marked.{window_bits, is_marker}
use Rattle.marks.specs.Scanning.{block_size, Clear, Sought, edge_of}
use Rattle.marks.proofs.Marker.{same_front}
use Rattle.marks.proofs.Joining.{edge_at, drop_kept}

clear_none : (bits : List ℕ) (from : ℕ) → Clear bits from from
clear_none bits from i a b = absurd (omega arith)

clear_more : (bits : List ℕ) (from k : ℕ) → Clear bits from k → is_marker (drop k bits) ≡ false → Clear bits from (k + 1)
clear_more bits from k before here i a b =
    ⊎_elim (λ (same : i ≡ k). rw same here) (λ (lt : i < k). before i a lt) (eq-or-lt_of_le (le_of_suc-le-suc (rw add-one at b)))

clear_join : (bits : List ℕ) (from mid k : ℕ) → Clear bits from mid → Clear bits mid k → Clear bits from k
clear_join bits from mid k one two i a b = ⊎_elim (λ (lt : i < mid). one i a lt) (λ (le : mid ≤ i). two i le b) (lt_or_ge i mid)

-- A BLOCK: `all` is 0 where a marker stands at one of the first i indices of the block at k
pub record Clearing (bits : List ℕ) (k i all : ℕ) : Type 0 where
  pub inside : i ≤ block_size
  pub zero_at : (j : ℕ) → j < i → is_marker (drop (k + j) bits) ≡ true → all ≡ 0

pub clear_starts : (bits : List ℕ) (k : ℕ) → Clearing bits k 0 1
clear_starts bits k = record { inside = zero-le; zero_at = λ j h m. absurd (not-suc-le-zero h) }

module _ (bits : List ℕ) (k i all : ℕ) (so : Clearing bits k i all) where
  pub clear_goes_on : (one : ℕ) → i < block_size → (is_marker (drop (k + i) bits) ≡ true → one ≡ 0) → Clearing bits k (i + 1) (bit_and all one)
  clear_goes_on one h e = record { inside = omega arith; zero_at = λ j lt m. at j m (eq-or-lt_of_le (le_of_suc-le-suc (rw add-one at lt))) }
    where
      at : (j : ℕ) → is_marker (drop (k + j) bits) ≡ true → (j ≡ i) ⊎ (j < i) → bit_and all one ≡ 0
      at j m (inl same) = ap (bit_and all) (e (rw same at m)) ∙ and_zero_r all
      at j m (inr lt) = ap (λ (n : ℕ). bit_and n one) (so.zero_at j lt m) ∙ and_zero_l one

  pub clear_ends : block_size ≤ i → 0 < all → Clear bits k (k + block_size)
  clear_ends h some n a b =
      not_marker (is_marker (drop n bits)) refl
    where
      not_marker : (t : Bool) → is_marker (drop n bits) ≡ t → is_marker (drop n bits) ≡ false
      not_marker false e = e
      not_marker true e =
          let there : k + (n - k) ≡ n = omega arith in
          absurd (omega (arith, so.zero_at (n - k) (omega arith) (ap (λ (x : ℕ). is_marker (drop x bits)) there ∙ e)))

-- THE LOOP: no marker stands before k
pub record Seeking (bits : List ℕ) (from end k : ℕ) : Type 0 where
  pub begun : from ≤ k
  pub inside : k ≤ end
  pub before : Clear bits from k

pub seek_starts : (bits : List ℕ) (from end : ℕ) → from ≤ end → Seeking bits from end from
seek_starts bits from end h = record { begun = le_refl from; inside = h; before = clear_none bits from }

module _ (bits : List ℕ) (from end k : ℕ) (so : Seeking bits from end k) where
  -- index by index
  pub look_goes_on : k < end → (b : Bool) → b ≡ is_marker (drop k bits) → b ≡ false → Seeking bits from end (k + 1)
  look_goes_on h b is none = record { begun = omega (arith, so.begun); inside = omega arith; before = clear_more bits from k so.before (sym is ∙ none) }

  pub look_stops : (b : Bool) → b ≡ is_marker (drop k bits) → b ≡ true → Sought bits from end k
  look_stops b is mark = record { begun = so.begun; inside = so.inside; before = so.before; there = λ h. sym is ∙ mark }

  pub look_ends : end ≤ k → Sought bits from end k
  look_ends h = record { begun = so.begun; inside = so.inside; before = so.before; there = λ lt. absurd (omega arith) }

  -- block by block: one is clear, one is looked through, the rest
  pub seek_skips : (all : ℕ) → block_size ≤ end - k → (0 < all → Clear bits k (k + block_size)) → 0 < all → Seeking bits from end (k + block_size)
  seek_skips all h is some =
      record { begun = omega (arith, so.begun); inside = omega (arith, so.inside); before = clear_join bits from k (k + block_size) so.before (is some) }

  pub seek_goes_on : (r : ℕ) → block_size ≤ end - k → Sought bits k (k + block_size) r → k + block_size ≤ r → Seeking bits from end (k + block_size)
  seek_goes_on r h looked none =
      let all : r ≡ k + block_size = omega (arith, looked.inside) in
      record { begun = omega (arith, so.begun); inside = omega (arith, so.inside); before = clear_join bits from k (k + block_size) so.before (rw all at looked.before) }

  pub seek_stops : (r : ℕ) → block_size ≤ end - k → Sought bits k (k + block_size) r → r < k + block_size → Sought bits from end r
  seek_stops r h looked found =
      record { begun = omega (arith, so.begun, looked.begun); inside = omega (arith, so.inside); before = clear_join bits from k r so.before looked.before; there = λ lt. looked.there found }

  pub seek_ends : (r : ℕ) → Sought bits k end r → Sought bits from end r
  seek_ends r looked =
      record { begun = omega (arith, so.begun, looked.begun); inside = looked.inside; before = clear_join bits from k r so.before looked.before; there = looked.there }

-- THE EDGE AND THE PIECE
pub sought_edge : (v : List ℕ) (from end k : ℕ) (e : List ℕ) → e ≡ edge_of v → end ≤ window_bits → Sought e from end k → Sought v from end k
sought_edge v from end k e is room so = record {
  begun = so.begun;
  inside = so.inside;
  before = λ i a b. sym (same i (omega (arith, so.inside))) ∙ so.before i a b;
  there = λ h. sym (same k (omega arith)) ∙ so.there h;
}
  where
    same : (i : ℕ) → i < window_bits → is_marker (drop i e) ≡ is_marker (drop i v)
    same i h =
        same_front (drop i e) (drop i v)
        (λ j lt. get_or-drop i e j 0 ∙ ap (λ (l : List ℕ). get_or l (i + j) 0) is ∙ edge_at v (i + j) (omega arith) ∙ sym (get_or-drop i v j 0))

pub sought_piece : (kept piece : List ℕ) (from n j : ℕ) → length kept ≡ window_bits → window_bits ≤ from → from ≤ n
    → Sought piece (from - window_bits) (n + 1 - window_bits) j → Sought (kept ++ piece) from (n + 1) (window_bits + j)
sought_piece kept piece from n j long begun room so = record {
  begun = omega (arith, so.begun);
  inside = omega (arith, so.inside);
  before = λ i a b. ap is_marker (sym (drop_kept kept piece long i (omega arith))) ∙ so.before (i - window_bits) (omega arith) (omega arith);
  there = λ h. ap is_marker (sym (drop_kept kept piece long (window_bits + j) (omega arith))) ∙ there (omega arith);
}
  where
    there : j < n + 1 - window_bits → is_marker (drop (window_bits + j - window_bits) piece) ≡ true
    there h = let e : window_bits + j - window_bits ≡ j = omega arith in rw e (so.there h)

-- a search that found none, and the next
pub sought_join : (v : List ℕ) (from mid end k r : ℕ) → Sought v from mid k → mid ≤ k → Sought v mid end r → Sought v from end r
sought_join v from mid end k r one none two =
    let all : k ≡ mid = omega (arith, one.inside) in
    record { begun = omega (arith, one.begun, two.begun); inside = two.inside; before = clear_join v from mid r (rw all at one.before) two.before; there = two.there }

-- a search that found one, with a later end
pub sought_found : (v : List ℕ) (from mid n k : ℕ) → Sought v from mid k → k < mid → mid ≤ n → Sought v from (n + 1) k
sought_found v from mid n k one found more = record { begun = one.begun; inside = omega arith; before = one.before; there = λ h. one.there found }
