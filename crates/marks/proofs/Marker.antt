-- The marker at the front of a list: looked for bit by bit, and twelve bits at once.
-- Assumes nothing.
use mathlib.Core.Path.{◌≡◌, sym, ap, ◌∙◌}
use mathlib.Core.Bool.{Bool, true, false, not}
use mathlib.Core.List.{List}
use Prim.Native.Nat.{ℕ, ◌+◌, ◌≤◌, ◌<◌}
use native.Mathlib.Nat.{add-zero}
use native.Mathlib.Omega.{arith}
use lib.Bits.{bit_and, bit_or, bit_xor}
use lib.Dec.{eqb, lit<}
use lib.ListN.{get_or, drop}
use lib.Seq.{get_or-drop}
use borrow.Author.Tests.{eq-eqb, ne_eqb, eqb-true}
use Rattle.base.specs.Lists.{lowest}
use Rattle.base.proofs.Tests.{differs_not, not_differs}
use Rattle.base.proofs.Lowest.{Lowest, Passed, starts, goes_on, stops, ends, lowest_is, lowest_only}
use Rattle.marks.specs.Marked.{marker_bits, marker_bit, is_marker}

lowest_same : (n : ℕ) (f g : ℕ → Bool) → ((k : ℕ) → k < n → f k ≡ g k) → lowest n f ≡ lowest n g
lowest_same n f g same =
    let low : Lowest f n (lowest n f) = lowest_is f n in
    lowest_only g n (lowest n f) (lowest n g)
    (record { inside = low.inside; before = λ k h. sym (same k (omega (arith, low.inside))) ∙ low.before k h; passes = λ h. sym (same (lowest n f) h) ∙ low.passes h })
    (lowest_is g n)

-- element i is another than the marker's
abbrev other : List ℕ → ℕ → Bool
other l i = not (eqb (get_or l i 0) (marker_bit i))

-- BIT BY BIT: the elements from k on, i of them, are the marker's
abbrev pub Alike : List ℕ → ℕ → ℕ → Type 0
Alike bits k i = Passed marker_bits (other (drop k bits)) i

pub alike_starts : (bits : List ℕ) (k : ℕ) → Alike bits k 0
alike_starts bits k = starts marker_bits (other (drop k bits))

module _ (bits : List ℕ) (k i : ℕ) (so : Alike bits k i) (b : ℕ) (is : b ≡ marker_bit i) where
  pub alike_goes_on : i < marker_bits → get_or bits (k + i) 0 ≡ b → Alike bits k (i + 1)
  alike_goes_on h e = goes_on marker_bits (other (drop k bits)) i so h (differs_not (get_or (drop k bits) i 0) (marker_bit i) (get_or-drop k bits i 0 ∙ e ∙ is))

  pub alike_stops : i < marker_bits → (get_or bits (k + i) 0 ≡ b → ⊥) → false ≡ is_marker (drop k bits)
  unfolding is_marker
  alike_stops h n =
      let here : other (drop k bits) i ≡ true = ap not (ne_eqb (get_or (drop k bits) i 0) (marker_bit i) (λ e. n (sym (get_or-drop k bits i 0) ∙ e ∙ sym is))) in
      let low : i ≡ lowest marker_bits (other (drop k bits)) = stops marker_bits (other (drop k bits)) i so h here in
      sym (ne_eqb (lowest marker_bits (other (drop k bits))) marker_bits (λ e. absurd (omega (arith, low, e))))

pub alike_ends : (bits : List ℕ) (k i : ℕ) → Alike bits k i → marker_bits ≤ i → true ≡ is_marker (drop k bits)
unfolding is_marker
alike_ends bits k i so h =
    let low : i ≡ lowest marker_bits (other (drop k bits)) = ends marker_bits (other (drop k bits)) i so h in
    let all : i ≡ marker_bits = omega (arith, so.inside) in
    sym (eq-eqb (lowest marker_bits (other (drop k bits))) marker_bits (sym low ∙ all))

marker_bits_lem : (l : List ℕ) → is_marker l ≡ true → (j : ℕ) → j < marker_bits → get_or l j 0 ≡ marker_bit j
unfolding is_marker
marker_bits_lem l m j h =
    let low : lowest marker_bits (other l) ≡ marker_bits = eqb-true (lowest marker_bits (other l)) marker_bits m in
    not_differs (get_or l j 0) (marker_bit j) ((rw low at (lowest_is (other l) marker_bits).before) j h)

-- what stands after the 32 elements does not matter
pub same_front : (l m : List ℕ) → ((j : ℕ) → j < marker_bits → get_or l j 0 ≡ get_or m j 0) → is_marker l ≡ is_marker m
unfolding is_marker
same_front l m same =
    ap (λ (n : ℕ). eqb n marker_bits) (lowest_same marker_bits (other l) (other m) (λ j h. ap (λ (x : ℕ). not (eqb x (marker_bit j))) (same j h)))

-- twelve of them at once: those that are 1, those that are 0, and whether one is another
abbrev ones : List ℕ → ℕ → ℕ
ones l k = bit_and (bit_and (bit_and (bit_and (get_or l k 0) (get_or l (k + 1) 0)) (get_or l (k + 4) 0)) (get_or l (k + 9) 0)) (get_or l (k + 11) 0)

abbrev zeros : List ℕ → ℕ → ℕ
zeros l k = bit_or (bit_or (bit_or (get_or l (k + 2) 0) (get_or l (k + 3) 0)) (get_or l (k + 5) 0)) (get_or l (k + 6) 0)

abbrev unlike_of : List ℕ → ℕ → ℕ
unlike_of l k = bit_or (bit_or (bit_or (bit_or (bit_xor (ones l k) 1) (zeros l k)) (get_or l (k + 7) 0)) (get_or l (k + 8) 0)) (get_or l (k + 10) 0)

pub unlike_marker : (bits : List ℕ) (k : ℕ) → is_marker (drop k bits) ≡ true → unlike_of bits k ≡ 0
unlike_marker bits k m =
    rw (at_front, there 1 (lit< tt), there 2 (lit< tt), there 3 (lit< tt), there 4 (lit< tt), there 5 (lit< tt), there 6 (lit< tt), there 7 (lit< tt), there 8 (lit< tt), there 9 (lit< tt), there 10 (lit< tt), there 11 (lit< tt))
  where
    there : (j : ℕ) → j < marker_bits → get_or bits (k + j) 0 ≡ marker_bit j
    there j h = sym (get_or-drop k bits j 0) ∙ marker_bits_lem (drop k bits) m j h

    at_front : get_or bits k 0 ≡ marker_bit 0
    at_front = ap (λ (i : ℕ). get_or bits i 0) (sym (add-zero k)) ∙ there 0 (lit< tt)
