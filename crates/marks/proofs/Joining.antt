-- What is kept and the piece after it, as one list: read element by element, by the edge around the piece's start, and by windows.
-- Assumes nothing.
use mathlib.Core.Path.{◌≡◌, sym, ap, ◌∙◌}
use mathlib.Core.List.{List, ◌++◌}
use Prim.Native.Nat.{ℕ, ◌+◌, ◌-◌, ◌≤◌, ◌<◌}
use native.Mathlib.Omega.{arith}
use lib.ListN.{length, get_or, take, drop, length-append, length-drop, get_or-append, get_or-eq_default}
use lib.Seq.{get_or-append-add, get_or-take, get_or-drop, length-take-le, drop-append-add, ext_get_or}
use Rattle.base.proofs.Tabulate.{tabulate_length, tabulate_at}
use Rattle.marks.specs.Marked.{window_bits}
use Rattle.marks.specs.Scanning.{edge_bits, edge_of}

module _ (kept piece : List ℕ) (long : length kept ≡ window_bits) where
  pub in_kept : (i : ℕ) → i < window_bits → get_or kept i 0 ≡ get_or (kept ++ piece) i 0
  in_kept i h = sym (get_or-append kept piece 0 i (omega arith))

  pub in_piece : (i : ℕ) → window_bits ≤ i → get_or piece (i - window_bits) 0 ≡ get_or (kept ++ piece) i 0
  in_piece i h =
      let e : length kept + (i - window_bits) ≡ i = omega arith in
      sym (rw e at (get_or-append-add kept piece (i - window_bits) 0))

  pub past_piece : (i : ℕ) → window_bits ≤ i → length piece ≤ i - window_bits → 0 ≡ get_or (kept ++ piece) i 0
  past_piece i h past = sym (get_or-eq_default (kept ++ piece) 0 {n = i} (rw length-append (omega arith)))

  -- past what is kept stands the piece
  pub drop_kept : (i : ℕ) → window_bits ≤ i → drop (i - window_bits) piece ≡ drop i (kept ++ piece)
  drop_kept i h =
      let e : length kept + (i - window_bits) ≡ i = omega arith in
      sym (rw e at (drop-append-add kept piece (i - window_bits)))

-- element i of a list
abbrev pub element_of : List ℕ → ℕ → ℕ
element_of l i = get_or l i 0

pub edge_length : (l : List ℕ) → length (edge_of l) ≡ edge_bits
unfolding edge_of
edge_length l = tabulate_length (element_of l) edge_bits

pub edge_at : (l : List ℕ) (i : ℕ) → i < edge_bits → get_or (edge_of l) i 0 ≡ get_or l i 0
unfolding edge_of
edge_at l i h = tabulate_at (element_of l) 0 edge_bits i h

-- the window at index k is that of the edge
of_edge : (v : List ℕ) (k : ℕ) (e w : List ℕ) → e ≡ edge_of v → k < window_bits → k + window_bits ≤ length v → w ≡ take window_bits (drop k e)
    → w ≡ take window_bits (drop k v)
of_edge v k e w is h room ew =
    ew ∙ ap (λ (l : List ℕ). take window_bits (drop k l)) is
    ∙ ext_get_or 0 (take window_bits (drop k (edge_of v))) (take window_bits (drop k v)) (edge_long ∙ sym here_long)
    (λ i lt. let near : i < window_bits = rw edge_long at lt in
    get_or-take window_bits (drop k (edge_of v)) i 0 near ∙ get_or-drop k (edge_of v) i 0 ∙ edge_at v (k + i) (omega arith)
    ∙ sym (get_or-take window_bits (drop k v) i 0 near ∙ get_or-drop k v i 0))
  where
    edge_long : length (take window_bits (drop k (edge_of v))) ≡ window_bits
    edge_long = length-take-le window_bits (drop k (edge_of v)) (simp (length-drop, edge_length) (omega arith))

    here_long : length (take window_bits (drop k v)) ≡ window_bits
    here_long = length-take-le window_bits (drop k v) (simp length-drop (omega arith))

-- it is that of the edge, or that of the piece
pub window_of_edge : (kept piece : List ℕ) (k : ℕ) (e w : List ℕ) → e ≡ edge_of (kept ++ piece) → length kept ≡ window_bits → k < window_bits → k ≤ length piece
    → w ≡ take window_bits (drop k e) → w ≡ take window_bits (drop k (kept ++ piece))
window_of_edge kept piece k e w is long h room ew = of_edge (kept ++ piece) k e w is h (rw length-append (omega arith)) ew

pub window_of_piece : (kept piece : List ℕ) (k : ℕ) (w : List ℕ) → length kept ≡ window_bits → window_bits ≤ k → w ≡ take window_bits (drop (k - window_bits) piece)
    → w ≡ take window_bits (drop k (kept ++ piece))
window_of_piece kept piece k w long h ew = ew ∙ ap (take window_bits) (drop_kept kept piece long k h)
