-- Items one after the other: how many are allowed at most does not matter, and one is taken at a time.
-- Assumes nothing.
use mathlib.Core.Path.{◌≡◌, refl, sym, ap, ◌∙◌}
use mathlib.Core.List.{List, [], ◌∷◌, ◌++◌}
use Prim.Native.Nat.{ℕ, zero, suc, ◌+◌, ◌≤◌, ◌<◌, zero-le}
use native.Mathlib.Nat.{le_refl}
use native.Mathlib.Omega.{arith}
use lib.ListN.{length, drop, length-drop}
use lib.Seq.{drop-drop}
use Rattle.walk.specs.Walks.{Front, whole, stops, waits, Walk, Ended, waiting, stopped, Walked, halt, behind, walk_at, walk_in, walk_of}

-- what a walk has to be: an item has bytes, which are there; what stands at the front, and what is made of it, stays whatever follows, unless it waits
pub record Sound {S I R : Type 0} (walk : Walk S I R) : Type 0 where
  pub some : (s : S) (l : List ℕ) (i : I) → walk.cut s l ≡ whole i → 0 < walk.size i
  pub there : (s : S) (l : List ℕ) (i : I) → walk.cut s l ≡ whole i → walk.size i ≤ length l
  pub none : (s : S) → walk.cut s [] ≡ waits
  pub whole_stays : (s : S) (l f : List ℕ) (i : I) → walk.cut s l ≡ whole i → walk.cut s (l ++ f) ≡ whole i
  pub stop_stays : (s : S) (l f : List ℕ) (why : R) → walk.cut s l ≡ stops why → walk.cut s (l ++ f) ≡ stops why
  pub next_stays : (s : S) (l f : List ℕ) (i : I) → walk.cut s l ≡ whole i → walk.next s i (l ++ f) ≡ walk.next s i l
  pub text_stays : (s : S) (l f : List ℕ) (i : I) → walk.cut s l ≡ whole i → walk.text s i (l ++ f) ≡ walk.text s i l

-- where no item is taken any more
pub data Stopped {S I R : Type 0} (walk : Walk S I R) (s : S) (l : List ℕ) : Ended R → Type 0 where
  halted : {why : R} → walk.cut s l ≡ stops why → Stopped walk s l (stopped why)
  short : walk.cut s l ≡ waits → Stopped walk s l waiting

-- what is left is the end of the bytes
pub record Suffix (l rest : List ℕ) : Type 0 where
  pub skip : ℕ
  pub inside : skip ≤ length l
  pub is : drop skip l ≡ rest

no_bytes : (l : List ℕ) → length l ≤ 0 → l ≡ []
no_bytes [] h = refl
no_bytes (x ∷ l) h = absurd (omega arith)

module _ {S I R : Type 0} (walk : Walk S I R) (sound : Sound walk) where
  abbrev Same : S → List ℕ → Front I R → Type 0
  Same s l front =
      (more other : S → List ℕ → Walked S R) → ((t : S) (i : I) → front ≡ whole i → more t (drop (walk.size i) l) ≡ other t (drop (walk.size i) l))
      → walk_at walk s l front more ≡ walk_at walk s l front other

  -- what is done with the bytes after the first item matters only there
  at_same : (s : S) (l : List ℕ) (front : Front I R) → Same s l front
  at_same s l (whole i) more other same = ap (behind (walk.text s i l)) (same (walk.next s i l) i refl)
  at_same s l (stops why) more other same = refl
  at_same s l waits more other same = refl

  none_in : (most : ℕ) (s : S) (l : List ℕ) → length l ≤ 0 → walk_in walk most s l ≡ halt s l waiting
  none_in zero s l h = refl
  none_in (suc most) s l h = rw (no_bytes l h, sound.none s)

  shorter : (s : S) (l : List ℕ) (i : I) → walk.cut s l ≡ whole i → length (drop (walk.size i) l) < length l
  shorter s l i e = omega (arith, sound.some s l i e, sound.there s l i e, length-drop (walk.size i) l)

  -- as many items as there are bytes are enough
  enough : (j k : ℕ) (s : S) (l : List ℕ) → length l ≤ j → length l ≤ k → walk_in walk j s l ≡ walk_in walk k s l
  enough zero k s l a b = sym (none_in k s l a)
  enough (suc j) zero s l a b = none_in (suc j) s l b
  enough (suc j) (suc k) s l a b =
      at_same s l (walk.cut s l) (walk_in walk j) (walk_in walk k)
      (λ t i e. enough j k t (drop (walk.size i) l) (omega (arith, shorter s l i e)) (omega (arith, shorter s l i e)))

  module _ (s : S) (l : List ℕ) where
    walk_next : walk_of walk s l ≡ walk_at walk s l (walk.cut s l) (walk_of walk)
    unfolding walk_of
    walk_next =
        enough (length l) (suc (length l)) s l (le_refl (length l)) (omega arith)
        ∙ at_same s l (walk.cut s l) (walk_in walk (length l)) (λ t m. walk_in walk (length m) t m)
        (λ t i e. enough (length l) (length (drop (walk.size i) l)) t (drop (walk.size i) l) (omega (arith, shorter s l i e)) (le_refl (length (drop (walk.size i) l))))

    pub walk_stops : (ended : Ended R) → Stopped walk s l ended → walk_of walk s l ≡ halt s l ended
    walk_stops ended (halted e) = walk_next ∙ rw e
    walk_stops ended (short e) = walk_next ∙ rw e

    pub walk_takes : (i : I) → walk.cut s l ≡ whole i → walk_of walk s l ≡ behind (walk.text s i l) (walk_of walk (walk.next s i l) (drop (walk.size i) l))
    walk_takes i e = walk_next ∙ rw e

  -- what holds where no item is taken, and of some bytes where it holds of those after their first item, holds of all
  module _ (P : S → List ℕ → Type 0)
      (stopping : (s : S) (l : List ℕ) (ended : Ended R) → Stopped walk s l ended → P s l)
      (taking : (s : S) (l : List ℕ) (i : I) → walk.cut s l ≡ whole i → P (walk.next s i l) (drop (walk.size i) l) → P s l) where
    within : (most : ℕ) (s : S) (l : List ℕ) → length l ≤ most → P s l
    within zero s l h = stopping s l waiting (short (rw (no_bytes l h) (sound.none s)))
    within (suc most) s l h = by (walk.cut s l) refl (λ t i e. within most t (drop (walk.size i) l) (omega (arith, shorter s l i e)))
      where
        by : (front : Front I R) → walk.cut s l ≡ front → ((t : S) (i : I) → walk.cut s l ≡ whole i → P t (drop (walk.size i) l)) → P s l
        by (whole i) e more = taking s l i e (more (walk.next s i l) i e)
        by (stops why) e more = stopping s l (stopped why) (halted e)
        by waits e more = stopping s l waiting (short e)

    pub by_items : (s : S) (l : List ℕ) → P s l
    by_items s l = within (length l) s l (le_refl (length l))

  -- what is left when nothing more is taken
  pub walk_stopped : (s : S) (l : List ℕ) → Stopped walk (walk_of walk s l).state (walk_of walk s l).rest (walk_of walk s l).ended
  walk_stopped =
      by_items (λ s l. Stopped walk (walk_of walk s l).state (walk_of walk s l).rest (walk_of walk s l).ended)
      (λ s l ended so. rw (walk_stops s l ended so) so)
      (λ s l i e more. rw (walk_takes s l i e) more)

  pub walk_rest : (s : S) (l : List ℕ) → Suffix l (walk_of walk s l).rest
  walk_rest =
      by_items (λ s l. Suffix l (walk_of walk s l).rest)
      (λ s l ended so. record { skip = 0; inside = zero-le; is = rw (walk_stops s l ended so) })
      (λ s l i e more. record {
        skip = walk.size i + more.skip;
        inside = omega (arith, more.inside, sound.there s l i e, length-drop (walk.size i) l);
        is = sym (drop-drop more.skip (walk.size i) l) ∙ rw (walk_takes s l i e) more.is;
      })
