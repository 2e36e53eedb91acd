-- The frames of an input: one for each whole record, until there is none at the front.
-- Assumes nothing.
use mathlib.Core.Path.{◌≡◌, refl, sym, ap, ◌∙◌}
use mathlib.Core.List.{List, [], ◌∷◌}
use Prim.Native.Nat.{ℕ, zero, suc, ◌≤◌}
use native.Mathlib.Nat.{le_refl}
use native.Mathlib.Omega.{arith}
use lib.ListN.{length, drop, length-drop}
use Rattle.header.specs.declared.Rules.{Rules}
use Rattle.frame.specs.Frames.{Frame}
use Rattle.record.specs.declared.Cut.{Cut}
use Rattle.record.specs.declared.Cut.TheVariants.{Record, TooLong, Short}
use Rattle.record.specs.Records.{record_size, cut_of}
use Rattle.record.proofs.Cuts.{no_length}
use Rattle.frame.specs.Recorded.{frame_in}
use Rattle.listing.specs.Offers.{frames_at, frames_within, frames_in}

module _ (rules : Rules) where
  -- what is done with the bytes after the first record matters only there
  at_same : (l : List ℕ) (more other : List ℕ → List Frame) → ((n : ℕ) → more (drop (record_size n) l) ≡ other (drop (record_size n) l)) → (c : Cut) → frames_at rules l c more ≡ frames_at rules l c other
  at_same l more other same (Record n) = ap (λ (fs : List Frame). frame_in rules n l ∷ fs) (same n)
  at_same l more other same TooLong = refl
  at_same l more other same Short = refl

  none_within : (most : ℕ) (l : List ℕ) → length l ≤ 0 → frames_within rules most l ≡ []
  none_within zero l h = refl
  none_within (suc most) l h = rw (← no_length l (omega arith))

  -- as many records as there are bytes are enough
  enough : (j k : ℕ) (l : List ℕ) → length l ≤ j → length l ≤ k → frames_within rules j l ≡ frames_within rules k l
  enough zero k l a b = sym (none_within k l a)
  enough (suc j) zero l a b = none_within (suc j) l b
  enough (suc j) (suc k) l a b =
      at_same l (frames_within rules j) (frames_within rules k) (λ n. enough j k (drop (record_size n) l) (omega (arith, length-drop (record_size n) l)) (omega (arith, length-drop (record_size n) l))) (cut_of l)

  module _ (l : List ℕ) where
    frames_next : frames_in rules l ≡ frames_at rules l (cut_of l) (frames_in rules)
    unfolding frames_in
    frames_next =
        enough (length l) (suc (length l)) l (le_refl (length l)) (omega arith)
        ∙ at_same l (frames_within rules (length l)) (λ m. frames_within rules (length m) m) (λ n. enough (length l) (length (drop (record_size n) l)) (drop (record_size n) l) (omega (arith, length-drop (record_size n) l)) (omega arith)) (cut_of l)

    -- the frame of the first record, and then those of the others
    pub frames_more : (n : ℕ) → cut_of l ≡ Record n → frames_in rules l ≡ frame_in rules n l ∷ frames_in rules (drop (record_size n) l)
    frames_more n e = frames_next ∙ rw e

    -- no record, no frame
    pub frames_long : cut_of l ≡ TooLong → frames_in rules l ≡ []
    frames_long e = frames_next ∙ rw e

    pub frames_short : cut_of l ≡ Short → frames_in rules l ≡ []
    frames_short e = frames_next ∙ rw e
