-- THE NEAREST VALID WORD. "A word becomes the valid word that differs in at most three places, if there is one": `Close` is that rule.
-- "Demand 3 is stated over demand 2's definition of nearest valid word": the rules that accept a header ask that its fourteen words are `Close` to
-- valid ones (`AllClose`), and here word repair, whose table and search demand 3 holds together, answers just these.
-- Assumes nothing.
use mathlib.Core.Path.{◌≡◌, sym, ap, ◌∙◌}
use mathlib.Core.List.{List}
use Prim.Native.Nat.{ℕ, ◌<◌, ◌≤◌}
use lib.Bits.{bit_xor}
use lib.ListN.{get_or}
use Rattle.word.specs.Words.{word_limit}
use Rattle.word.specs.Repairs.{Close, found, beyond, repair_of}
use Rattle.word.proofs.Valids.{valid_one}
use Rattle.word.proofs.Answer.{repair_above, repair_close, repair_far, repair_word, repair_beyond}
use Rattle.air.specs.Air.{word_count}
use Rattle.air.specs.WordRepairs.{first_beyond, repaired_of, patterns_in}
use Rattle.air.specs.Closeness.{AllClose, differences}
use Rattle.air.proofs.Restored.{restored_none, restored_words, restored_patterns, repaired_all_close}

-- a word becomes v, "and the flip pattern itself" is where they differ, exactly when v is valid and within three places
pub repaired_exactly : (w v pattern : ℕ) → w < word_limit
    → (repair_of w ≡ found v pattern → Close w v × (pattern ≡ bit_xor w v)) × (Close w v → pattern ≡ bit_xor w v → repair_of w ≡ found v pattern)
repaired_exactly w v pattern h = (repair_word w v pattern h, λ close is. repair_close w v h close ∙ ap (found v) (sym is))

-- "if there is one": it is beyond repair exactly when there is no valid word within three places
pub beyond_exactly : (w : ℕ) → w < word_limit → (repair_of w ≡ beyond → (v : ℕ) → Close w v → ⊥) × (((v : ℕ) → Close w v → ⊥) → repair_of w ≡ beyond)
beyond_exactly w h = (repair_beyond w h, repair_far w h)

-- "the valid word": there is at most one
pub one_nearest : (w u v : ℕ) → Close w u → Close w v → u ≡ v
one_nearest w u v a b = valid_one w a.valid b.valid a.near b.near

-- "A number above 32,767 is no word"
pub above_beyond : (w : ℕ) → word_limit ≤ w → repair_of w ≡ beyond
above_beyond w h = sym (repair_above w h)

-- so fourteen words are repaired to those that the rules ask for, and to no others, with the places in which they differ
module _ (words : List ℕ) (small : (j : ℕ) → get_or words j 0 < word_limit) (valid : List ℕ) where
  pub close_repaired : AllClose words valid → (first_beyond words ≡ word_count) × (repaired_of words ≡ valid) × (patterns_in words ≡ differences words valid)
  close_repaired so = (restored_none words small valid so, restored_words words small valid so, restored_patterns words small valid so)

  pub repaired_close : first_beyond words ≡ word_count → repaired_of words ≡ valid → AllClose words valid
  repaired_close none are = rw are at (repaired_all_close words small none)
