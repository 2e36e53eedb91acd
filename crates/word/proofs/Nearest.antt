-- The nearest valid word: the only one within three. A valid word that is added to a number moves its nearest word along.
-- Assumes nothing.
use mathlib.Core.Path.{◌≡◌, refl, sym, ap, ◌∙◌}
use mathlib.Core.Bool.{true≢false}
use mathlib.Core.Logic.{⊎_elim}
use Prim.Native.Nat.{ℕ, ◌≤◌, ◌<◌}
use native.Mathlib.Omega.{arith}
use lib.Bits.{bit_xor}
use borrow.Author.Tests.{lt-ltb, le-ltb, leb-true, le-leb}
use Rattle.base.specs.Lists.{lowest}
use Rattle.base.proofs.Tests.{lt_or_ge}
use Rattle.base.proofs.Lowest.{lowest_is}
use Rattle.base.proofs.Xor.{xor_right}
use Rattle.word.specs.Words.{word_limit, multiple_of, Valid, distance}
use Rattle.word.specs.Repairs.{Near, at, none, Close, within, nearest_word, nearest}
use Rattle.word.proofs.Valids.{valid_xor, valid_one}

-- n is the valid word within three of w; or it is none, and there is no such word
pub data Finds (w : ℕ) : Near → Type 0 where
  finds : (v : ℕ) → Close w v → Finds w (at v)
  finds_none : ((v : ℕ) → Close w v → ⊥) → Finds w none

-- the search through the 32 finds it
pub search_finds : (w : ℕ) → Finds w (nearest_word (lowest 32 (within w)))
search_finds w =
    let q : ℕ = lowest 32 (within w) in
    let so = lowest_is (within w) 32 in
    ⊎_elim
    (λ (h : q < 32). rw (lt-ltb q 32 h) (finds (multiple_of q) (record { valid = record { multiplier = q; small = h; is = refl }; near = leb-true (distance w (multiple_of q)) 3 (so.passes h) })))
    (λ (h : 32 ≤ q). rw (le-ltb q 32 h) (finds_none (λ v c.
    true≢false (sym (le-leb (distance w (multiple_of c.valid.multiplier)) 3 (rw c.valid.is c.near)) ∙ so.before c.valid.multiplier (omega (arith, c.valid.small))))))
    (lt_or_ge q 32)

pub nearest_finds : (w : ℕ) → w < word_limit → Finds w (nearest w)
unfolding nearest
nearest_finds w h = rw (lt-ltb w word_limit h) (search_finds w)

found : (w v : ℕ) (n : Near) → Finds w n → Close w v → n ≡ at v
found w v n (finds u c) c' = ap at (valid_one w c.valid c'.valid c.near c'.near)
found w v n (finds_none never) c' = absurd (never v c')

-- THE LAW OF REPAIR: a number within three places of a valid word has it for its nearest
pub nearest_is : (w v : ℕ) → w < word_limit → Close w v → nearest w ≡ at v
nearest_is w v h c = found w v (nearest w) (nearest_finds w h) c

-- and what is told as the nearest is within three places
close : (w v : ℕ) (n : Near) → Finds w n → n ≡ at v → Close w v
close w v n (finds u c) e = let same : u ≡ v = cc in rw (← same) c
close w v n (finds_none never) e = let z : ◌≡◌ {A = ℕ} 0 1 = cc in absurd (omega arith)

pub nearest_close : (w v : ℕ) → w < word_limit → nearest w ≡ at v → Close w v
nearest_close w v h e = close w v (nearest w) (nearest_finds w h) e

no_word : (w : ℕ) (n : Near) → ((v : ℕ) → Close w v → ⊥) → Finds w n → n ≡ none
no_word w n never (finds v c) = absurd (never v c)
no_word w n never (finds_none never') = refl

-- where there is no valid word within three, none is told
pub nearest_none : (w : ℕ) → ((v : ℕ) → Close w v → ⊥) → w < word_limit → nearest w ≡ none
nearest_none w never h = no_word w (nearest w) never (nearest_finds w h)

-- a valid word c added to both
pub close_moved : (w v c : ℕ) → Valid c → Close w v → Close (bit_xor w c) (bit_xor v c)
unfolding distance
close_moved w v c ok so = record { valid = valid_xor so.valid ok; near = rw (xor_right c w v) so.near }
