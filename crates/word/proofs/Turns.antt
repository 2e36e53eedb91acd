-- What a turn of the plain search does.
-- Assumes nothing.
use mathlib.Core.Path.{◌≡◌, sym, ◌∙◌}
use mathlib.Core.Bool.{true≢false}
use Prim.Native.Nat.{ℕ, ◌+◌, ◌≤◌, ◌<◌}
use native.Mathlib.Omega.{arith}
use lib.Bits.{bit_xor, xor_lt}
use lib.Count.{ones}
use borrow.Author.Tests.{le-leb, lt-leb}
use Rattle.base.proofs.Ones.{ones_in_lem}
use Rattle.base.proofs.Lowest.{Passed, starts, goes_on}
use Rattle.word.specs.Words.{word_limit, multiple_of, Valid, distance}
use Rattle.word.specs.Repairs.{Close, within, found, beyond, repair_of}
use Rattle.word.proofs.Valids.{valid_lt}
use Rattle.word.proofs.Answer.{repair_close, repair_far}

-- none of the valid words before q is within three
abbrev pub Searched : ℕ → ℕ → Type 0
Searched w q = Passed 32 (within w) q

pub search_starts : (w : ℕ) → Searched w 0
search_starts w = starts 32 (within w)

module _ (w q v : ℕ) (below : w < word_limit) (so : Searched w q) (more : q < 32) (is : v ≡ multiple_of q) where
  valid : Valid v
  valid = record { multiplier = q; small = more; is = sym is }

  counted : ones (bit_xor w v) ≡ distance w v
  unfolding distance
  counted = ones_in_lem 15 (bit_xor w v) (xor_lt 15 w v below (valid_lt valid))

  pub search_goes_on : 3 < ones (bit_xor w v) → Searched w (q + 1)
  search_goes_on far = goes_on 32 (within w) q so more (lt-leb (distance w (multiple_of q)) 3 (rw (← is) (rw counted at far)))

  pub search_stops : ones (bit_xor w v) ≤ 3 → found v (bit_xor w v) ≡ repair_of w
  search_stops near = sym (repair_close w v below (record { valid = valid; near = rw counted at near }))

pub search_ends : (w q : ℕ) → w < word_limit → Searched w q → 32 ≤ q → beyond ≡ repair_of w
search_ends w q below so h = sym (repair_far w below never)
  where
    never : (v : ℕ) → Close w v → ⊥
    never v c =
        true≢false (sym (le-leb (distance w (multiple_of c.valid.multiplier)) 3 (rw c.valid.is c.near))
        ∙ so.before c.valid.multiplier (omega (arith, c.valid.small)))
