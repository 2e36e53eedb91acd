-- The characters of a call sign, as the code has them.
-- Assumes nothing.
use mathlib.Core.Path.{◌≡◌, refl, sym, ap, ◌∙◌}
use mathlib.Core.List.{List, [], ◌∷◌, ◌++◌}
use Prim.Native.Nat.{ℕ, zero, suc, ◌+◌, ◌/◌, ◌%◌, ◌^◌, ◌≤◌, ◌<◌}
use native.Mathlib.Omega.{arith}
use lib.ListN.{get_or, replicate}
use Rattle.base.proofs.Tabulate.{read_replicated}
use Rattle.text.specs.Text.{ascii}
use Rattle.sign.specs.CallSigns.{call_sign, sign_bit}

-- five characters are those of all four, and the last tells the satellite
abbrev pub spelled : ℕ → List ℕ
spelled satellite = ascii "DP0TB" ++ ((66 + satellite) ∷ [])

four : (satellite : ℕ) → satellite < 4 → spelled satellite ≡ call_sign satellite
unfolding call_sign
four zero h = refl
four (suc zero) h = refl
four (suc (suc zero)) h = refl
four (suc (suc (suc zero))) h = refl
four (suc (suc (suc (suc satellite)))) h = absurd (omega arith)

character_at : (satellite k i : ℕ) → satellite < 4 → k ≡ i → get_or (spelled satellite) i 0 ≡ get_or (call_sign satellite) k 0
character_at satellite k i h e = rw (e, ← four satellite h)

pub character_0 : (satellite k : ℕ) → satellite < 4 → k ≡ 0 → 68 ≡ get_or (call_sign satellite) k 0
character_0 satellite k h e = character_at satellite k 0 h e

pub character_1 : (satellite k : ℕ) → satellite < 4 → k ≡ 1 → 80 ≡ get_or (call_sign satellite) k 0
character_1 satellite k h e = character_at satellite k 1 h e

pub character_2 : (satellite k : ℕ) → satellite < 4 → k ≡ 2 → 48 ≡ get_or (call_sign satellite) k 0
character_2 satellite k h e = character_at satellite k 2 h e

pub character_3 : (satellite k : ℕ) → satellite < 4 → k ≡ 3 → 84 ≡ get_or (call_sign satellite) k 0
character_3 satellite k h e = character_at satellite k 3 h e

pub character_4 : (satellite k : ℕ) → satellite < 4 → k ≡ 4 → 66 ≡ get_or (call_sign satellite) k 0
character_4 satellite k h e = character_at satellite k 4 h e

pub character_5 : (satellite k : ℕ) → satellite < 4 → k ≡ 5 → 66 + satellite ≡ get_or (call_sign satellite) k 0
character_5 satellite k h e = character_at satellite k 5 h e

past_last : (satellite k : ℕ) → (k ≡ 0 → ⊥) → (k ≡ 1 → ⊥) → (k ≡ 2 → ⊥) → (k ≡ 3 → ⊥) → (k ≡ 4 → ⊥) → (k ≡ 5 → ⊥) → get_or (spelled satellite) k 0 ≡ 0
past_last satellite zero a b c d e f = absurd (a refl)
past_last satellite (suc zero) a b c d e f = absurd (b refl)
past_last satellite (suc (suc zero)) a b c d e f = absurd (c refl)
past_last satellite (suc (suc (suc zero))) a b c d e f = absurd (d refl)
past_last satellite (suc (suc (suc (suc zero)))) a b c d e f = absurd (e refl)
past_last satellite (suc (suc (suc (suc (suc zero))))) a b c d e f = absurd (f refl)
past_last satellite (suc (suc (suc (suc (suc (suc k)))))) a b c d e f = refl

pub no_more : (satellite k : ℕ) → satellite < 4 → (k ≡ 0 → ⊥) → (k ≡ 1 → ⊥) → (k ≡ 2 → ⊥) → (k ≡ 3 → ⊥) → (k ≡ 4 → ⊥) → (k ≡ 5 → ⊥) → 0 ≡ get_or (call_sign satellite) k 0
no_more satellite k h a b c d e f = sym (past_last satellite k a b c d e f) ∙ character_at satellite k k h refl

no_satellite : (satellite : ℕ) → 4 ≤ satellite → call_sign satellite ≡ replicate 6 0
unfolding call_sign
no_satellite zero h = absurd (omega arith)
no_satellite (suc zero) h = absurd (omega arith)
no_satellite (suc (suc zero)) h = absurd (omega arith)
no_satellite (suc (suc (suc zero))) h = absurd (omega arith)
no_satellite (suc (suc (suc (suc satellite)))) h = refl

pub no_character : (satellite k : ℕ) → 4 ≤ satellite → 0 ≡ get_or (call_sign satellite) k 0
no_character satellite k h = sym (ap (λ (l : List ℕ). get_or l k 0) (no_satellite satellite h) ∙ read_replicated {A = ℕ} 6 k 0)

pub bit_of_lem : (satellite n c : ℕ) → c ≡ get_or (call_sign satellite) (n / 8) 0 → c / 2 ^ (n % 8) % 2 ≡ sign_bit satellite n
unfolding sign_bit
bit_of_lem satellite n c is = rw is
