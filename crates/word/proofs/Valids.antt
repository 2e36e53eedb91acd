-- The valid words: their sums are valid, and any two differ in at least seven places.
-- Assumes nothing.
use mathlib.Core.Path.{◌≡◌, refl, sym, ap, ap₂, ◌∙◌, subst}
use Prim.Native.Nat.{ℕ, ◌≤◌, ◌<◌}
use native.Mathlib.Nat.{le_trans, add-le-add}
use lib.Bits.{bit_xor, xor_lt, xor_self}
use lib.Count.{ones_in}
use lib.Dec.{eqb}
use Rattle.base.specs.Lists.{lowest}
use Rattle.base.proofs.Xor.{xor_left, xor_none}
use Rattle.base.proofs.Ones.{ones_xor_le}
use Rattle.word.specs.Words.{word_limit, multiple_of, Valid, data_of, encode_of, flip_count, distance}
use Rattle.word.proofs.Multiples.{multiple_xor, multiple_lt, multiple_zero, multiple_encode, multiplier_lt}
use Rattle.word.specs.Repairs.{radius}

pub valid_lt : {v : ℕ} → Valid v → v < word_limit
valid_lt ok = subst (λ (n : ℕ). n < word_limit) ok.is (multiple_lt ok.multiplier ok.small)

pub valid_xor : {u v : ℕ} → Valid u → Valid v → Valid (bit_xor u v)
valid_xor a b = record {
  multiplier = bit_xor a.multiplier b.multiplier;
  small = xor_lt 5 a.multiplier b.multiplier a.small b.small;
  is = multiple_xor a.multiplier b.multiplier ∙ ap₂ bit_xor a.is b.is;
}

-- THE DISTANCE OF THE CODE: "any two differ in at least 7 places"
pub valid_apart : {u v : ℕ} → Valid u → Valid v → distance u v ≤ 6 → u ≡ v
unfolding distance valid_xor
valid_apart {u} {v} a b h =
    let sum = valid_xor a b in
    let none : sum.multiplier ≡ 0 = multiple_zero sum.multiplier sum.small (rw sum.is h) in
    sym a.is ∙ ap multiple_of (xor_none a.multiplier b.multiplier none) ∙ b.is

-- at most one valid word lies within three of a number
pub valid_one : (w : ℕ) {u v : ℕ} → Valid u → Valid v → distance w u ≤ radius → distance w v ≤ radius → u ≡ v
unfolding distance
valid_one w {u} {v} a b near-u near-v =
    valid_apart a b (rw (← xor_left w u v) (le_trans (ones_xor_le 15 (bit_xor w u) (bit_xor w v)) (add-le-add near-u near-v)))

-- a distance is the count of the flips that lead from one word to the other
pub distance_is : (a b : ℕ) → distance a b ≡ flip_count (bit_xor a b)
unfolding distance
distance_is a b = refl

pub distance_self : (w : ℕ) → distance w w ≡ 0
unfolding distance ones_in
distance_self w = ap flip_count (xor_self w)

-- data and the valid word that has them
pub encode_valid : (d : ℕ) → d < 32 → Valid (encode_of d)
unfolding encode_of
encode_valid d h = record { multiplier = lowest 32 (λ q. eqb (data_of (multiple_of q)) d); small = multiplier_lt d h; is = refl }

pub valid_encode : {v : ℕ} → Valid v → v ≡ encode_of (data_of v)
valid_encode ok = subst (λ (n : ℕ). n ≡ encode_of (data_of n)) ok.is (sym (multiple_encode ok.multiplier ok.small))
