-- Parts and the number that they make: there, back, and two lists of parts one after the other.
-- Assumes nothing.
use mathlib.Core.Path.{◌≡◌, refl, sym, ap, ap₂, ◌∙◌}
use mathlib.Core.List.{List, [], ◌∷◌, ◌++◌}
use Prim.Native.Nat.{ℕ, zero, suc, ◌+◌, ◌-◌, ◌*◌, ◌/◌, ◌%◌, ◌^◌, ◌<◌, suc-le-suc}
use native.Mathlib.Nat.{suc_inj, mul-zero, mul-suc, mul-add-div_right, mul-add-mod_self_right, zero-add, add-zero, zero-mul, add-mul, mul_assoc, add_assoc, mul-one, mod-lt, mod-one, zero-lt-suc, not-suc-le-zero, le_of_suc-le-suc}
use native.Mathlib.Omega.{arith}
use lib.Dec.{lit<}
use lib.ListN.{length, get_or, replicate}
use lib.Arith.{digits_lt}
use lib.Pow.{pow-add, pow_pos, mod-pow-add, high, low, shr-shr}
use Rattle.base.specs.Parts.{bits_in, parts_of, joined_from, joined, InWidths, none, part}

-- the parts stand below what is above them
pub join_above : (above : ℕ) {ws vs : List ℕ} → InWidths ws vs → joined_from above ws vs ≡ above * 2 ^ bits_in ws + joined ws vs
join_above above none = omega arith
join_above above (part {w} {v} {ws} {vs} h so) =
    join_above (above * 2 ^ w + v) so
    ∙ ap (λ (n : ℕ). n + joined ws vs) (add-mul (above * 2 ^ w) v (2 ^ bits_in ws) ∙ ap (λ (n : ℕ). n + v * 2 ^ bits_in ws) (mul_assoc above (2 ^ w) (2 ^ bits_in ws) ∙ ap (λ (n : ℕ). above * n) (sym (pow-add 2 w (bits_in ws)))))
    ∙ add_assoc (above * 2 ^ (w + bits_in ws)) (v * 2 ^ bits_in ws) (joined ws vs)
    ∙ ap (λ (n : ℕ). above * 2 ^ (w + bits_in ws) + n) (sym (join_above (0 * 2 ^ w + v) so ∙ ap (λ (n : ℕ). n * 2 ^ bits_in ws + joined ws vs) (omega arith)))

pub join_lt : {ws vs : List ℕ} → InWidths ws vs → joined ws vs < 2 ^ bits_in ws
join_lt none = lit< tt
join_lt (part {w} {v} {ws} {vs} h so) =
    rw (join_above (0 * 2 ^ w + v) so, zero-mul, zero-add, pow-add) (digits_lt h (join_lt so))

-- the parts of a number that is made of parts are these
pub parts_join : (above : ℕ) {ws vs : List ℕ} → InWidths ws vs → parts_of ws (joined_from above ws vs) ≡ vs
parts_join above none = refl
parts_join above (part {w} {v} {ws} {vs} h so) =
    ap₂ (λ (x : ℕ) (xs : List ℕ). x ∷ xs)
    (ap (λ (n : ℕ). n / 2 ^ bits_in ws % 2 ^ w) (join_above (above * 2 ^ w + v) so)
    ∙ ap (λ (n : ℕ). n % 2 ^ w) (high (above * 2 ^ w + v) (bits_in ws) (join_lt so)) ∙ low above w h)
    (parts_join (above * 2 ^ w + v) so)

-- and a number is made of its parts
pub join_parts : (above : ℕ) (ws : List ℕ) (n : ℕ) → joined_from above ws (parts_of ws n) ≡ above * 2 ^ bits_in ws + n % 2 ^ bits_in ws
join_parts above [] n = sym (rw (mul-one, mod-one, add-zero))
join_parts above (w ∷ ws) n =
    join_parts (above * 2 ^ w + n / 2 ^ bits_in ws % 2 ^ w) ws n
    ∙ rw (mod-pow-add n w (bits_in ws), pow-add, add-mul, mul_assoc, add_assoc)

pub parts_within : (ws : List ℕ) (n : ℕ) → InWidths ws (parts_of ws n)
parts_within [] n = none
parts_within (w ∷ ws) n = part (mod-lt (n / 2 ^ bits_in ws) (pow_pos w)) (parts_within ws n)

pub parts_length : (ws : List ℕ) (n : ℕ) → length (parts_of ws n) ≡ length ws
parts_length [] n = refl
parts_length (w ∷ ws) n = ap suc (parts_length ws n)

-- parts within their widths: each by itself, one list after another, and apart again
pub within_all : (ws vs : List ℕ) → length ws ≡ length vs → ((k : ℕ) → k < length ws → get_or vs k 0 < 2 ^ get_or ws k 0) → InWidths ws vs
within_all [] [] same each = none
within_all [] (v ∷ vs) same each = absurd (omega arith)
within_all (w ∷ ws) [] same each = absurd (omega arith)
within_all (w ∷ ws) (v ∷ vs) same each = part (each 0 (zero-lt-suc (length ws))) (within_all ws vs (suc_inj same) (λ k h. each (suc k) (suc-le-suc h)))

pub within_at : {ws vs : List ℕ} → InWidths ws vs → (k : ℕ) → get_or vs k 0 < 2 ^ get_or ws k 0
within_at none k = lit< tt
within_at (part h so) zero = h
within_at (part h so) (suc k) = within_at so k

pub within_append : {ws xs vs ys : List ℕ} → InWidths ws vs → InWidths xs ys → InWidths (ws ++ xs) (vs ++ ys)
within_append none more = more
within_append (part h so) more = part h (within_append so more)

pub within_rest : (ws xs vs ys : List ℕ) → length ws ≡ length vs → InWidths (ws ++ xs) (vs ++ ys) → InWidths xs ys
within_rest [] xs [] ys same so = so
within_rest [] xs (v ∷ vs) ys same so = absurd (omega arith)
within_rest (w ∷ ws) xs [] ys same so = absurd (omega arith)
within_rest (w ∷ ws) xs (v ∷ vs) ys same (part h so) = within_rest ws xs vs ys (suc_inj same) so

pub within_front : (ws xs vs ys : List ℕ) → length ws ≡ length vs → InWidths (ws ++ xs) (vs ++ ys) → InWidths ws vs
within_front [] xs [] ys same so = none
within_front [] xs (v ∷ vs) ys same so = absurd (omega arith)
within_front (w ∷ ws) xs [] ys same so = absurd (omega arith)
within_front (w ∷ ws) xs (v ∷ vs) ys same (part h so) = part h (within_front ws xs vs ys (suc_inj same) so)

-- what stands above the parts does not change them
pub parts_below : (above : ℕ) (ws : List ℕ) (n : ℕ) → parts_of ws (above * 2 ^ bits_in ws + n) ≡ parts_of ws n
parts_below above [] n = refl
parts_below above (w ∷ ws) n =
    let moved : above * 2 ^ (w + bits_in ws) + n ≡ above * 2 ^ w * 2 ^ bits_in ws + n = rw (pow-add, ← mul_assoc) in
    rw moved
    (ap₂ (λ (x : ℕ) (xs : List ℕ). x ∷ xs)
    (ap (λ (m : ℕ). m % 2 ^ w) (mul-add-div_right (pow_pos (bits_in ws)) (above * 2 ^ w) n) ∙ mul-add-mod_self_right above (2 ^ w) (n / 2 ^ bits_in ws))
    (parts_below (above * 2 ^ w) ws n))

bits_append : (us ws : List ℕ) → bits_in (us ++ ws) ≡ bits_in ws + bits_in us
bits_append [] ws = sym (add-zero (bits_in ws))
bits_append (u ∷ us) ws = ap (λ (n : ℕ). u + n) (bits_append us ws) ∙ omega arith

-- parts of a number in two pieces
pub parts_append : (us ws : List ℕ) (upper lower : ℕ) → lower < 2 ^ bits_in ws → parts_of (us ++ ws) (upper * 2 ^ bits_in ws + lower) ≡ parts_of us upper ++ parts_of ws lower
parts_append [] ws upper lower h = parts_below upper ws lower
parts_append (u ∷ us) ws upper lower h =
    ap₂ (λ (x : ℕ) (xs : List ℕ). x ∷ xs)
    (ap (λ (m : ℕ). m % 2 ^ u) (rw (bits_append us ws, ← shr-shr, high upper (bits_in ws) h)))
    (parts_append us ws upper lower h)

pub join_append : (above : ℕ) (ws xs vs ys : List ℕ) → length ws ≡ length vs → joined_from above (ws ++ xs) (vs ++ ys) ≡ joined_from (joined_from above ws vs) xs ys
join_append above [] xs [] ys same = refl
join_append above [] xs (v ∷ vs) ys same = absurd (omega arith)
join_append above (w ∷ ws) xs [] ys same = absurd (omega arith)
join_append above (w ∷ ws) xs (v ∷ vs) ys same = join_append (above * 2 ^ w + v) ws xs vs ys (suc_inj same)

even_bits : (w m : ℕ) → bits_in (replicate m w) ≡ w * m
even_bits w zero = sym (mul-zero w)
even_bits w (suc m) = rw (even_bits w m, mul-suc) (omega arith)

-- parts of one width
pub even_at : (w m n k : ℕ) → k < m → get_or (parts_of (replicate m w) n) k 0 ≡ n / 2 ^ (w * (m - suc k)) % 2 ^ w
even_at w zero n k h = absurd (not-suc-le-zero h)
even_at w (suc m) n zero h = let e : suc m - 1 ≡ m = omega arith in rw (even_bits w m, e)
even_at w (suc m) n (suc k) h = let e : suc m - suc (suc k) ≡ m - suc k = omega arith in rw e (even_at w m n k (le_of_suc-le-suc h))
