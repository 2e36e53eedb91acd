-- The valid words are all multiples "of degree below 15": of a product of polynomials the degree is the sum of the degrees, so the
-- multiplier is of degree below 5.
-- Assumes nothing.
use mathlib.Core.Path.{◌≡◌, refl, sym, ap, ◌∙◌}
use mathlib.Core.Logic.{⊎_elim}
use Prim.Native.Nat.{ℕ, zero, suc, ◌+◌, ◌*◌, ◌/◌, ◌%◌, ◌^◌, ◌≤◌, ◌<◌}
use native.Mathlib.Nat.{le_trans, pow-suc, add-suc, zero-add, zero-mul, one-mul}
use native.Mathlib.Omega.{arith}
use lib.Bits.{bit_xor, xor_lt, xor_zero_r}
use lib.Pow.{pow_pos, pow_mono}
use Rattle.base.proofs.Tests.{lt_or_ge}
use Rattle.base.proofs.Xor.{xor_back}
use Rattle.word.specs.Words.{word_limit, product, generator, multiple_of, Valid}

-- x is of degree n
record Degree (n x : ℕ) : Type 0 where
  low : 2 ^ n ≤ x
  high : x < 2 ^ suc n

-- a summand of lower degree does not change it
degree_xor : (n x y : ℕ) → x < 2 ^ n → Degree n y → Degree n (bit_xor x y)
degree_xor n x y lower top = record {
  low = ⊎_elim
      (λ (few : bit_xor x y < 2 ^ n). absurd (let back = rw (xor_back x y) at (xor_lt n x (bit_xor x y) lower few) in omega (arith, top.low)))
      (λ (h : 2 ^ n ≤ bit_xor x y). h)
      (lt_or_ge (bit_xor x y) (2 ^ n));
  high = xor_lt (suc n) x y (omega (arith, lower, pow-suc 2 n)) top.high;
}

product_none : (k b : ℕ) → product k 0 b ≡ 0
product_none zero b = refl
product_none (suc k) b = ap (bit_xor (0 % 2 * b)) (product_none k (b * 2)) ∙ xor_zero_r (0 % 2 * b) ∙ zero-mul b

-- the number of coefficients does not matter, as long as all of a are among them
product_same : (j k a b : ℕ) → a < 2 ^ j → a < 2 ^ k → product j a b ≡ product k a b
product_same zero k a b small h = let none : a ≡ 0 = omega arith in rw none (sym (product_none k b))
product_same (suc j) zero a b h small = let none : a ≡ 0 = omega arith in rw none (product_none (suc j) b)
product_same (suc j) (suc k) a b g h =
    ap (bit_xor (a % 2 * b)) (product_same j k (a / 2) (b * 2) (omega (arith, pow-suc 2 j)) (omega (arith, pow-suc 2 k)))

product_degree : (k a b d e : ℕ) → a < 2 ^ k → Degree d a → Degree e b → Degree (d + e) (product k a b)
product_degree zero a b d e small top-a top-b = absurd (omega (arith, top-a.low, pow_pos d))
product_degree (suc k) a b zero e small top-a top-b =
    let one : a ≡ 1 = omega (arith, top-a.low, top-a.high) in
    rw (one, product_none k (b * 2), xor_zero_r, zero-add e, one-mul b) top-b
product_degree (suc k) a b (suc d) e small top-a top-b =
    let half : Degree d (a / 2) = record { low = omega (arith, top-a.low, pow-suc 2 d); high = omega (arith, top-a.high, pow-suc 2 (suc d)) } in
    let twice : Degree (suc e) (b * 2) = record { low = omega (arith, top-b.low, pow-suc 2 e); high = omega (arith, top-b.high, pow-suc 2 (suc e)) } in
    let rest : Degree (suc (d + e)) (product k (a / 2) (b * 2)) = rw add-suc at (product_degree k (a / 2) (b * 2) d (suc e) (omega (arith, pow-suc 2 k)) half twice) in
    let lower : b < 2 ^ suc (d + e) = le_trans top-b.high (pow_mono (omega arith)) in
    let sum : suc d + e ≡ suc (d + e) = omega arith in
    rw sum (degree_xor (suc (d + e)) (a % 2 * b) (product k (a / 2) (b * 2)) (at_most (a % 2) (omega arith) lower) rest)
  where
    at_most : (bit : ℕ) → bit < 2 → b < 2 ^ suc (d + e) → bit * b < 2 ^ suc (d + e)
    at_most zero h lower = omega arith
    at_most (suc zero) h lower = omega arith
    at_most (suc (suc n)) h lower = absurd (omega arith)

-- a number that is not 0 has a degree
record HasDegree (x : ℕ) : Type 0 where
  degree : ℕ
  top : Degree degree x

has_degree : (k x : ℕ) → x < 2 ^ k → 0 < x → HasDegree x
has_degree zero x small some = absurd (omega arith)
has_degree (suc k) x small some =
    ⊎_elim
    (λ (one : x < 2). record { degree = 0; top = record { low = omega arith; high = omega arith } })
    (λ (more : 2 ≤ x).
    let half = has_degree k (x / 2) (omega (arith, pow-suc 2 k)) (omega arith) in
    record {
      degree = suc half.degree;
      top = record { low = omega (arith, half.top.low, pow-suc 2 half.degree); high = omega (arith, half.top.high, pow-suc 2 (suc half.degree)) };
    })
    (lt_or_ge x 2)

-- "A valid word is a multiple, of degree below 15, of 0x537": whatever the multiplier is
pub all_multiples : (k q : ℕ) → q < 2 ^ k → product k q generator < word_limit → Valid (product k q generator)
unfolding multiple_of
all_multiples k q small below =
    let five : q < 32 =
    ⊎_elim
    (λ (h : q < 32). h)
    (λ (h : 32 ≤ q).
    let so = has_degree k q small (omega arith) in
    let d : ℕ = so.degree in
    let whole : Degree (d + 10) (product k q generator) = product_degree k q generator d 10 small so.top (record { low = omega arith; high = omega arith }) in
    ⊎_elim
    (λ (few : d < 5). absurd (let most : 2 ^ suc d ≤ 2 ^ 5 = pow_mono few in omega (arith, so.top.high)))
    (λ (many : 5 ≤ d). absurd (let least : 2 ^ 15 ≤ 2 ^ (d + 10) = pow_mono {i = 15} {j = d + 10} (omega arith) in omega (arith, whole.low)))
    (lt_or_ge d 5))
    (lt_or_ge q 32) in
    record { multiplier = q; small = five; is = product_same 5 k q generator five small }
