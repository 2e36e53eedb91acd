-- Laws of `bit_xor` that `lib.Bits` does not state.
-- Assumes nothing.
use mathlib.Core.Path.{◌≡◌, refl, sym, ap, ap₂, ◌∙◌}
use Prim.Native.Nat.{ℕ, zero, suc, ◌+◌, ◌*◌, ◌/◌, ◌%◌, ◌^◌, ◌≤◌, ◌<◌, zero-le}
use native.Mathlib.Nat.{le_refl, le_of_suc-le-suc, not-suc-le-zero, mod-lt, zero-lt-suc, zero-add, zero-mul, le_trans, le-add_right}
use native.Mathlib.Omega.{arith}
use lib.Arith.{bin_ind, digits_div, digits_mod, lt-one}
use lib.Bits.{bit_xor, differ, xor_step, xor_comm, xor_self, xor_zero_r}
use lib.Pow.{shr_lt, pow_mono}

bit_ind : (P : ℕ → Type 0) → P 0 → P 1 → (n : ℕ) → P (n % 2)
bit_ind P p q n = go (n % 2) (mod-lt n (zero-lt-suc 1))
  where
    go : (b : ℕ) → b < 2 → P b
    go zero h = p
    go (suc zero) h = q
    go (suc (suc b)) h = absurd (not-suc-le-zero (le_of_suc-le-suc (le_of_suc-le-suc h)))

differ_lt : (a b : ℕ) → differ (a % 2) (b % 2) < 2
differ_lt a b =
    bit_ind (λ x. differ x (b % 2) < 2) (mod-lt b (zero-lt-suc 1))
    (bit_ind (λ y. differ 1 y < 2) (le_refl 2) (zero-lt-suc 1) b) a

pub differ_le : (a b : ℕ) → differ (a % 2) (b % 2) ≤ a % 2 + b % 2
differ_le a b =
    bit_ind (λ x. differ x (b % 2) ≤ x + b % 2) (omega arith)
    (bit_ind (λ y. differ 1 y ≤ 1 + y) (le_refl 1) zero-le b) a

differ_assoc : (a b c : ℕ) → differ (differ (a % 2) (b % 2)) (c % 2) ≡ differ (a % 2) (differ (b % 2) (c % 2))
differ_assoc a b c =
    bit_ind (λ x. differ (differ x (b % 2)) (c % 2) ≡ differ x (differ (b % 2) (c % 2))) refl
    (bit_ind (λ y. differ (differ 1 y) (c % 2) ≡ differ 1 (differ y (c % 2))) refl
    (bit_ind (λ z. differ (differ 1 1) z ≡ differ 1 (differ 1 z)) refl refl c) b) a

-- the lowest bit and the rest of a sum
pub xor_odd : (a b : ℕ) → bit_xor a b % 2 ≡ differ (a % 2) (b % 2)
xor_odd a b = ap (λ (n : ℕ). n % 2) (xor_step a b) ∙ digits_mod (bit_xor (a / 2) (b / 2)) (differ_lt a b)

pub xor_half : (a b : ℕ) → bit_xor a b / 2 ≡ bit_xor (a / 2) (b / 2)
xor_half a b = ap (λ (n : ℕ). n / 2) (xor_step a b) ∙ digits_div (bit_xor (a / 2) (b / 2)) (differ_lt a b)

pub xor_assoc : (a b c : ℕ) → bit_xor (bit_xor a b) c ≡ bit_xor a (bit_xor b c)
xor_assoc =
    bin_ind (λ (a : ℕ). (b c : ℕ) → bit_xor (bit_xor a b) c ≡ bit_xor a (bit_xor b c)) (λ b c. refl)
    (λ a ih b c.
    xor_step (bit_xor a b) c
    ∙ ap₂ (λ (h l : ℕ). h * 2 + l)
    (ap (λ (n : ℕ). bit_xor n (c / 2)) (xor_half a b) ∙ ih (b / 2) (c / 2) ∙ ap (bit_xor (a / 2)) (sym (xor_half b c)))
    (ap (λ (n : ℕ). differ n (c % 2)) (xor_odd a b) ∙ differ_assoc a b c ∙ ap (differ (a % 2)) (sym (xor_odd b c)))
    ∙ sym (xor_step a (bit_xor b c)))

-- what is added twice is gone
pub xor_twice : (a b : ℕ) → bit_xor (bit_xor a b) b ≡ a
xor_twice a b = xor_assoc a b b ∙ ap (bit_xor a) (xor_self b) ∙ xor_zero_r a

pub xor_back : (a b : ℕ) → bit_xor a (bit_xor a b) ≡ b
xor_back a b = sym (xor_assoc a a b) ∙ ap (λ (n : ℕ). bit_xor n b) (xor_self a)

-- what leaves nothing is the same
pub xor_none : (a b : ℕ) → bit_xor a b ≡ 0 → a ≡ b
xor_none a b e = sym (xor_twice a b) ∙ ap (λ (n : ℕ). bit_xor n b) e

pub xor_swap : (a b c : ℕ) → bit_xor (bit_xor a b) c ≡ bit_xor (bit_xor a c) b
xor_swap a b c = xor_assoc a b c ∙ ap (bit_xor a) (xor_comm b c) ∙ sym (xor_assoc a c b)

-- a number of j bits has none above
pub high_none : (j k l : ℕ) → l < 2 ^ j → l / 2 ^ (j + k) ≡ 0
high_none j k l h = lt-one (shr_lt 0 (j + k) (le_trans h (rw zero-add (pow_mono (le-add_right j k)))))

-- what is added to both changes no difference
pub xor_left : (c a b : ℕ) → bit_xor (bit_xor c a) (bit_xor c b) ≡ bit_xor a b
xor_left c a b =
    ap (λ (n : ℕ). bit_xor n (bit_xor c b)) (xor_comm c a) ∙ xor_assoc a c (bit_xor c b)
    ∙ ap (bit_xor a) (sym (xor_assoc c c b) ∙ ap (λ (n : ℕ). bit_xor n b) (xor_self c))

pub xor_right : (c a b : ℕ) → bit_xor (bit_xor a c) (bit_xor b c) ≡ bit_xor a b
xor_right c a b = ap₂ bit_xor (xor_comm a c) (xor_comm b c) ∙ xor_left c a b

-- sums of sums, in another order
pub xor_four : (a b c d : ℕ) → bit_xor (bit_xor a b) (bit_xor c d) ≡ bit_xor (bit_xor a c) (bit_xor b d)
xor_four a b c d = sym (xor_assoc (bit_xor a b) c d) ∙ ap (λ (n : ℕ). bit_xor n d) (xor_swap a b c) ∙ xor_assoc (bit_xor a c) b d

-- where a bit stands before a number: the sum of two bits takes the sum of their numbers
pub xor_bit_times : (a b c : ℕ) → bit_xor a b % 2 * c ≡ bit_xor (a % 2 * c) (b % 2 * c)
xor_bit_times a b c =
    ap (λ (n : ℕ). n * c) (xor_odd a b)
    ∙ bit_ind (λ x. differ x (b % 2) * c ≡ bit_xor (x * c) (b % 2 * c)) (rw zero-mul)
    (bit_ind (λ y. differ 1 y * c ≡ bit_xor (1 * c) (y * c)) (rw (zero-mul, xor_zero_r)) (rw (zero-mul, xor_self)) b) a
