-- What the text of a number says to whoever reads it: digits, no 0 in front, and the number's own value.
-- Assumes nothing.
use mathlib.Core.Path.{◌≡◌, refl, sym, ap, ◌∙◌}
use mathlib.Core.Logic.{⊎_elim}
use mathlib.Core.List.{List, [], ◌∷◌, ◌++◌, map, foldl, foldl-append}
use Prim.Native.Nat.{ℕ, ◌+◌, ◌-◌, ◌*◌, ◌/◌, ◌%◌, ◌<◌, ◌≤◌}
use native.Mathlib.Nat.{not-suc-le-zero}
use native.Mathlib.Omega.{arith}
use lib.ListN.{length, get_or, length-append, get_or-append}
use lib.Seq.{get_or_at}
use Rattle.base.proofs.Tests.{lt_or_ge}
use Rattle.text.specs.Text.{ascii, digit, decimal_of}
use Rattle.text.proofs.Decimal.{decimal_one, decimal_more, decimal_some, by_tens}

-- an ASCII digit, and a list of nothing else
pub record IsDigit (c : ℕ) : Type 0 where
  pub low : digit 0 ≤ c
  pub high : c ≤ digit 9

abbrev pub AreDigits : List ℕ → Type 0
AreDigits l = (k : ℕ) → k < length l → IsDigit (get_or l k 0)

-- digits, and one more after them
one_more : (l : List ℕ) (d : ℕ) → d < 10 → AreDigits l → AreDigits (l ++ (digit d ∷ []))
one_more l d h are k lt =
    ⊎_elim
    (λ (before : k < length l). rw (get_or-append l (digit d ∷ []) 0 k before) (are k before))
    (λ (after : length l ≤ k).
    let last : length l ≡ k = omega (arith, rw length-append at lt) in
    rw (get_or_at l (digit d) [] 0 k last) (record { low = omega arith; high = omega arith }))
    (lt_or_ge k (length l))

-- each byte of a number is a digit
pub decimal_digits : (n : ℕ) → AreDigits (decimal_of n)
decimal_digits =
    by_tens (λ n. AreDigits (decimal_of n))
    (λ n small. rw (decimal_one n small) (one_more [] n small (λ k h. absurd (not-suc-le-zero h))))
    (λ n large rest. rw (decimal_more n large) (one_more (decimal_of (n / 10)) (n % 10) (omega arith) rest))

-- no leading zero: the first digit is 0 in the number 0 only
pub decimal_first : (n : ℕ) → get_or (decimal_of n) 0 0 ≡ digit 0 → n ≡ 0
decimal_first =
    by_tens (λ n. get_or (decimal_of n) 0 0 ≡ digit 0 → n ≡ 0)
    (λ n small e. omega (arith, rw (decimal_one n small) at e))
    (λ n large rest e.
    let same = get_or-append (decimal_of (n / 10)) (digit (n % 10) ∷ []) 0 0 (decimal_some (n / 10)) in
    omega (arith, rest (rw (decimal_more n large, same) at e)))

-- the number that digits read as
abbrev pub value_of : List ℕ → ℕ
value_of = foldl (λ (v c : ℕ). v * 10 + (c - digit 0)) 0

-- the digits of n read as n
pub decimal_value : (n : ℕ) → value_of (decimal_of n) ≡ n
decimal_value =
    by_tens (λ n. value_of (decimal_of n) ≡ n)
    (λ n small. rw (decimal_one n small) (omega arith))
    (λ n large rest. rw (decimal_more n large, foldl-append) (rw rest (omega arith)))

-- so two numbers with the same digits are one
pub decimal_same : (m n : ℕ) → decimal_of m ≡ decimal_of n → m ≡ n
decimal_same m n e = sym (decimal_value m) ∙ ap value_of e ∙ decimal_value n

-- some numbers as one writes them
pub decimal_examples : map decimal_of (0 ∷ 7 ∷ 42 ∷ 65535 ∷ 18446744073709551615 ∷ []) ≡ map ascii ("0" ∷ "7" ∷ "42" ∷ "65535" ∷ "18446744073709551615" ∷ [])
unfolding decimal_of
decimal_examples = refl
