-- Lists made by a rule, sums, the lowest number that passes a test, and lists of bits.
-- Assumes nothing.
use Rattle.std.specs.Prelude.{Bool, cond, List, [], ◌∷◌, map, ℕ, zero, suc, ◌+◌, ◌<◌, eqb, length, get_or}

-- the n numbers from i on
abbrev pub count : ℕ → ℕ → List ℕ
count zero i = []
count (suc n) i = i ∷ count n (suc i)

-- f 0, f 1, .. f (n - 1)
unfoldable pub tabulate : {A : Type 0} → ℕ → (ℕ → A) → List A
tabulate n f = map f (count n 0)

-- f 0 + f 1 + .. + f (n - 1)
unfoldable pub sum_to : ℕ → (ℕ → ℕ) → ℕ
sum_to zero f = 0
sum_to (suc n) f = sum_to n f + f n

-- how many of the numbers below n pass the test
abbrev pub how_many : ℕ → (ℕ → Bool) → ℕ
how_many n test = sum_to n (λ k. cond (test k) 1 0)

-- every element is 0 or 1
abbrev pub AreBits : List ℕ → Type 0
AreBits l = (k : ℕ) → get_or l k 0 < 2

-- the lowest of the n numbers from i on that passes the test; i + n where none does
abbrev pub lowest_from : ℕ → ℕ → (ℕ → Bool) → ℕ
lowest_from i zero test = i
lowest_from i (suc n) test = cond (test i) i (lowest_from (suc i) n test)

-- the lowest number below n that passes the test; n where none does
unfoldable pub lowest : ℕ → (ℕ → Bool) → ℕ
lowest n test = lowest_from 0 n test

-- the place of a number in a list; its length where it has none
abbrev pub place_in : List ℕ → ℕ → ℕ
place_in l n = lowest (length l) (λ k. eqb n (get_or l k 0))
