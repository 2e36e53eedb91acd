-- The loop of `parse`: the digits before i are in the number.
-- Assumes nothing.
use mathlib.Core.Path.{◌≡◌, refl, sym, ap, ◌∙◌}
use mathlib.Core.Bool.{Bool, true, false, cond}
use mathlib.Core.List.{List, [], ◌∷◌}
use Rattle.std.specs.Prelude.{Option, None, Some}
use Prim.Native.Nat.{ℕ, suc, ◌+◌, ◌≤◌, ◌<◌, zero-le}
use native.Mathlib.Numerals.{add-one}
use native.Mathlib.Omega.{arith}
use lib.Dec.{ltb}
use lib.ListN.{length, get_or, drop, drop_of_length-le}
use lib.Seq.{drop-cons}
use Rattle.options.specs.Numbers.{most, digit_of, number_after, number_from, parsed_of}

pub no_word : (word : List ℕ) → length word ≡ 0 → None ≡ parsed_of word
unfolding parsed_of
no_word [] none = refl
no_word (letter ∷ word) none = absurd (omega arith)

some_word : (word : List ℕ) → (length word ≡ 0 → ⊥) → parsed_of word ≡ number_from 0 word
unfolding parsed_of
some_word [] some = absurd (some refl)
some_word (letter ∷ word) some = refl

-- the digits that follow one, by what it makes of the number
abbrev then : List ℕ → Option ℕ → Option ℕ
then word None = None
then word (Some next) = number_from next word

one_step : (number letter : ℕ) (word : List ℕ) → number_from number (letter ∷ word) ≡ then word (number_after number letter)
one_step number letter word = by (ltb most (digit_of number letter))
  where
    by : (large : Bool) → cond large None (number_from (digit_of number letter) word) ≡ then word (cond large None (Some (digit_of number letter)))
    by true = refl
    by false = refl

pub record Parsing (word : List ℕ) (number i : ℕ) : Type 0 where
  pub inside : i ≤ length word
  pub left : parsed_of word ≡ number_from number (drop i word)

pub starts : (word : List ℕ) → (length word ≡ 0 → ⊥) → Parsing word 0 0
starts word some = record { inside = zero-le; left = some_word word some }

module _ (word : List ℕ) (number i : ℕ) (so : Parsing word number i) where
  module _ (h : i < length word) where
    front : parsed_of word ≡ then (drop (suc i) word) (number_after number (get_or word i 0))
    front = so.left ∙ ap (number_from number) (drop-cons word i 0 h) ∙ one_step number (get_or word i 0) (drop (suc i) word)

    pub no_number : (r : Option ℕ) → r ≡ number_after number (get_or word i 0) → r ≡ None → None ≡ parsed_of word
    no_number r is none = sym (front ∙ ap (then (drop (suc i) word)) (sym is ∙ none))

    pub goes_on : (r : Option ℕ) (next : ℕ) → r ≡ number_after number (get_or word i 0) → r ≡ Some next → Parsing word next (i + 1)
    goes_on r next is some = record { inside = omega arith; left = rw (add-one i) (front ∙ ap (then (drop (suc i) word)) (sym is ∙ some)) }

  pub ends : length word ≤ i → Some number ≡ parsed_of word
  ends h = sym (so.left ∙ ap (number_from number) (drop_of_length-le word {i = i} h))
