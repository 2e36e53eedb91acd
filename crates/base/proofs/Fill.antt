-- A loop that fills the first m elements of an array or of a lent slice by a rule, one after the other.
-- Assumes nothing.
use mathlib.Core.Path.{◌≡◌, refl, ap, ◌∙◌}
use mathlib.Core.List.{List, ◌++◌, append_assoc, append-nil}
use Prim.Native.Nat.{ℕ, suc, ◌+◌, ◌≤◌, ◌<◌, zero-le}
use native.Mathlib.Numerals.{add-one}
use native.Mathlib.Omega.{arith}
use lib.ListN.{length, get_or, set, drop, length-set, drop_of_length-le}
use lib.Seq.{drop-cons, set_at}
use Rattle.base.specs.Lists.{tabulate}
use Rattle.base.proofs.Tabulate.{tabulate_length, tabulate_more}

-- the first n of the m elements have become what the rule says; the others of l₀ are as they were
pub record Filled {A : Type 0} (f : ℕ → A) (m : ℕ) (l₀ : List A) (n : ℕ) (l : List A) : Type 0 where
  pub room : m ≤ length l₀
  pub inside : n ≤ m
  pub as_long : length l ≡ length l₀
  pub is : l ≡ tabulate n f ++ drop n l₀

module _ {A : Type 0} (f : ℕ → A) (m : ℕ) where
  pub fill_starts : (l : List A) → m ≤ length l → Filled f m l 0 l
  unfolding tabulate
  fill_starts l room = record { room = room; inside = zero-le; as_long = refl; is = refl }

  module _ (l₀ : List A) (n : ℕ) (l : List A) (so : Filled f m l₀ n l) where
    pub fill_ends : m ≤ n → l ≡ tabulate m f ++ drop m l₀
    fill_ends h = let e : n ≡ m = omega (arith, so.inside) in rw e at so.is

    -- an array that is filled whole
    pub fill_whole : m ≤ n → length l₀ ≡ m → l ≡ tabulate m f
    fill_whole h long = fill_ends h ∙ ap (λ (r : List A). tabulate m f ++ r) (drop_of_length-le l₀ {i = m} (omega (arith, long))) ∙ append-nil (tabulate m f)

    pub fill_goes_on : (x : A) → n < m → x ≡ f n → Filled f m l₀ (n + 1) (set l n x)
    fill_goes_on x h e = record { room = so.room; inside = omega arith; as_long = length-set l n x ∙ so.as_long; is = put }
      where
        put : set l n x ≡ tabulate (n + 1) f ++ drop (n + 1) l₀
        put = rw (so.is, e, add-one, drop-cons l₀ n (f n) (omega (arith, so.room)), tabulate_more, set_at (tabulate n f) (get_or l₀ n (f n)) (drop (suc n) l₀) (f n) n (tabulate_length f n), append_assoc)
