-- Bursts: up to 42 neighbouring air bits have at most three places of each word, and no burst has more flips than places.
-- Assumes nothing.
use mathlib.Core.List.{List}
use Prim.Native.Nat.{ℕ, ◌+◌, ◌-◌, ◌*◌, ◌/◌, ◌≤◌, ◌<◌}
use native.Mathlib.Nat.{le_trans}
use native.Mathlib.Omega.{arith}
use borrow.Author.Tests.{le-leb, lt-ltb}
use Rattle.base.proofs.Doubles.{many_le}
use Rattle.base.proofs.Windows.{window, window_few}
use Rattle.air.specs.Air.{word_count, air_bits}
use Rattle.air.specs.Flips.{most_flips, flips_between, flips_in_word, Burst}
use Rattle.word.specs.Words.{positions}
use Rattle.word.specs.Repairs.{radius}

module _ (size start : ℕ) (x y : List ℕ) (only : Burst size start x y) where
  pub burst_few : size ≤ most_flips → (j : ℕ) → j < word_count → flips_in_word x y j ≤ radius
  unfolding flips_in_word
  burst_few short j h =
      let a : ℕ = (start + word_count - 1 - j) / word_count in
      le_trans (many_le positions _ (window a radius) (λ i below e.
      let near = only (word_count * i + j) (omega arith) e in
      rw (le-leb a i (omega (arith, near.0)), lt-ltb i (a + radius) (omega (arith, near.1, short)))))
      (window_few a radius positions).1

  pub burst_total : flips_between x y ≤ size
  unfolding flips_between
  burst_total =
      le_trans (many_le air_bits _ (window start size) (λ n below e.
      let near = only n below e in
      rw (le-leb start n near.0, lt-ltb n (start + size) near.1)))
      (window_few start size air_bits).1
