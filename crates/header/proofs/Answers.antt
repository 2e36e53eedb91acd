-- An accepted answer tells one header and one number of flips.
-- Assumes nothing.
use mathlib.Core.Path.{◌≡◌, ap}
use Prim.Native.Nat.{ℕ}
use Rattle.header.specs.declared.Header.{Header}
use Rattle.header.specs.declared.Accepted.{Accepted}
use Rattle.header.specs.Answers.{accepted}

module _ (h g : Header) (k m : ℕ) (e : accepted h k ≡ accepted g m) where
  same_told : ◌≡◌ {A = Accepted} (record { header = h; flips = k }) (record { header = g; flips = m })
  same_told = cc

  pub same_header : h ≡ g
  same_header = ap (λ (a : Accepted). a.header) same_told

  pub same_flips : k ≡ m
  same_flips = ap (λ (a : Accepted). a.flips) same_told
