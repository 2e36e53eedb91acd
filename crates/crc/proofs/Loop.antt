-- The loops of a checksum, for every width and polynomial: over the bits of a byte, and over bytes.
-- Assumes nothing.
use mathlib.Core.Path.{◌≡◌, refl, sym, ◌∙◌}
use mathlib.Core.List.{List, [], ◌∷◌, ◌++◌, foldl, foldl-append, flat_map, reverse}
use Prim.Native.Nat.{ℕ, ◌^◌, ◌≤◌, ◌<◌}
use lib.ListN.{length, drop}
use Rattle.base.proofs.Fold.{Upward, up_ends, Downward, down_ends}
use Rattle.crc.specs.Crc.{byte_bits, bits_of, bits_of_bytes, crc_step, crc_of}
use Rattle.crc.proofs.Width.{crc_lt}

module _ (w p : ℕ) where
  -- two messages, one after the other
  pub crc_append : (start : ℕ) (xs ys : List ℕ) → crc_of w p start (xs ++ ys) ≡ crc_of w p (crc_of w p start xs) ys
  crc_append start xs ys = foldl-append (crc_step w p) start xs ys

  -- a byte into a checksum
  abbrev pub crc_byte : ℕ → ℕ → ℕ
  crc_byte crc byte = crc_of w p crc (bits_of byte_bits byte)

  -- byte by byte is bit by bit
  pub by_bytes : (start : ℕ) (bytes : List ℕ) → foldl crc_byte start bytes ≡ crc_of w p start (bits_of_bytes bytes)
  unfolding flat_map
  by_bytes start [] = refl
  by_bytes start (b ∷ bs) = by_bytes (crc_byte start b) bs ∙ sym (crc_append start (bits_of byte_bits b) (bits_of_bytes bs))

  -- the loop from the first byte to the last has them all in
  pub up_bytes : (start : ℕ) (bytes : List ℕ) (i crc : ℕ) → Upward crc_byte start bytes i crc → length bytes ≤ i
      → crc ≡ crc_of w p start (bits_of_bytes bytes)
  up_bytes start bytes i crc so h = up_ends crc_byte start bytes i crc so h ∙ by_bytes start bytes

  -- and so has the loop from the last byte to the first
  pub down_bytes : (start : ℕ) (bytes : List ℕ) (i crc : ℕ) → Downward crc_byte start bytes i crc → i ≤ 0
      → crc ≡ crc_of w p start (bits_of_bytes (reverse bytes))
  down_bytes start bytes i crc so h = down_ends crc_byte start bytes i crc so h ∙ by_bytes start (reverse bytes)

  -- and its state is within the width all the way
  pub down_lt : p < 2 ^ w → (start : ℕ) → start < 2 ^ w → (bytes : List ℕ) (i crc : ℕ) → Downward crc_byte start bytes i crc → crc < 2 ^ w
  down_lt fits start h bytes i crc so =
      rw (so.done, by_bytes start (reverse (drop i bytes))) (crc_lt w p fits start (bits_of_bytes (reverse (drop i bytes))) h)
