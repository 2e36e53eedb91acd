-- The record put: its three parts one after another are its bytes, and what stands behind them is as it was.
-- Assumes nothing.
use mathlib.Core.Path.{◌≡◌, ◌∙◌}
use mathlib.Core.List.{List, [], ◌∷◌, ◌++◌}
use Prim.Native.Nat.{ℕ, ◌/◌, ◌%◌}
use native.Mathlib.Nat.{zero-add}
use native.Mathlib.Omega.{arith}
use lib.ListN.{length, drop, length-append}
use Rattle.text.specs.Text.{laid, Put}
use Rattle.text.proofs.Laid.{put_three}
use Rattle.air.specs.Air.{air_bits}
use Rattle.record.specs.Records.{record_size, length_of}
use Rattle.record_writer.specs.Writing.{record_from}

pub record_length : (air payload : List ℕ) → length air ≡ air_bits → length (record_from air payload) ≡ record_size (length payload)
unfolding record_from
record_length air payload long = omega (arith, long, length-append (length_of (length payload) ++ air) payload, length-append (length_of (length payload)) air)

-- a text at the front
laid_front : (l text : List ℕ) (n : ℕ) → length text ≡ n → laid l 0 text ≡ text ++ drop n l
unfolding laid
laid_front l text n size = rw (size, zero-add)

whole : (out m n after air payload : List ℕ) (p q r : ℕ)
    → Put out 0 (length payload / 256 ∷ length payload % 256 ∷ []) m p → Put m p air n q → Put n q payload after r → after ≡ laid out 0 (record_from air payload)
unfolding record_from
whole out m n after air payload p q r size bits rest = (put_three size bits rest).bytes

pub put_record : (out m n after air payload : List ℕ) (p q r : ℕ) → length air ≡ air_bits
    → Put out 0 (length payload / 256 ∷ length payload % 256 ∷ []) m p → Put m p air n q → Put n q payload after r
    → after ≡ record_from air payload ++ drop (record_size (length payload)) out
put_record out m n after air payload p q r long size bits rest =
    whole out m n after air payload p q r size bits rest ∙ laid_front out (record_from air payload) (record_size (length payload)) (record_length air payload long)
