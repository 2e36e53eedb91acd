-- The bits that are written: the fields' values, PduLength and CRC13 make two numbers, and CRC5 is added to the lower.
-- Assumes nothing.
use mathlib.Core.Path.{◌≡◌, refl, sym, ap, ap₂, ◌∙◌}
use mathlib.Core.List.{List, [], ◌∷◌, ◌++◌}
use Prim.Native.Nat.{ℕ, ◌+◌, ◌^◌, ◌≤◌, ◌<◌}
use native.Mathlib.Nat.{lt_of_le_of_lt, add-zero}
use native.Mathlib.Omega.{arith}
use lib.Dec.{ltb, ltb→lt}
use lib.ListN.{length, get_or, take, drop}
use mir.Syntax.{w64}
use mir.Val.{Fits}
use mathlib.Core.Bool.{Bool, not}
use Rattle.base.specs.declared.Edition.{Edition}
use Rattle.base.specs.declared.Edition.TheVariants.{Flown, Corrected}
use Rattle.base.specs.Lists.{lowest}
use Rattle.base.specs.Parts.{joined, InWidths, none, part}
use Rattle.base.proofs.Lowest.{every_below}
use Rattle.base.proofs.Joined.{join_above, join_lt, join_append, within_all, within_append, within_front, within_rest}
use Rattle.crc.specs.Crc.{crc13_of}
use Rattle.crc.specs.Crc5.{crc5_of}
use Rattle.crc.proofs.Width.{crc13_lt, crc5_lt}
use Rattle.header.specs.declared.Fields.{Fields}
use Rattle.header.specs.Fields.{widths, field_count, values_of}
use Rattle.header.specs.Writing.{most_of, first_over, bits_with, bits_for}
use Rattle.header.proofs.Ranges.{in_range}
use Rattle.air.specs.Air.{payload_limit}
use Rattle.crc.specs.Halves.{header_bits, hi_width, lo_width}
use Rattle.header.specs.HalfWidths.{lower_widths, upper_fields, upper_widths}

-- a bound is within its field's width
abbrev in_width : Edition → ℕ → Bool
in_width edition k = ltb (most_of edition k) (2 ^ get_or (take field_count widths) k 0)

all_in_width : (edition : Edition) → lowest field_count (λ k. not (in_width edition k)) ≡ field_count
unfolding lowest
all_in_width Flown = refl
all_in_width Corrected = refl

most_lt : (edition : Edition) (k : ℕ) → k < field_count → most_of edition k < 2 ^ get_or (take field_count widths) k 0
most_lt edition k h = ltb→lt (most_of edition k) (2 ^ get_or (take field_count widths) k 0) (every_below field_count (in_width edition) (all_in_width edition) k h)

abbrev written : List ℕ → ℕ → List ℕ
written payload crc5 = length payload ∷ crc13_of payload ∷ crc5 ∷ []

module _ (edition : Edition) (f : Fields) (payload : List ℕ) (ranges : field_count ≤ first_over edition (values_of f)) (short : length payload ≤ payload_limit) where
  pub values_within : (crc5 : ℕ) → crc5 < 32 → InWidths widths (values_of f ++ written payload crc5)
  values_within crc5 h =
      within_append
      (within_all (take field_count widths) (values_of f) refl (λ k below. lt_of_le_of_lt (in_range edition (values_of f) ranges k below) (most_lt edition k below)))
      (part {w = 10} (omega (arith, short)) (part {w = 13} (crc13_lt payload) (part {w = 5} h none)))

  module _ (crc13 hi lo : ℕ) (worked13 : crc13 ≡ crc13_of payload) (above : hi ≡ joined upper_widths (take upper_fields (values_of f)))
      (lower : lo ≡ joined lower_widths (drop upper_fields (values_of f) ++ (length payload ∷ crc13 ∷ 0 ∷ []))) where
    below : lo ≡ joined lower_widths (drop upper_fields (values_of f) ++ written payload 0)
    below = rw worked13 at lower

    upper_within : InWidths upper_widths (take upper_fields (values_of f))
    upper_within = within_front upper_widths lower_widths (take upper_fields (values_of f)) (drop upper_fields (values_of f) ++ written payload 0) refl (values_within 0 (omega arith))

    lower_within : (crc5 : ℕ) → crc5 < 32 → InWidths lower_widths (drop upper_fields (values_of f) ++ written payload crc5)
    lower_within crc5 h = within_rest upper_widths lower_widths (take upper_fields (values_of f)) (drop upper_fields (values_of f) ++ written payload crc5) refl (values_within crc5 h)

    pub hi_lt : hi < 2 ^ hi_width
    hi_lt = rw above (join_lt upper_within)

    pub lo_lt : lo < 2 ^ lo_width
    lo_lt = rw below (join_lt (lower_within 0 (omega arith)))

    -- the last part is added
    with_crc5 : (crc5 : ℕ) → joined lower_widths (drop upper_fields (values_of f) ++ written payload crc5) ≡ lo + crc5
    with_crc5 crc5 = rw (below, add-zero)

    two_numbers : (crc5 : ℕ) → crc5 < 32 → bits_with f payload crc5 ≡ header_bits hi (lo + crc5)
    two_numbers crc5 h =
        join_append 0 upper_widths lower_widths (take upper_fields (values_of f)) (drop upper_fields (values_of f) ++ written payload crc5) refl
        ∙ join_above (joined upper_widths (take upper_fields (values_of f))) (lower_within crc5 h)
        ∙ ap₂ header_bits (sym above) (with_crc5 crc5)

    module _ (crc5 : ℕ) (worked : crc5 ≡ crc5_of edition (header_bits hi lo)) where
      crc5_small : crc5 < 32
      crc5_small = rw worked (crc5_lt edition (header_bits hi lo))

      pub whole_lt : lo + crc5 < 2 ^ lo_width
      whole_lt = rw (← with_crc5 crc5) (join_lt (lower_within crc5 crc5_small))

      pub whole_fits : Fits w64 (lo + crc5)
      whole_fits = record { fits = omega (arith, whole_lt) }

      pub packed : header_bits hi (lo + crc5) ≡ bits_for edition f payload
      unfolding bits_for
      packed =
          let first : bits_with f payload 0 ≡ header_bits hi lo = two_numbers 0 (omega arith) ∙ ap (header_bits hi) (add-zero lo) in
          sym (ap (λ (n : ℕ). bits_with f payload (crc5_of edition n)) first ∙ ap (bits_with f payload) (sym worked) ∙ two_numbers crc5 crc5_small)
