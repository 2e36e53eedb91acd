-- Two sheets with the same sources and counts have the same text, however many records they have.
-- Assumes nothing.
use mathlib.Core.Path.{◌≡◌, refl, ap, ap₂}
use mathlib.Core.Bool.{Bool}
use mathlib.Core.List.{List, ◌++◌}
use Prim.Native.Nat.{ℕ, zero, suc}
use Rattle.base.specs.declared.Edition.{Edition}
use Rattle.lines.specs.declared.Tally.{Tally}
use Rattle.lines.specs.Lines.{closing_of}
use Rattle.source.specs.Lanes.{source_in}
use Rattle.sheet.specs.Sheets.{Sheet}
use Rattle.sheet.specs.Sheets.{records_of, source_at}
use Rattle.sheet_lines.specs.Lines.{join_to, heard_line, refusal_lines, lines_of_sheet, totals_of}

join_same : (n : ℕ) (f g : ℕ → List ℕ) → ((k : ℕ) → f k ≡ g k) → join_to n f ≡ join_to n g
unfolding join_to
join_same zero f g same = refl
join_same (suc n) f g same = ap₂ (λ (l m : List ℕ). l ++ m) (join_same n f g same) (same n)

module _ (edition : Edition) (s t : Sheet) (sources : (k : ℕ) → source_at s k ≡ source_at t k) (counts : s.refusals ≡ t.refusals) where
  lines_alike : lines_of_sheet edition s ≡ lines_of_sheet edition t
  unfolding lines_of_sheet
  lines_alike =
      ap₂ (λ (l m : List ℕ). l ++ m)
      (join_same (records_of edition) (λ k. heard_line edition k (source_in s.sources k)) (λ k. heard_line edition k (source_in t.sources k)) (λ k. ap (heard_line edition k) (sources k)))
      (ap refusal_lines counts)

  pub totals_alike : (tally : Tally) (cut : Bool) → totals_of edition s tally cut ≡ totals_of edition t tally cut
  unfolding totals_of
  totals_alike tally cut = ap (λ (l : List ℕ). l ++ closing_of tally cut) lines_alike
