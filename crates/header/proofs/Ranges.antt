-- The lowest field out of range: the loop that looks for it, and what it says of each field.
-- Assumes nothing.
use mathlib.Core.Path.{◌≡◌, ◌∙◌}
use mathlib.Core.Bool.{Bool}
use mathlib.Core.List.{List}
use Prim.Native.Nat.{ℕ, ◌+◌, ◌≤◌, ◌<◌}
use native.Mathlib.Nat.{le_trans}
use lib.Dec.{ltb}
use lib.ListN.{get_or}
use borrow.Author.Tests.{ne_eqb, lt-ltb, le-ltb, ltb-false}
use Rattle.base.specs.declared.Edition.{Edition}
use Rattle.base.specs.declared.Edition.TheVariants.{Corrected}
use Rattle.base.specs.Lists.{tabulate}
use Rattle.base.proofs.Tabulate.{tabulate_at}
use Rattle.base.proofs.Lowest.{Passed, starts, goes_on, stops, ends, lowest_is}
use Rattle.header.specs.declared.Fields.{Fields}
use Rattle.header.specs.Fields.{field_count, last_source_of, values_of}
use Rattle.header.specs.Writing.{most_of, first_over}

-- the bounds as a table, under the corrected edition; under another, SrcId's alone differs
abbrev mosts : List ℕ
mosts = tabulate field_count (most_of Corrected)

pub most_first : (edition : Edition) (k last : ℕ) → k ≡ 0 → last ≡ last_source_of edition → last ≡ most_of edition k
most_first edition k last first is = rw (first, is)

pub most_other : (edition : Edition) (k : ℕ) → k < field_count → (k ≡ 0 → ⊥) → get_or mosts k 0 ≡ most_of edition k
most_other edition k h other = tabulate_at (most_of Corrected) 0 field_count k h ∙ rw (ne_eqb k 0 other)

module _ (edition : Edition) (values : List ℕ) where
  abbrev over : ℕ → Bool
  over k = ltb (most_of edition k) (get_or values k 0)

  -- the fields before k are in range
  abbrev pub Checked : ℕ → Type 0
  Checked k = Passed field_count over k

  pub over_starts : Checked 0
  over_starts = starts field_count over

  module _ (k : ℕ) (so : Checked k) where
    module _ (h : k < field_count) (bound : ℕ) (is : bound ≡ most_of edition k) where
      pub over_goes_on : get_or values k 0 ≤ bound → Checked (k + 1)
      over_goes_on b = goes_on field_count over k so h (le-ltb (most_of edition k) (get_or values k 0) (rw is at b))

      pub over_stops : bound < get_or values k 0 → k ≡ first_over edition values
      over_stops b = stops field_count over k so h (lt-ltb (most_of edition k) (get_or values k 0) (rw is at b))

    pub over_ends : field_count ≤ k → k ≡ first_over edition values
    over_ends h = ends field_count over k so h

  -- where none is out of range, each is within its bound
  pub in_range : field_count ≤ first_over edition values → (k : ℕ) → k < field_count → get_or values k 0 ≤ most_of edition k
  in_range h k below = ltb-false (most_of edition k) (get_or values k 0) ((lowest_is over field_count).before k (le_trans below h))

-- the values of some fields
pub over_values : (edition : Edition) (f : Fields) (values : List ℕ) (over : ℕ) → values ≡ values_of f → over ≡ first_over edition values → over ≡ first_over edition (values_of f)
over_values edition f values over are is = rw are at is
