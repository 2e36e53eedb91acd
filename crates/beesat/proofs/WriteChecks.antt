-- Rows 38 and 29 of the paper's table, each behind those before it.
-- Assumes nothing.
use mathlib.Core.Path.{◌≡◌, sym, ap, ◌∙◌}
use mathlib.Core.Bool.{Bool, true, false, not}
use mathlib.Core.List.{List, [], ◌∷◌}
use Prim.Native.Nat.{ℕ, ◌^◌, ◌≤◌, ◌<◌}
use lib.Dec.{ltb}
use Rattle.std.specs.Prelude.{Result, Ok, Err}
use borrow.Author.Tests.{le-leb, lt-leb, ltb-true, ltb-false, not-true, not-false}
use Rattle.base.specs.Checks.{first, refusal}
use Rattle.base.specs.declared.Refusal.{Refusal}
use Rattle.base.specs.Written.{Written, done, refused}
use Rattle.layout.specs.Rows.{row_in}
use Rattle.layout.specs.declared.Row.{Row}
use Rattle.beesat.specs.Tables.{rows, field_count}
use Rattle.beesat.specs.Reading.{is_idle}
use Rattle.beesat.specs.Writing.{no_field, too_large, write_field_of}
use Rattle.beesat.specs.Inside.{width_of, outcome, verdict_of}
use Rattle.beesat.proofs.Verdicts.{by_verdict, then_checks}

module _ {A : Type 0} (frame : List ℕ) (field value : ℕ) (v : Result A Refusal) (is : outcome v ≡ verdict_of frame) where
  abbrev rest : Written
  rest = first done (no_field frame field ∷ too_large field value ∷ [])

  write_by : by_verdict refused rest (outcome v) ≡ write_field_of frame field value
  unfolding write_field_of
  write_by = ap (by_verdict refused rest) is ∙ sym (then_checks refused frame done (no_field frame field ∷ too_large field value ∷ []))

  pub write_refused : (why : Refusal) → v ≡ Err why → refused why ≡ write_field_of frame field value
  write_refused why refused = rw refused at write_by

  module _ (a : A) (good : v ≡ Ok a) where
    past_28 : rest ≡ write_field_of frame field value
    past_28 = rw good at write_by

    pub gives_38 : (r : Written) → r ≡ refused (refusal 38 field) → field_count ≤ field → r ≡ write_field_of frame field value
    gives_38 r made h = made ∙ rw (← past_28, le-leb field_count field h)

    module _ (there : field < field_count) (idle : Bool) (test : idle ≡ is_idle frame) where
      pub gives_38_idle : (r : Written) → r ≡ refused (refusal 38 field) → idle ≡ true → r ≡ write_field_of frame field value
      gives_38_idle r made so = let e : is_idle frame ≡ true = sym test ∙ so in made ∙ rw (← past_28, lt-leb field_count field there, e)

      module _ (packet : idle ≡ false) (table : List Row) (copied : table ≡ rows) (fits : Bool) (within : fits ≡ ltb value (2 ^ (row_in table field).width)) where
        past_38 : first done (too_large field value ∷ []) ≡ write_field_of frame field value
        past_38 = let e : is_idle frame ≡ false = sym test ∙ packet in rw (← past_28, lt-leb field_count field there, e)

        own : fits ≡ ltb value (2 ^ width_of field)
        own = rw copied at within

        pub gives_29 : (r : Written) → r ≡ refused (refusal 29 value) → not fits ≡ true → r ≡ write_field_of frame field value
        gives_29 r made so = made ∙ rw (← past_38, le-leb (2 ^ width_of field) value (ltb-false value (2 ^ width_of field) (sym own ∙ not-true fits so)))

        pub may_write : not fits ≡ false → done ≡ write_field_of frame field value
        may_write so = rw (← past_38, lt-leb (2 ^ width_of field) value (ltb-true value (2 ^ width_of field) (sym own ∙ not-false fits so)))
