-- A payload of which only a part is at hand, and already that is over 1,023: the refusal of the part is that of the whole, but for the length in 15.
-- Assumes nothing.
use mathlib.Core.Path.{◌≡◌, refl, ◌∙◌}
use mathlib.Core.Bool.{Bool, true, false}
use mathlib.Core.List.{List, [], ◌∷◌}
use Prim.Native.Nat.{ℕ, ◌<◌}
use lib.Dec.{ltb}
use lib.ListN.{length}
use borrow.Author.Tests.{lt-ltb, eq-eqb, ne_eqb}
use Rattle.base.specs.declared.Edition.{Edition}
use Rattle.base.specs.declared.Refusal.{Refusal}
use Rattle.base.specs.Written.{done, refused}
use Rattle.base.specs.Checks.{check, first, refusal}
use Rattle.air.specs.Air.{payload_limit}
use Rattle.header.specs.declared.Fields.{Fields}
use Rattle.header.specs.Fields.{field_count, values_of}
use Rattle.header.specs.Writing.{first_over}
use Rattle.record.specs.Records.{record_size}
use Rattle.record_writer.specs.Writing.{write_record_of}
use Rattle.record_writer.specs.LongPayload.{whole_of, whole_answer}

-- by the refusal's number
module _ (why : Refusal) (size : ℕ) where
  pub of_length : why.number ≡ 15 → (whole : Refusal) → whole ≡ refusal 15 size → whole ≡ whole_of why size
  of_length e whole is = is ∙ rw (eq-eqb why.number 15 e)

  pub of_other : (why.number ≡ 15 → ⊥) → why ≡ whole_of why size
  of_other e = rw (ne_eqb why.number 15 e)

rows : (short over : Bool) (room field part whole : ℕ)
    → first done (check short (refused (refusal 13 room)) ∷ check over (refused (refusal 14 field)) ∷ check true (refused (refusal 15 whole)) ∷ [])
    ≡ whole_answer whole (first done (check short (refused (refusal 13 room)) ∷ check over (refused (refusal 14 field)) ∷ check true (refused (refusal 15 part)) ∷ []))
rows true over room field part whole = refl
rows false true room field part whole = refl
rows false false room field part whole = refl

pub long_refused : (edition : Edition) (f : Fields) (part payload : List ℕ) (room : ℕ) → payload_limit < length part → payload_limit < length payload
    → write_record_of edition f payload room ≡ whole_answer (length payload) (write_record_of edition f part room)
unfolding write_record_of
long_refused edition f part payload room some all =
    rw (lt-ltb payload_limit (length part) some, lt-ltb payload_limit (length payload) all)
    (rows (ltb room (record_size payload_limit)) (ltb (first_over edition (values_of f)) field_count) room (first_over edition (values_of f)) (length part) (length payload))
