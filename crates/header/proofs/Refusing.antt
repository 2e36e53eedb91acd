-- The writer's answer, row by row of the paper's table, each behind those before it: rows 13 to 15, and what is written where none applies.
-- Each is given exactly when its row is the first that applies.
-- Assumes nothing.
use mathlib.Core.Path.{◌≡◌, refl, ap, ◌∙◌}
use mathlib.Core.List.{List, [], ◌∷◌, ◌++◌}
use Prim.Native.Nat.{ℕ, ◌≤◌, ◌<◌}
use lib.ListN.{length, drop}
use borrow.Author.Tests.{lt-ltb, le-ltb}
use Rattle.base.specs.declared.Refusal.{Refusal}
use Rattle.base.specs.Written.{done, refused}
use Rattle.base.specs.declared.Edition.{Edition}
use Rattle.base.specs.Checks.{Exactly, first, refusal}
use Rattle.base.proofs.Exactly.{exactly, done_apart}
use Rattle.air.specs.Air.{air_bits, payload_limit, air_of}
use Rattle.header.specs.declared.Fields.{Fields}
use Rattle.header.specs.Fields.{field_count, values_of, coded_of}
use Rattle.header.specs.Writing.{first_over, out_of_range, long_payload, write_checks, write_header_of, bits_for, air_for, HeaderWritten}

-- the words that are sent are those of the header's bits
pub sent_written : (edition : Edition) (f : Fields) (payload words out after : List ℕ) (n : ℕ) → words ≡ coded_of n → n ≡ bits_for edition f payload → after ≡ air_of words ++ drop air_bits out → after ≡ air_for edition f payload ++ drop air_bits out
unfolding air_for
sent_written edition f payload words out after n coded is e = e ∙ ap (λ (l : List ℕ). air_of l ++ drop air_bits out) (coded ∙ ap coded_of is)

pub ranges : (edition : Edition) (f : Fields) (over : ℕ) → over ≡ first_over edition (values_of f) → field_count ≤ over → field_count ≤ first_over edition (values_of f)
ranges edition f over found within = rw found at within

module _ (edition : Edition) (f : Fields) (payload out : List ℕ) where
  pub gives_13 : length out < air_bits → HeaderWritten edition f payload out (refused (refusal 13 (length out))) out
  unfolding write_header_of
  gives_13 h = record { answered = rw (lt-ltb (length out) air_bits h); bytes = refl }

  module _ (room : air_bits ≤ length out) (over : ℕ) (found : over ≡ first_over edition (values_of f)) where
    pub past_13 : first done (out_of_range edition f ∷ long_payload payload ∷ []) ≡ write_header_of edition f payload (length out)
    unfolding write_header_of
    past_13 = rw (le-ltb (length out) air_bits room)

    pub gives_14 : over < field_count → HeaderWritten edition f payload out (refused (refusal 14 over)) out
    gives_14 h = record { answered = rw (← past_13, ← found, lt-ltb over field_count h); bytes = refl }

    module _ (within : field_count ≤ over) where
      past_14 : first done (long_payload payload ∷ []) ≡ write_header_of edition f payload (length out)
      past_14 = rw (← past_13, ← found, le-ltb over field_count within)

      pub gives_15 : (why : Refusal) → why ≡ refusal 15 (length payload) → payload_limit < length payload → HeaderWritten edition f payload out (refused why) out
      gives_15 why told h = record { answered = ap refused told ∙ rw (← past_14, lt-ltb payload_limit (length payload) h); bytes = refl }

      pub writes : length payload ≤ payload_limit → (after : List ℕ) → after ≡ air_for edition f payload ++ drop air_bits out → HeaderWritten edition f payload out done after
      writes h after e = record { answered = rw (← past_14, le-ltb payload_limit (length payload) h); bytes = e }

-- "given exactly when"
pub write_exactly : (edition : Edition) (f : Fields) (payload : List ℕ) (room : ℕ) (why : Refusal) → Exactly (write_header_of edition f payload room) (refused why) (write_checks edition f payload room)
unfolding write_header_of
write_exactly edition f payload room why = exactly done (refused why) (write_checks edition f payload room) (done_apart why)
