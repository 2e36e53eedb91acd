-- What a header that was read says: its answer, and the patterns beside it.
-- Assumes nothing.
use mathlib.Core.Path.{◌≡◌, refl, sym, ap, ◌∙◌}
use mathlib.Core.List.{List}
use Prim.Native.Nat.{ℕ}
use Rattle.air.specs.WordRepairs.{flip_total, flips_in}
use Rattle.air.proofs.Answers.{flips_are_ones}
use Rattle.header.specs.declared.Header.{Header}
use Rattle.header.specs.declared.Read.{Read}
use Rattle.header.specs.Answers.{Answer, accepted}
use Rattle.header.specs.Fields.{header_of}
use Rattle.header.specs.Patterns.{beside}
use Rattle.header.proofs.Answers.{same_flips}
use Rattle.header.proofs.Beside.{beside_answer}
use Rattle.header_reader.specs.Reading.{Signal, arrived, repaired_bits, read_header_of, patterns_of, header_read}
use Rattle.header_reader.proofs.GoesOn.{read_as}

module _ (s : Signal) (r : Read) (is : r ≡ header_read s) where
  pub read_answer : r.answer ≡ read_header_of s
  unfolding header_read
  read_answer = ap (λ (x : Read). x.answer) is ∙ beside_answer (patterns_of s) (read_header_of s)

  -- of an accepted one, the patterns of its words
  pub read_patterns : (h : Header) (flips : ℕ) → r.answer ≡ accepted h flips → r.patterns ≡ patterns_of s
  unfolding header_read
  read_patterns h flips e =
      let same : read_header_of s ≡ accepted h flips = sym read_answer ∙ e in
      ap (λ (x : Read). x.patterns) is ∙ ap (λ (a : Answer). (beside (patterns_of s) a).patterns) same

-- "the total being their ones"
pub read_total : (s : Signal) (h : Header) (flips : ℕ) (patterns : List ℕ) → header_read s ≡ record { answer = accepted h flips; patterns = patterns } → flips ≡ flip_total patterns
read_total s h flips patterns e =
    let r : Read = record { answer = accepted h flips; patterns = patterns } in
    let same : flips_in (arrived s) ≡ flips = same_flips (header_of (repaired_bits s)) h (flips_in (arrived s)) flips (read_as s h flips (sym (read_answer s r (sym e)))).is in
    sym same ∙ flips_are_ones (arrived s) ∙ ap flip_total (sym (read_patterns s r (sym e) h flips refl))
