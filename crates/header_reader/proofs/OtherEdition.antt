-- A header written under one edition and read under the other: the same where header bits 32 to 35 are zero, else its CRC5 differs.
-- Assumes nothing.
use mathlib.Core.Path.{◌≡◌, refl, sym, ap, ap₂, ◌∙◌}
use mathlib.Core.Bool.{false}
use mathlib.Core.Logic.{⊎_elim}
use mathlib.Core.List.{List}
use Prim.Native.Nat.{ℕ, ◌^◌, ◌≤◌, ◌<◌, zero-le}
use native.Mathlib.Omega.{arith}
use lib.Dec.{lit<}
use lib.Pow.{high}
use lib.ListN.{get_or}
use borrow.Author.Tests.{le-ltb, ne_eqb, ltb-true}
use Rattle.base.specs.declared.Edition.{Edition}
use Rattle.base.specs.declared.Edition.TheVariants.{Flown, Corrected}
use Rattle.base.specs.Checks.{first, refusal}
use Rattle.base.specs.Parts.{parts_of}
use Rattle.base.proofs.First.{first_append, first_none}
use Rattle.base.proofs.Lowest.{lowest_is}
use Rattle.base.proofs.Tests.{lt_or_ge}
use Rattle.crc.specs.Crc5.{header_bit, counted_flown, crc5_of}
use Rattle.crc.proofs.Width.{crc5_lt}
use Rattle.crc.proofs.Unseen.{carried_same}
use Rattle.crc.proofs.Apart.{flown_differs, flown_agrees, none_of_four, one_of_four}
use Rattle.air.specs.Air.{air_of}
use Rattle.air.specs.Flips.{most_flips}
use Rattle.air.specs.WordRepairs.{flips_in}
use Rattle.air.specs.Closeness.{AllClose, distances}
use Rattle.air.proofs.Places.{words_lt}
use Rattle.air.proofs.Restored.{restored_flips, close_self, distances_self}
use Rattle.sign.specs.Calls.{absent}
use Rattle.header.specs.declared.Fields.{Fields}
use Rattle.header.specs.declared.Header.{Header}
use Rattle.header.specs.declared.Rules.{Rules}
use Rattle.header.specs.Answers.{Answer, accepted, refused}
use Rattle.header.specs.Fields.{widths, field_count, values_of, last_source_of, header_of, coded_of}
use Rattle.header_reader.specs.Reading.{Signal, signal, arrived, repaired_bits, air_checks, unknown_source, header_checks, signal_checks, repaired_answer, read_header_of}
use Rattle.header.specs.Writing.{most_of, first_over, bits_with, bits_for, header_for, air_for}
use Rattle.header.proofs.Ranges.{in_range}
use Rattle.header.proofs.WrittenAir.{Writable, air_for_length, written_words, written_are_bits, written_header, written_crc5, written_bits, written_lt}
use Rattle.header_reader.proofs.Passed.{air_passes}
use Rattle.header.proofs.Carried.{coded_valid}
use Rattle.header_reader.proofs.GoesOn.{ReadAs}
use Rattle.header_reader.proofs.RoundTrip.{restored_passed, restored_bits, header_read_back}

-- SrcId has seven bits, so none is above 127
pub corrected_no_5 : (n : ℕ) → (unknown_source Corrected n).applies ≡ false
unfolding header_of
corrected_no_5 n = le-ltb 127 (get_or (parts_of widths n) 0 0) (omega arith)

-- two editions, the four bits zero
agree : (a b : Edition) (n : ℕ) → counted_flown n ≡ n → crc5_of a n ≡ crc5_of b n
agree Flown Flown n none = refl
agree Flown Corrected n none = flown_agrees n none
agree Corrected Flown n none = sym (flown_agrees n none)
agree Corrected Corrected n none = refl

-- or one of them set
differ : (a b : Edition) → (b ≡ a → ⊥) → (n : ℕ) → n < 2 ^ 70 → (counted_flown n ≡ n → ⊥) → crc5_of b n ≡ crc5_of a n → ⊥
differ Flown Flown other n small some same = other refl
differ Flown Corrected other n small some same = flown_differs n small some (sym same)
differ Corrected Flown other n small some same = flown_differs n small some same
differ Corrected Corrected other n small some same = other refl

-- a SrcId that the flown edition knows, every edition knows
known_everywhere : (edition : Edition) (src : ℕ) → src ≤ 7 → src ≤ last_source_of edition
known_everywhere Flown src h = h
known_everywhere Corrected src h = omega arith

-- no flips, and a CRC5 that differs
judged_4 : (a : Answer) (rules : Rules) (n crc : ℕ) → crc ≡ crc5_of rules.edition n → (crc ≡ (header_of n).«crc5» → ⊥) → first a (header_checks rules absent 0 n) ≡ refused (refusal 4 crc)
judged_4 a rules n crc is apart = rw (le-ltb rules.limit 0 zero-le, ← is, ne_eqb crc (header_of n).«crc5» apart)

-- so fields that one edition lets be written, the other does too
module _ (edition other : Edition) (f : Fields) (payload : List ℕ) (ok : Writable edition f payload) (known : f.src_id ≤ 7) where
  within : (k : ℕ) → k < field_count → get_or (values_of f) k 0 ≤ most_of other k
  within k h =
      ⊎_elim (λ (low : k < 1). let first : k ≡ 0 = omega arith in rw first (known_everywhere other f.src_id known))
      (λ (high : 1 ≤ k). rw (ne_eqb k 0 (λ (e : k ≡ 0). omega arith)) (rw (ne_eqb k 0 (λ (e : k ≡ 0). omega arith)) at (in_range edition (values_of f) ok.ranges k h)))
      (lt_or_ge k 1)

  writable_too : Writable other f payload
  writable_too = record {
    ranges = ⊎_elim
        (λ (below : first_over other (values_of f) < field_count).
        absurd (omega (arith, within (first_over other (values_of f)) below, ltb-true (most_of other (first_over other (values_of f))) (get_or (values_of f) (first_over other (values_of f)) 0) ((lowest_is _ field_count).passes below))))
        (λ (all : field_count ≤ first_over other (values_of f)). all)
        (lt_or_ge (first_over other (values_of f)) field_count);
    short = ok.short;
  }

module _ (edition : Edition) (f : Fields) (payload : List ℕ) (ok : Writable edition f payload) where
  abbrev n : ℕ
  n = bits_for edition f payload

  -- CRC5 does not look at itself
  any_crc5 : (other : Edition) → crc5_of other n ≡ crc5_of other (bits_with f payload 0)
  unfolding bits_for
  any_crc5 other = carried_same other n (bits_with f payload 0) (high _ 5 (crc5_lt edition (bits_with f payload 0)) ∙ sym (high _ 5 (lit< tt)))

  -- THE FOUR BITS ARE ZERO
  module _ (known : f.src_id ≤ 7) (rules : Rules) (allowed : rules.limit ≤ most_flips) where
    same_crc5 : counted_flown n ≡ n → crc5_of rules.edition (bits_with f payload 0) ≡ crc5_of edition (bits_with f payload 0)
    same_crc5 none = sym (any_crc5 rules.edition) ∙ agree rules.edition edition n none ∙ any_crc5 edition

    same_bits : counted_flown n ≡ n → bits_for rules.edition f payload ≡ bits_for edition f payload
    unfolding bits_for
    same_bits none = ap (bits_with f payload) (same_crc5 none)

    same_air : counted_flown n ≡ n → air_for rules.edition f payload ≡ air_for edition f payload
    unfolding air_for
    same_air none = ap (λ (b : ℕ). air_of (coded_of b)) (same_bits none)

    same_header : counted_flown n ≡ n → header_for rules.edition f payload ≡ header_for edition f payload
    same_header none = rw (same_crc5 none)

    pub reads_same : ((k : ℕ) → 32 ≤ k → k < 36 → header_bit (bits_for edition f payload) k ≡ 0) → read_header_of (signal rules (air_for edition f payload)) ≡ accepted (header_for edition f payload) 0
    unfolding read_header_of
    reads_same zeros =
        let none : counted_flown n ≡ n = none_of_four n (written_lt edition f payload ok) zeros in
        let back : ReadAs (signal rules (air_for edition f payload)) (header_for edition f payload) 0 =
        rw (same_air none, same_header none) at (header_read_back rules f payload (writable_too edition rules.edition f payload ok known) allowed absent tt) in
        first_none (repaired_answer (signal rules (air_for edition f payload))) (signal_checks (signal rules (air_for edition f payload))) back.passed ∙ back.is

  -- ONE OF THEM IS SET
  module _ (rules : Rules) (allowed : rules.limit ≤ most_flips) where
    abbrev s : Signal
    s = signal rules (air_for edition f payload)

    abbrev coded : List ℕ
    coded = coded_of n

    close : AllClose (arrived s) coded
    close = rw (written_words edition f payload) (close_self coded (coded_valid n))

    bits_are : repaired_bits s ≡ n
    bits_are = restored_bits s coded (air_for_length edition f payload) (written_are_bits edition f payload) close allowed refl ∙ written_bits edition f payload ok

    no_flips : flips_in (arrived s) ≡ 0
    no_flips =
        restored_flips (arrived s) (words_lt (air_for edition f payload) (written_are_bits edition f payload)) coded close
        ∙ ap (λ (l : List ℕ). distances l coded) (written_words edition f payload) ∙ distances_self coded

    carried : (header_of n).«crc5» ≡ crc5_of edition n
    carried = ap (λ (h : Header). h.«crc5») (written_header edition f payload ok) ∙ sym (written_crc5 edition f payload ok)

    pub refused_4 : (rules.edition ≡ edition → ⊥) → (k : ℕ) → 32 ≤ k → k < 36 → header_bit (bits_for edition f payload) k ≡ 1
        → read_header_of (signal rules (air_for edition f payload)) ≡ refused (refusal 4 (crc5_of rules.edition (bits_for edition f payload)))
    unfolding read_header_of
    refused_4 other k from to set =
        let apart : crc5_of rules.edition n ≡ (header_of n).«crc5» → ⊥ =
        λ (e : crc5_of rules.edition n ≡ (header_of n).«crc5»). differ edition rules.edition other n (written_lt edition f payload ok) (one_of_four n k from to set) (e ∙ carried) in
        let passed = air_passes s (restored_passed s coded (air_for_length edition f payload) (written_are_bits edition f payload) close allowed refl) in
        first_append (repaired_answer s) (air_checks s) (header_checks rules absent (flips_in (arrived s)) (repaired_bits s))
        ∙ first_none (first (repaired_answer s) (header_checks rules absent (flips_in (arrived s)) (repaired_bits s))) (air_checks s) passed
        ∙ ap₂ (λ (flips b : ℕ). first (repaired_answer s) (header_checks rules absent flips b)) no_flips bits_are
        ∙ judged_4 (repaired_answer s) rules n (crc5_of rules.edition n) refl apart
