-- What the header's answer says of a table that goes on after the header's rows.
-- Assumes nothing.
use mathlib.Core.Path.{◌≡◌, sym, ◌∙◌}
use mathlib.Core.List.{List, ◌++◌}
use Prim.Native.Nat.{ℕ}
use native.Mathlib.Omega.{arith}
use borrow.Author.Rules.{rules}
use Rattle.base.specs.declared.Refusal.{Refusal}
use Rattle.base.specs.Checks.{Check, first}
use Rattle.base.proofs.First.{Never, never_both, NoneApplies, first_append, first_stays, first_passes, first_none}
use Rattle.air.specs.WordRepairs.{flips_in}
use Rattle.header.specs.declared.Header.{Header}
use Rattle.header.specs.Answers.{Answer, accepted, refused}
use Rattle.header.specs.Fields.{header_of}
use Rattle.header_reader.specs.Reading.{Signal, arrived, repaired_bits, air_checks, header_checks, signal_checks, repaired_answer, read_header_of}

pub apart : (h : Header) (k : ℕ) (why : Refusal) → accepted h k ≡ refused why → ⊥
apart h k why e = let z : ◌≡◌ {A = ℕ} 0 1 = cc in omega arith

pub no_row : (h : Header) (k : ℕ) (why : Refusal) → refused why ≡ accepted h k → ⊥
no_row h k why e = apart h k why (sym e)

module _ (s : Signal) where
  pub not_refused : (why : Refusal) → repaired_answer s ≡ refused why → ⊥
  not_refused why = apart (header_of (repaired_bits s)) (flips_in (arrived s)) why

  -- a header that is accepted has passed all rows, and no other answer is the accepted one
  pub record ReadAs (h : Header) (k : ℕ) : Type 0 where
    pub is : repaired_answer s ≡ accepted h k
    pub passed : NoneApplies (signal_checks s)

  -- the rows refuse
  pub never_accepted : (h : Header) (k : ℕ) → Never (accepted h k) (signal_checks s)
  never_accepted h k = never_both (accepted h k) (air_checks s) (header_checks s.rules s.call (flips_in (arrived s)) (repaired_bits s)) (search (rules, no_row)) (search (rules, no_row))

  pub read_as : (h : Header) (k : ℕ) → read_header_of s ≡ accepted h k → ReadAs h k
  unfolding read_header_of
  read_as h k e =
      let passed = first_passes (repaired_answer s) (accepted h k) (signal_checks s) (never_accepted h k) e in
      record { is = passed.0; passed = passed.1 }

  -- a header that is refused stays refused
  pub header_refused : (more : List (Check Answer)) (why : Refusal) → read_header_of s ≡ refused why → first (repaired_answer s) (signal_checks s ++ more) ≡ refused why
  unfolding read_header_of
  header_refused more why e =
      first_append (repaired_answer s) (signal_checks s) more
      ∙ first_stays (repaired_answer s) (first (repaired_answer s) more) (refused why) (signal_checks s) (not_refused why) e

  -- one that is accepted leaves the rows that follow
  pub header_leaves : (more : List (Check Answer)) → NoneApplies (signal_checks s) → first (repaired_answer s) (signal_checks s ++ more) ≡ first (repaired_answer s) more
  header_leaves more passed = first_append (repaired_answer s) (signal_checks s) more ∙ first_none (first (repaired_answer s) more) (signal_checks s) passed
