-- "Accepted exactly when the published rules accept it", of a header: the reader's definition accepts with a header, a number of flips and
-- patterns exactly where the paper's rules do, and these three are unique.
-- Assumes nothing.
use mathlib.Core.Path.{◌≡◌, sym, ap, ap₂, ◌∙◌}
use mathlib.Core.List.{List}
use Prim.Native.Nat.{ℕ, ◌≤◌}
use native.Mathlib.Omega.{arith}
use Rattle.base.proofs.First.{none_split, first_none}
use Rattle.air.specs.WordRepairs.{repaired_of, flip_total, flips_in}
use Rattle.air.specs.Closeness.{AllClose, distances}
use Rattle.air.proofs.Places.{words_lt}
use Rattle.air.proofs.Answers.{flips_are_ones}
use Rattle.air.proofs.Restored.{distances_are, restored_patterns, repaired_all_close}
use Rattle.sign.specs.CallSigns.{sign_width}
use Rattle.sign.specs.Calls.{Call, looked_at, other_at}
use Rattle.sign.proofs.Agreeing.{tests_agree, agrees_fault, agrees_other}
use Rattle.header.specs.declared.Header.{Header}
use Rattle.header.specs.declared.Read.{Read}
use Rattle.header.specs.Answers.{accepted}
use Rattle.header.specs.Fields.{satellite_of, header_of, bits_of_words}
use Rattle.header_reader.specs.Reading.{Signal, arrived, repaired_bits, air_checks, header_checks, signal_checks, repaired_answer, read_header_of, patterns_of, header_read}
use Rattle.header.specs.Patterns.{beside}
use Rattle.header_reader.specs.Accepting.{AcceptsHeader}
use Rattle.header.proofs.Answers.{same_header, same_flips}
use Rattle.header.proofs.Beside.{beside_parts}
use Rattle.header_reader.proofs.Passed.{air_passed, header_passed, HeaderPassed}
use Rattle.header_reader.proofs.GoesOn.{ReadAs, read_as}
use Rattle.header_reader.proofs.RoundTrip.{restored}

module _ (s : Signal) (h : Header) (k : ℕ) where
  -- no row stands against what the rules accept
  pub rules_then_read : (patterns : List ℕ) → AcceptsHeader s h k patterns → ReadAs s h k
  rules_then_read patterns so =
      let flips : k ≡ distances (arrived s) so.words = so.counted ∙ ap flip_total so.patterned ∙ sym (distances_are (arrived s) so.words) in
      let sat : ℕ = satellite_of h.«fields».src_id in
      let looked : Call = looked_at s.rules.edition s.call in
      let agrees : sign_width ≤ other_at looked sat = omega (arith, agrees_other looked sat so.same_sign) in
      let passed : HeaderPassed s.rules s.call (distances (arrived s) so.words) (bits_of_words so.words) =
      record { within = rw (← flips) so.within_limit; same_crc5 = rw (← so.made) so.same_crc5; known_source = rw (← so.made) so.known_source; same_sign = rw (← so.made) agrees; known_coding = rw (← so.made) so.known_coding } in
      rw (← so.made, ← flips) at (restored s so.words so.long so.bits so.close so.known_limit (agrees_fault looked sat so.same_sign) passed)

  -- and their patterns are those of the words
  pub rules_then_patterns : (patterns : List ℕ) → AcceptsHeader s h k patterns → patterns_of s ≡ patterns
  rules_then_patterns patterns so = restored_patterns (arrived s) (words_lt s.air so.bits) so.words so.close ∙ sym so.patterned

  -- where no row stands against it, the rules accept it
  pub read_then_rules : ReadAs s h k → AcceptsHeader s h k (patterns_of s)
  read_then_rules so =
      let n : ℕ = repaired_bits s in
      let made : header_of n ≡ h = same_header (header_of n) h (flips_in (arrived s)) k so.is in
      let flips : flips_in (arrived s) ≡ k = same_flips (header_of n) h (flips_in (arrived s)) k so.is in
      let parts = none_split (air_checks s) (header_checks s.rules s.call (flips_in (arrived s)) n) so.passed in
      let air = air_passed s parts.0 in
      let header = header_passed s.rules s.call (flips_in (arrived s)) n parts.1 in
      let small = words_lt s.air air.bits in
      let close : AllClose (arrived s) (repaired_of (arrived s)) = repaired_all_close (arrived s) small air.repairable in
      record {
        long = air.long;
        bits = air.bits;
        words = repaired_of (arrived s);
        close = close;
        made = sym made;
        same_crc5 = rw made at header.same_crc5;
        known_source = rw made at header.known_source;
        same_sign = tests_agree (looked_at s.rules.edition s.call) (satellite_of h.«fields».src_id) air.sound_call (rw made at header.same_sign);
        known_coding = rw made at header.known_coding;
        patterned = restored_patterns (arrived s) small (repaired_of (arrived s)) close;
        counted = sym flips ∙ flips_are_ones (arrived s);
        known_limit = air.allowed;
        within_limit = rw flips at header.within;
      }

  -- THE SAME of what is read
  pub rules_then_header : (patterns : List ℕ) → AcceptsHeader s h k patterns → header_read s ≡ record { answer = accepted h k; patterns = patterns }
  unfolding header_read read_header_of
  rules_then_header patterns so =
      let read = rules_then_read patterns so in
      ap₂ beside (rules_then_patterns patterns so) (first_none (repaired_answer s) (signal_checks s) read.passed ∙ read.is)

  pub header_then_rules : (patterns : List ℕ) → header_read s ≡ record { answer = accepted h k; patterns = patterns } → AcceptsHeader s h k patterns
  unfolding header_read
  header_then_rules patterns e =
      let parts = beside_parts (patterns_of s) (read_header_of s) h k patterns e in
      rw parts.1 at (read_then_rules (read_as s h k parts.0))

-- and there is one such header, one such number of flips, and one such list of patterns
pub one_header : (s : Signal) (h g : Header) (k m : ℕ) (p q : List ℕ) → AcceptsHeader s h k p → AcceptsHeader s g m q → (h ≡ g) × (k ≡ m) × (p ≡ q)
one_header s h g k m p q a b =
    let both : ◌≡◌ {A = Read} (record { answer = accepted h k; patterns = p }) (record { answer = accepted g m; patterns = q }) = sym (rules_then_header s h k p a) ∙ rules_then_header s g m q b in
    let answers : accepted h k ≡ accepted g m = ap (λ (r : Read). r.answer) both in
    (same_header h g k m answers, same_flips h g k m answers, ap (λ (r : Read). r.patterns) both)
