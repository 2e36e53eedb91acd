-- What was written is read: the very header, and exactly the flips that the words suffered on the way.
-- Assumes nothing.
use mathlib.Core.Path.{◌≡◌, sym, ap, ap₂, ◌∙◌}
use mathlib.Core.List.{List}
use Prim.Native.Nat.{ℕ, ◌≤◌}
use native.Mathlib.Omega.{arith}
use lib.Dec.{lit<}
use lib.ListN.{length}
use Rattle.base.specs.declared.Edition.{Edition}
use Rattle.base.specs.Lists.{AreBits}
use Rattle.air.specs.Air.{air_bits, words_of}
use Rattle.air.specs.WordRepairs.{flips_in}
use Rattle.air.proofs.Places.{words_lt}
use Rattle.air.proofs.Restored.{restored_none, restored_words, restored_flips, close_self, distances_self}
use Rattle.sign.specs.CallSigns.{sign_width}
use Rattle.sign.specs.Calls.{Call, looked_at, fault_at, Agrees}
use Rattle.sign.proofs.Agreeing.{agrees_fault, agrees_other}
use Rattle.header.specs.declared.Fields.{Fields}
use Rattle.header.specs.declared.Header.{Header}
use Rattle.header.specs.declared.Rules.{Rules}
use Rattle.header.specs.Answers.{accepted}
use Rattle.header.specs.Fields.{values_of, satellite_of, header_of, bits_of_words, coded_of}
use Rattle.header_reader.specs.Reading.{header_checks, Signal, air_checks, arrived, repaired_answer, repaired_bits, signal_with}
use Rattle.header.specs.Writing.{bits_for, header_for, air_for}
use Rattle.header.proofs.Ranges.{in_range}
use Rattle.header.proofs.Carried.{coded_valid}
use Rattle.air.specs.Closeness.{AllClose, distances}
use Rattle.air.specs.Flips.{most_flips}
use Rattle.header_reader.proofs.Passed.{AirPassed, HeaderPassed, air_passes, header_passes}
use Rattle.header.proofs.WrittenAir.{Writable, air_for_length, written_words, written_are_bits, written_header, written_crc5, written_bits}
use Rattle.header_reader.proofs.GoesOn.{ReadAs}
use Rattle.base.proofs.First.{none_both}

-- a header within three places of valid words with the bits n is read as these bits, with the places in which it differs
module _ (s : Signal) (valid : List ℕ) (long : length s.air ≡ air_bits) (bits : AreBits s.air) (close : AllClose (arrived s) valid)
    (allowed : s.rules.limit ≤ most_flips) (sound : fault_at (looked_at s.rules.edition s.call) ≡ sign_width) where
  pub restored_passed : AirPassed s
  restored_passed = record {
    allowed = allowed;
    long = long;
    bits = bits;
    sound_call = sound;
    repairable = restored_none (arrived s) (words_lt s.air bits) valid close;
  }

  pub restored_bits : repaired_bits s ≡ bits_of_words valid
  restored_bits = ap bits_of_words (restored_words (arrived s) (words_lt s.air bits) valid close)

  pub restored_answer : repaired_answer s ≡ accepted (header_of (bits_of_words valid)) (distances (arrived s) valid)
  restored_answer = ap₂ (λ (n k : ℕ). accepted (header_of n) k) restored_bits (restored_flips (arrived s) (words_lt s.air bits) valid close)

  -- so where no row stands against these bits, the header is accepted
  pub restored : HeaderPassed s.rules s.call (distances (arrived s) valid) (bits_of_words valid) → ReadAs s (header_of (bits_of_words valid)) (distances (arrived s) valid)
  restored passed = record {
    is = restored_answer;
    passed = none_both (air_checks s) (header_checks s.rules s.call (flips_in (arrived s)) (repaired_bits s)) (air_passes s restored_passed)
        (rw (restored_bits, restored_flips (arrived s) (words_lt s.air bits) valid close) (header_passes s.rules s.call (distances (arrived s) valid) (bits_of_words valid) passed));
  }

-- no check stands against what is written
written_passed : (edition : Edition) (f : Fields) (payload : List ℕ) → Writable edition f payload → (limit : ℕ) (call : Call) (flips : ℕ) → flips ≤ limit → Agrees (looked_at edition call) (satellite_of f.src_id) → HeaderPassed (record { edition = edition; limit = limit }) call flips (bits_for edition f payload)
written_passed edition f payload ok limit call flips within agrees =
    let same = written_header edition f payload ok in
    record {
      within = within;
      same_crc5 = written_crc5 edition f payload ok ∙ ap (λ (h : Header). h.«crc5») (sym same);
      known_source = rw same (in_range edition (values_of f) ok.ranges 0 (lit< tt));
      same_sign = rw same (omega (arith, agrees_other (looked_at edition call) (satellite_of f.src_id) agrees));
      known_coding = rw same (in_range edition (values_of f) ok.ranges 5 (lit< tt));
    }

-- THE HEADER IS RESTORED, read and written under one edition
module _ (rules : Rules) (f : Fields) (payload : List ℕ) (ok : Writable rules.edition f payload) (allowed : rules.limit ≤ most_flips)
    (call : Call) (agrees : Agrees (looked_at rules.edition call) (satellite_of f.src_id)) where
  abbrev coded : List ℕ
  coded = coded_of (bits_for rules.edition f payload)

  pub header_restored : (air : List ℕ) → length air ≡ air_bits → AreBits air → AllClose (words_of air) (coded_of (bits_for rules.edition f payload))
      → distances (words_of air) (coded_of (bits_for rules.edition f payload)) ≤ rules.limit
      → ReadAs (signal_with rules call air) (header_for rules.edition f payload) (distances (words_of air) (coded_of (bits_for rules.edition f payload)))
  header_restored air long bits close within =
      (rw (written_bits rules.edition f payload ok, written_header rules.edition f payload ok) at (restored (signal_with rules call air) coded long bits close allowed (agrees_fault (looked_at rules.edition call) (satellite_of f.src_id) agrees)))
      (written_passed rules.edition f payload ok rules.limit call (distances (words_of air) coded) within agrees)

  -- with nothing flipped
  pub header_read_back : ReadAs (signal_with rules call (air_for rules.edition f payload)) (header_for rules.edition f payload) 0
  header_read_back =
      let sent : List ℕ = air_for rules.edition f payload in
      let back : words_of sent ≡ coded = written_words rules.edition f payload in
      let none : distances (words_of sent) coded ≡ 0 = ap (λ (l : List ℕ). distances l coded) back ∙ distances_self coded in
      rw none at
      (header_restored sent (air_for_length rules.edition f payload) (written_are_bits rules.edition f payload)
      (rw back (close_self coded (coded_valid (bits_for rules.edition f payload)))) (omega (arith, none)))
