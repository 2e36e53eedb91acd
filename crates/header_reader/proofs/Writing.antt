-- Writing under the rules: what is written is accepted as the header of its fields, with no flips, and no other bits are.
-- Assumes nothing.
use mathlib.Core.Path.{◌≡◌, sym, ap, ◌∙◌}
use mathlib.Core.List.{List}
use Prim.Native.Nat.{ℕ, ◌≤◌}
use lib.ListN.{replicate}
use Rattle.base.specs.declared.Edition.{Edition}
use Rattle.air.specs.Air.{word_count, words_of}
use Rattle.air.specs.WordRepairs.{patterns_in, flip_total}
use Rattle.air.specs.Closeness.{distances}
use Rattle.air.specs.Flips.{most_flips, flips_between}
use Rattle.air.proofs.Restored.{distances_are, restored_patterns, close_valid, close_self, differences_self}
use Rattle.air.proofs.Flipped.{no_flips}
use Rattle.sign.specs.Calls.{Call, looked_at, Agrees}
use Rattle.header.specs.declared.Fields.{Fields}
use Rattle.header.specs.declared.Rules.{Rules}
use Rattle.header.specs.Fields.{satellite_of, coded_of}
use Rattle.header_reader.specs.Reading.{signal_with, patterns_of}
use Rattle.header.specs.Writing.{bits_for, header_for, air_for}
use Rattle.header_reader.specs.Accepting.{AcceptsHeader}
use Rattle.header.proofs.WrittenAir.{Writable, air_for_length, written_words, words_only}
use Rattle.header.proofs.Carried.{coded_valid, valid_words}
use Rattle.header_reader.proofs.RoundTrip.{header_read_back}
use Rattle.header_reader.proofs.Accepted.{read_then_rules}
use Rattle.header_reader.proofs.Damage.{damaged_flips}

module _ (rules : Rules) (f : Fields) (payload : List ℕ) (call : Call) where
  abbrev edition : Edition
  edition = rules.edition

  abbrev sent : List ℕ
  sent = air_for edition f payload

  abbrev coded : List ℕ
  coded = coded_of (bits_for edition f payload)

  -- nothing was flipped
  none_flipped : patterns_of (signal_with rules call sent) ≡ replicate word_count 0
  none_flipped =
      let valid = coded_valid (bits_for edition f payload) in
      ap patterns_in (written_words edition f payload) ∙ restored_patterns coded (valid_words coded valid) coded (close_self coded valid) ∙ differences_self coded

  pub written_accepted : Writable rules.edition f payload → rules.limit ≤ most_flips → Agrees (looked_at rules.edition call) (satellite_of f.src_id)
      → AcceptsHeader (signal_with rules call (air_for rules.edition f payload)) (header_for rules.edition f payload) 0 (replicate word_count 0)
  written_accepted ok allowed agrees =
      rw none_flipped at (read_then_rules (signal_with rules call sent) (header_for edition f payload) 0 (header_read_back rules f payload ok allowed call agrees))

  pub only_written : (air : List ℕ) → AcceptsHeader (signal_with rules call air) (header_for rules.edition f payload) 0 (replicate word_count 0) → air ≡ air_for rules.edition f payload
  only_written air so =
      let words = words_only edition f payload so.words (close_valid (words_of air) so.words so.close) so.made in
      let none : flips_between air sent ≡ 0 =
      sym (damaged_flips edition f payload air so.bits) ∙ ap (distances (words_of air)) (sym words) ∙ distances_are (words_of air) so.words ∙ sym (ap flip_total so.patterned) ∙ sym so.counted in
      no_flips air sent so.long (air_for_length edition f payload) none
