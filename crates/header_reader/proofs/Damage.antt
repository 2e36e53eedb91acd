-- Damage undone: "a written header with at most three flips in each word, or a burst of up to 42 neighbouring bits, reads back as that very
-- header with the exact number of flips", and with the exact pattern of every word, under a limit of at most 42 that the flips keep within.
-- Said of the rules: they accept it so.
-- Assumes nothing.
use mathlib.Core.Path.{◌≡◌, sym, ap, ap₂, ◌∙◌}
use mathlib.Core.List.{List}
use Prim.Native.Nat.{ℕ, ◌≤◌, ◌<◌}
use lib.ListN.{length, get_or}
use Rattle.base.specs.declared.Edition.{Edition}
use Rattle.base.specs.Lists.{AreBits}
use Rattle.base.proofs.Sums.{sum_same}
use Rattle.word.specs.Words.{distance}
use Rattle.word.specs.Repairs.{radius}
use Rattle.air.specs.Air.{word_count, air_bits, words_of}
use Rattle.air.specs.Closeness.{AllClose, differences, distances}
use Rattle.air.specs.Flips.{most_flips, flips_between, flips_in_word, flip_patterns, Burst}
use Rattle.air.proofs.Places.{words_at, words_lt}
use Rattle.air.proofs.Restored.{restored_patterns}
use Rattle.air.proofs.Flipped.{word_flips, all_flips, all_patterns}
use Rattle.air.proofs.Bursts.{burst_few, burst_total}
use Rattle.sign.specs.Calls.{Call, looked_at, Agrees}
use Rattle.header.specs.declared.Fields.{Fields}
use Rattle.header.specs.declared.Rules.{Rules}
use Rattle.header.specs.Fields.{satellite_of, coded_of}
use Rattle.header_reader.specs.Reading.{signal_with}
use Rattle.header.specs.Writing.{bits_for, header_for, air_for}
use Rattle.header_reader.specs.Accepting.{AcceptsHeader}
use Rattle.header.proofs.WrittenAir.{Writable, written_words, written_are_bits}
use Rattle.header.proofs.Carried.{coded_valid}
use Rattle.header_reader.proofs.RoundTrip.{header_restored}
use Rattle.header_reader.proofs.Accepted.{read_then_rules}

module _ (edition : Edition) (f : Fields) (payload air : List ℕ) (bits : AreBits air) where
  abbrev sent : List ℕ
  sent = air_for edition f payload

  abbrev words : List ℕ
  words = coded_of (bits_for edition f payload)

  -- word by word, the places that differ
  distance_at : (j : ℕ) → j < word_count → distance (get_or (words_of air) j 0) (get_or words j 0) ≡ flips_in_word air sent j
  distance_at j h =
      ap₂ distance (words_at air j h) (ap (λ (l : List ℕ). get_or l j 0) (sym (written_words edition f payload)) ∙ words_at sent j h)
      ∙ word_flips air sent bits (written_are_bits edition f payload) j

  damaged_close : ((j : ℕ) → j < word_count → flips_in_word air sent j ≤ radius) → AllClose (words_of air) words
  damaged_close few =
      let valid = coded_valid (bits_for edition f payload) in
      record { long = valid.long; each = λ j h. record { valid = valid.each j h; near = rw (distance_at j h) (few j h) } }

  pub damaged_flips : distances (words_of air) words ≡ flips_between air sent
  damaged_flips = sum_same word_count _ _ distance_at ∙ all_flips air sent

  -- and which they are
  damaged_patterns : differences (words_of air) words ≡ flip_patterns air sent
  damaged_patterns = ap (differences (words_of air)) (sym (written_words edition f payload)) ∙ all_patterns air sent bits (written_are_bits edition f payload)

-- read and written under one edition
module _ (rules : Rules) (f : Fields) (payload air : List ℕ) (bits : AreBits air) (ok : Writable rules.edition f payload) (long : length air ≡ air_bits)
    (allowed : rules.limit ≤ most_flips) (call : Call) (agrees : Agrees (looked_at rules.edition call) (satellite_of f.src_id)) where
  abbrev written : List ℕ
  written = air_for rules.edition f payload

  -- that very header, the exact number of flips and the exact patterns
  abbrev pub Undone : Type 0
  Undone =
      AcceptsHeader (signal_with rules call air) (header_for rules.edition f payload) (flips_between air (air_for rules.edition f payload))
      (flip_patterns air (air_for rules.edition f payload))

  -- at most three flips in each word
  pub few_accepted : ((j : ℕ) → j < word_count → flips_in_word air (air_for rules.edition f payload) j ≤ radius) → flips_between air (air_for rules.edition f payload) ≤ rules.limit
      → Undone
  few_accepted few within =
      let edition : Edition = rules.edition in
      let valid : List ℕ = coded_of (bits_for edition f payload) in
      let close : AllClose (words_of air) valid = damaged_close edition f payload air bits few in
      let flips : distances (words_of air) valid ≡ flips_between air written = damaged_flips edition f payload air bits in
      rw (restored_patterns (words_of air) (words_lt air bits) valid close ∙ damaged_patterns edition f payload air bits) at
      (read_then_rules (signal_with rules call air) (header_for edition f payload) (flips_between air written)
      (rw flips at (header_restored rules f payload ok allowed call agrees air long bits close (rw flips within))))

  -- a burst: all flips among so many neighbouring bits as the limit allows
  pub burst_accepted : (start : ℕ) → Burst rules.limit start air (air_for rules.edition f payload) → Undone
  burst_accepted start burst =
      few_accepted (burst_few rules.limit start air written burst allowed) (burst_total rules.limit start air written burst)
