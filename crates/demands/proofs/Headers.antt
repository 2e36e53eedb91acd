-- DEMANDS 2 AND 3 FOR A HEADER ALONE, over the contracts of `header::read_header` and `header::read_header_signed` (`header_read` of `signal` and of
-- `signed`). `AcceptsHeader` (crates/header/specs/Accepting.antt) is the rules' own statement, and the rules of a frame ask for it.
-- Assumes nothing.
use mathlib.Core.Path.{◌≡◌, sym, ◌∙◌}
use mathlib.Core.List.{List}
use Prim.Native.Nat.{ℕ, ◌<◌, ◌≤◌}
use lib.Dec.{lit≤}
use lib.ListN.{length, take, replicate}
use Rattle.base.specs.declared.Edition.{Edition}
use Rattle.base.specs.Written.{done}
use Rattle.base.specs.Lists.{AreBits}
use Rattle.word.specs.Repairs.{radius}
use Rattle.air.specs.Air.{word_count, air_bits}
use Rattle.air.specs.Flips.{most_flips, flips_between, flips_in_word, flip_patterns, Burst}
use Rattle.sign.specs.Calls.{Call, looked_at, Agrees}
use Rattle.header.specs.declared.Fields.{Fields}
use Rattle.header.specs.declared.Header.{Header}
use Rattle.header.specs.declared.Rules.{Rules}
use Rattle.header.specs.Answers.{accepted}
use Rattle.header.specs.Fields.{satellite_of}
use Rattle.header_reader.specs.Reading.{Signal, signal_with, header_read}
use Rattle.header_reader.specs.Accepting.{AcceptsHeader}
use Rattle.header.specs.Writing.{header_for, HeaderWritten}
use Rattle.header_reader.proofs.Accepted.{rules_then_header, header_then_rules, one_header}
use Rattle.header_reader.proofs.Damage as damage
use Rattle.header_reader.proofs.Writing as writing
use Rattle.header.proofs.WrittenAir.{Sent, sent}
use Rattle.frame.specs.Recorded.{listed_rules}

-- DEMAND 2: "accepted exactly when the published rules accept it"
pub header_accepted_exactly : (s : Signal) (h : Header) (flips : ℕ) (patterns : List ℕ)
    → (header_read s ≡ record { answer = accepted h flips; patterns = patterns } → AcceptsHeader s h flips patterns)
    × (AcceptsHeader s h flips patterns → header_read s ≡ record { answer = accepted h flips; patterns = patterns })
header_accepted_exactly s h flips patterns = (header_then_rules s h flips patterns, rules_then_header s h flips patterns)

-- with one header, one number of flips and one list of patterns
pub header_accepted_with_one : (s : Signal) (h g : Header) (k m : ℕ) (p q : List ℕ) → AcceptsHeader s h k p → AcceptsHeader s g m q → (h ≡ g) × (k ≡ m) × (p ≡ q)
header_accepted_with_one = one_header

-- the writer was handed an edition, some fields, a payload and an output, and wrote; the reader is handed rules of the same edition, and
-- perhaps a call sign
module _ (rules : Rules) (f : Fields) (payload before after : List ℕ) (written : HeaderWritten rules.edition f payload before done after) (call : Call) where
  so : Sent rules.edition f payload after
  so = sent rules.edition f payload before after written

  -- "Writing gives the bits those rules fix"
  pub header_written_accepted : rules.limit ≤ most_flips → Agrees (looked_at rules.edition call) (satellite_of f.src_id)
      → AcceptsHeader (signal_with rules call (take air_bits after)) (header_for rules.edition f payload) 0 (replicate word_count 0)
  header_written_accepted = rw so.air (writing.written_accepted rules f payload call so.writable)

  -- "and no others"
  pub header_written_only : (air : List ℕ) → AcceptsHeader (signal_with rules call air) (header_for rules.edition f payload) 0 (replicate word_count 0) → air ≡ take air_bits after
  header_written_only air accepts = writing.only_written rules f payload call air accepts ∙ sym so.air

  -- DEMAND 3: on the way some of the 210 bits were flipped; the limit is at most 42, and no call sign is looked at, or that of the satellite
  module _ (allowed : rules.limit ≤ most_flips) (agrees : Agrees (looked_at rules.edition call) (satellite_of f.src_id)) (air : List ℕ) (long : length air ≡ air_bits) (bits : AreBits air) where
    -- "that very header with the exact number of flips", and the exact pattern of every word
    abbrev pub Restored : Type 0
    Restored = AcceptsHeader (signal_with rules call air) (header_for rules.edition f payload) (flips_between air (take air_bits after)) (flip_patterns air (take air_bits after))

    abbrev pub HeaderBack : Type 0
    HeaderBack =
        header_read (signal_with rules call air)
        ≡ record { answer = accepted (header_for rules.edition f payload) (flips_between air (take air_bits after)); patterns = flip_patterns air (take air_bits after) }

    read_back : Restored → HeaderBack
    read_back = rules_then_header (signal_with rules call air) (header_for rules.edition f payload) (flips_between air (take air_bits after)) (flip_patterns air (take air_bits after))

    -- "at most three flips in each word", and "the total of flips to be at most the limit"
    pub few_restored : ((j : ℕ) → j < word_count → flips_in_word air (take air_bits after) j ≤ radius) → flips_between air (take air_bits after) ≤ rules.limit → Restored
    few_restored = rw so.air (damage.few_accepted rules f payload air bits so.writable long allowed call agrees)

    pub header_three_in_each_word : ((j : ℕ) → j < word_count → flips_in_word air (take air_bits after) j ≤ radius) → flips_between air (take air_bits after) ≤ rules.limit → HeaderBack
    header_three_in_each_word few within = read_back (few_restored few within)

    -- "or a burst": under a limit l a burst of up to l neighbouring bits
    pub burst_restored : (start : ℕ) → Burst rules.limit start air (take air_bits after) → Restored
    burst_restored = rw so.air (damage.burst_accepted rules f payload air bits so.writable long allowed call agrees)

    pub header_burst_undone : (start : ℕ) → Burst rules.limit start air (take air_bits after) → HeaderBack
    header_burst_undone start burst = read_back (burst_restored start burst)

-- "a burst of up to 42 neighbouring bits", under the limit 42
pub header_burst_of_42 : (edition : Edition) (f : Fields) (payload before after : List ℕ) (written : HeaderWritten edition f payload before done after)
    (call : Call) (agrees : Agrees (looked_at edition call) (satellite_of f.src_id)) (air : List ℕ) (long : length air ≡ air_bits) (bits : AreBits air)
    (start : ℕ) → Burst 42 start air (take air_bits after) → HeaderBack (listed_rules edition) f payload before after written call (lit≤ tt) agrees air long bits
header_burst_of_42 edition f payload before after written call agrees air long bits = header_burst_undone (listed_rules edition) f payload before after written call (lit≤ tt) agrees air long bits
