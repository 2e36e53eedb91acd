-- DEMAND 3. "The repair table of 1,024 rows equals trying all 32 valid words on each of the 32,768 words. So a written header with at most
-- three flips in each word, or a burst of up to 42 neighbouring bits, reads back as that very header with the exact number of flips."
-- "Demand 3 now returns the exact pattern of every word." "Demands 2 and 3 then also need a limit of at most 42 and the total of flips to be
-- at most the limit." "Where they are looked at, demands 2 and 3 then also need" the call sign bits "to be 48 elements, each 0 or 1, that spell the call
-- sign of the repaired header's satellite."
-- Assumes nothing.
use mathlib.Core.Path.{◌≡◌}
use mathlib.Core.Bool.{cond}
use mathlib.Core.List.{List, []}
use Prim.Native.Nat.{ℕ, ◌+◌, ◌*◌, ◌/◌, ◌%◌, ◌^◌, ◌<◌, ◌≤◌}
use lib.Count.{ones_in}
use lib.Dec.{leb, eqb, lit≤}
use lib.ListN.{length, get_or, take}
use Rattle.base.specs.declared.Edition.{Edition}
use Rattle.base.specs.declared.Edition.TheVariants.{Flown}
use Rattle.base.specs.Checks.{refusal}
use Rattle.base.specs.Lists.{AreBits, how_many}
use Rattle.word.specs.Words.{word_limit, positions}
use Rattle.word.specs.Repairs.{repair_of, remainder_of, syndromes, row_of, by_row, mark, radius, table_rows}
use Rattle.word.proofs.Rows.{rows_with_pattern, rows_marked}
use Rattle.word.proofs.Answer.{table_answers}
use Rattle.air.specs.Air.{word_count, air_bits}
use Rattle.air.specs.WordRepairs.{flip_total}
use Rattle.air.specs.Flips.{most_flips, differs_at, flips_between, flips_in_word, flip_patterns, Burst}
use Rattle.sign.specs.Calls.{Call, looked_at, Agrees}
use Rattle.header.specs.declared.Fields.{Fields}
use Rattle.header.specs.declared.Rules.{Rules}
use Rattle.header.specs.Rules.{usual_rules}
use Rattle.frame.specs.Recorded.{listed_rules}
use Rattle.header.specs.Answers.{accepted, refused}
use Rattle.base.specs.Written.{done}
use Rattle.header.specs.Fields.{satellite_of}
use Rattle.header.specs.Writing.{header_for, HeaderWritten}
use Rattle.air.proofs.Flipped.{flip_patterns_bit, flip_patterns_total}
use Rattle.frame.specs.Frames.{frame, frame_with, frame_of, frame_read}
use Rattle.frame.proofs.Rules.{rules_then_reader}
use Rattle.frame.proofs.Writing.{with_payload}
use Rattle.demands.specs.Zeros.{sent_zeros, burst_zeros}
use Rattle.demands.proofs.Headers.{Restored, few_restored, burst_restored}
use Rattle.demands.proofs.LongBurst.{burst_of_43}

-- "The repair table .. equals trying all 32 valid words on each of the 32,768 words": `repair_of` tries the words, `by_row` takes the row
pub table_equals_search : (w : ℕ) → w < word_limit → repair_of w ≡ by_row w (get_or syndromes (remainder_of w) 0)
table_equals_search = table_answers

-- "1,024 rows, 576 with a flip pattern of at most three bits, 448 marked as beyond repair"
pub table_rows_lem : (how_many table_rows (λ r. leb (ones_in positions (row_of r)) radius) ≡ 576) × (how_many table_rows (λ r. eqb (row_of r) mark) ≡ 448)
table_rows_lem = (rows_with_pattern, rows_marked)

-- the writer was handed an edition, some fields, a payload and an output, and wrote; on the way some of the 210 bits were flipped; and the
-- reader was handed rules of the same edition with "a limit of at most 42", and no call sign that is looked at, or that of the satellite
module _ (rules : Rules) (allowed : rules.limit ≤ most_flips) (f : Fields) (payload before after : List ℕ) (written : HeaderWritten rules.edition f payload before done after)
    (call : Call) (agrees : Agrees (looked_at rules.edition call) (satellite_of f.src_id)) (air : List ℕ) (long : length air ≡ air_bits) (bits : AreBits air) where
  -- "reads back as that very header with the exact number of flips", and the exact pattern of every word
  abbrev pub ReadBack : Type 0
  ReadBack =
      frame_read (frame_with rules call air payload)
      ≡ record { answer = accepted (header_for rules.edition f payload) (flips_between air (take air_bits after)); patterns = flip_patterns air (take air_bits after) }

  -- as the header alone is (`Headers`), so is it with its payload
  read_back : Restored rules f payload before after written call allowed agrees air long bits → ReadBack
  read_back restored =
      rules_then_reader (frame_with rules call air payload) (header_for rules.edition f payload) (flips_between air (take air_bits after)) (flip_patterns air (take air_bits after))
      (with_payload rules.edition f (frame_with rules call air payload) (flips_between air (take air_bits after)) (flip_patterns air (take air_bits after)) restored)

  -- "a written header with at most three flips in each word", and "the total of flips to be at most the limit"
  pub three_in_each_word : ((j : ℕ) → j < word_count → flips_in_word air (take air_bits after) j ≤ radius) → flips_between air (take air_bits after) ≤ rules.limit → ReadBack
  three_in_each_word few within = read_back (few_restored rules f payload before after written call allowed agrees air long bits few within)

  -- "or a burst": under a limit l a burst of up to l neighbouring bits is always undone. Its flips then keep within the limit.
  pub burst_undone : (start : ℕ) → Burst rules.limit start air (take air_bits after) → ReadBack
  burst_undone start burst = read_back (burst_restored rules f payload before after written call allowed agrees air long bits start burst)

-- "a burst of up to 42 neighbouring bits" needs the limit 42, which the listing names; where no limit is named, 28 are undone
module _ (edition : Edition) (f : Fields) (payload before after : List ℕ) (written : HeaderWritten edition f payload before done after)
    (call : Call) (agrees : Agrees (looked_at edition call) (satellite_of f.src_id)) (air : List ℕ) (long : length air ≡ air_bits) (bits : AreBits air) where
  pub burst_of_42 : (start : ℕ) → Burst 42 start air (take air_bits after) → ReadBack (listed_rules edition) (lit≤ tt) f payload before after written call agrees air long bits
  burst_of_42 = burst_undone (listed_rules edition) (lit≤ tt) f payload before after written call agrees air long bits

  pub burst_of_28 : (start : ℕ) → Burst 28 start air (take air_bits after) → ReadBack (usual_rules edition) (lit≤ tt) f payload before after written call agrees air long bits
  burst_of_28 = burst_undone (usual_rules edition) (lit≤ tt) f payload before after written call agrees air long bits

-- "the exact pattern of every word": bit i of pattern j says whether air bit 14 i + j was flipped, and the ones are all flips
pub pattern_bits : (x y : List ℕ) (i j : ℕ) → i < positions → j < word_count → get_or (flip_patterns x y) j 0 / 2 ^ i % 2 ≡ cond (differs_at x y (word_count * i + j)) 1 0
pattern_bits = flip_patterns_bit

pub pattern_ones : (x y : List ℕ) → flip_total (flip_patterns x y) ≡ flips_between x y
pattern_ones = flip_patterns_total

-- 42 is the limit: a header of zeros whose first 43 bits are flipped is refused
pub not_43 : (flips_between (burst_zeros 43) sent_zeros ≡ 43) × (flips_in_word (burst_zeros 43) sent_zeros 0 ≡ 4) × (frame_of (frame (listed_rules Flown) (burst_zeros 43) []) ≡ refused (refusal 3 0))
not_43 = burst_of_43
