-- A header alone, read: refused with 20, 1, 2, 23, 3, 21, 4, 5, 24, 6, or the repaired header and the number of flips.
-- Assumes nothing.
use Rattle.std.specs.Prelude.{not, List, [], ◌∷◌, ◌++◌, ℕ, eqb, ltb, length, replicate, Result, Ok, Err}
use Rattle.base.specs.declared.Edition.{Edition}
use Rattle.base.specs.declared.Refusal.{Refusal}
use Rattle.base.specs.Checks.{Check, check, first, refusal}
use Rattle.crc.specs.Crc5.{crc5_of}
use Rattle.air.specs.Air.{word_count, air_bits, words_of, first_no_bit}
use Rattle.air.specs.WordRepairs.{first_beyond, repaired_of, flips_in, patterns_in}
use Rattle.air.specs.Flips.{most_flips}
use Rattle.sign.specs.CallSigns.{sign_width}
use Rattle.sign.specs.Calls.{Call, absent, given, looked_at, fault_at, other_at}
use Rattle.header.specs.declared.Rules.{Rules}
use Rattle.header.specs.Answers.{Answer, accepted, refused}
use Rattle.header.specs.declared.Read.{Read}
use Rattle.header.specs.declared.Accepted.{Accepted}
use Rattle.header.specs.Fields.{last_source_of, last_coding, satellite_of, header_of, bits_of_words}
use Rattle.header.specs.Patterns.{beside}

-- what a header is read from: the air bits, how they are to be read, and what was given of a call sign
pub record Signal : Type 0 where
  pub rules : Rules
  pub call : Call
  pub air : List ℕ

abbrev pub signal_with : Rules → Call → List ℕ → Signal
signal_with rules call air = record { rules = rules; call = call; air = air }

-- with no call sign, and with call sign bits
abbrev pub signal : Rules → List ℕ → Signal
signal rules air = signal_with rules absent air

abbrev pub signed : Rules → List ℕ → List ℕ → Signal
signed rules call air = signal_with rules (given call) air

-- the words that arrived, and the bits of the repaired header
abbrev pub arrived : Signal → List ℕ
arrived s = words_of s.air

abbrev pub repaired_bits : Signal → ℕ
repaired_bits s = bits_of_words (repaired_of (arrived s))

-- THE PAPER'S TABLE, rows 20, 1, 2, 23 and 3: the limit, the air bits and the call sign bits
-- 20, "limit above 42", which is most_flips: the limit
abbrev pub limit_above42 : Signal → Check Answer
limit_above42 s = check (ltb most_flips s.rules.limit) (refused (refusal 20 s.rules.limit))

-- 1, "header slice is not 210 long": its length
abbrev pub not210_long : Signal → Check Answer
not210_long s = check (not (eqb (length s.air) air_bits)) (refused (refusal 1 (length s.air)))

-- 2, "an element is above 1": lowest index
abbrev pub no_bit : Signal → Check Answer
no_bit s = check (ltb (first_no_bit s.air) air_bits) (refused (refusal 2 (first_no_bit s.air)))

-- 23, "not 48 elements or one above 1": "the length, or the first bad index"
abbrev pub no_call_sign : Signal → Check Answer
no_call_sign s =
    check (not (eqb (fault_at (looked_at s.rules.edition s.call)) sign_width)) (refused (refusal 23 (fault_at (looked_at s.rules.edition s.call))))

-- 3, "a word is beyond repair": lowest word
abbrev pub beyond_repair : Signal → Check Answer
beyond_repair s = check (ltb (first_beyond (arrived s)) word_count) (refused (refusal 3 (first_beyond (arrived s))))

abbrev pub air_checks : Signal → List (Check Answer)
air_checks s = limit_above42 s ∷ not210_long s ∷ no_bit s ∷ no_call_sign s ∷ beyond_repair s ∷ []

-- rows 21, 4, 5, 24 and 6: the repaired header, after so many flips, whose bits are n
-- 21, "flips above the limit": the flips
abbrev pub flips_above_limit : Rules → ℕ → Check Answer
flips_above_limit rules flips = check (ltb rules.limit flips) (refused (refusal 21 flips))

-- 4, "CRC5 differs": CRC5 worked out
abbrev pub crc5_differs : Edition → ℕ → Check Answer
crc5_differs edition n = check (not (eqb (crc5_of edition n) (header_of n).«crc5»)) (refused (refusal 4 (crc5_of edition n)))

-- 5, "SrcId above 7": SrcId. Under the corrected edition "check 5 isn't made": no SrcId is above 127 (`corrected_no_5`)
abbrev pub unknown_source : Edition → ℕ → Check Answer
unknown_source edition n = check (ltb (last_source_of edition) (header_of n).«fields».src_id) (refused (refusal 5 (header_of n).«fields».src_id))

-- 24, "disagreement" of what is looked at: SrcId
abbrev pub other_call_sign : Call → ℕ → Check Answer
other_call_sign call n =
    check (ltb (other_at call (satellite_of (header_of n).«fields».src_id)) sign_width) (refused (refusal 24 (header_of n).«fields».src_id))

-- 6, "AiTypeSrc above 3": AiTypeSrc
abbrev pub unknown_coding : ℕ → Check Answer
unknown_coding n = check (ltb last_coding (header_of n).«fields».ai_type_src) (refused (refusal 6 (header_of n).«fields».ai_type_src))

abbrev pub header_checks : Rules → Call → ℕ → ℕ → List (Check Answer)
header_checks rules call flips n =
    flips_above_limit rules flips
    ∷ crc5_differs rules.edition n
    ∷ unknown_source rules.edition n
    ∷ other_call_sign (looked_at rules.edition call) n
    ∷ unknown_coding n
    ∷ []

-- what is answered of it
abbrev pub judged_of : Rules → Call → ℕ → ℕ → Answer
judged_of rules call flips n = first (accepted (header_of n) flips) (header_checks rules call flips n)

-- all ten, in the paper's order
abbrev pub signal_checks : Signal → List (Check Answer)
signal_checks s = air_checks s ++ header_checks s.rules s.call (flips_in (arrived s)) (repaired_bits s)

-- what is answered where no row applies
abbrev pub repaired_answer : Signal → Answer
repaired_answer s = accepted (header_of (repaired_bits s)) (flips_in (arrived s))

-- "in this order; the first that applies is given"
unfoldable pub read_header_of : Signal → Answer
read_header_of s = first (repaired_answer s) (signal_checks s)

-- the patterns of the words that arrived
abbrev pub patterns_of : Signal → List ℕ
patterns_of s = patterns_in (arrived s)

-- a header alone, read
unfoldable pub header_read : Signal → Read
header_read s = beside (patterns_of s) (read_header_of s)

-- what was read, from what an accepted header tells with the patterns of its words, or from the refusal
abbrev pub read_from : Result (Accepted × List ℕ) Refusal → Read
read_from (Ok told) = beside told.1 (Ok told.0)
read_from (Err why) = beside (replicate word_count 0) (Err why)
