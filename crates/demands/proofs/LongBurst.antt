-- 42 is the limit: a burst of 43 neighbouring bits puts four flips into one word, and the header below is then refused.
-- Assumes nothing.
use mathlib.Core.Path.{◌≡◌, refl}
use mathlib.Core.List.{[], flat_map}
use lib.Count.{ones_in}
use Rattle.base.specs.declared.Edition.TheVariants.{Flown}
use Rattle.base.specs.Checks.{refusal}
use Rattle.base.specs.Lists.{tabulate, sum_to, lowest}
use Rattle.word.specs.Words.{multiple_of, encode_of, distance}
use Rattle.word.specs.Repairs.{nearest, repair_of}
use Rattle.crc.specs.Crc.{crc_step, crc13_of}
use Rattle.crc.specs.Crc5.{message, nine_bytes, crc5_over, counted_flown, crc5_of}
use Rattle.air.specs.Air.{word_at, words_of, air_bit, air_of, first_no_bit}
use Rattle.air.specs.WordRepairs.{first_beyond}
use Rattle.air.specs.Flips.{flips_between, flips_in_word}
use Rattle.header.specs.Answers.{refused}
use Rattle.header.specs.Fields.{data_at, coded_of}
use Rattle.header.specs.Writing.{bits_for, air_for}
use Rattle.frame.specs.Frames.{frame, frame_of}
use Rattle.frame.specs.Recorded.{listed_rules}
use Rattle.demands.specs.Zeros.{sent_zeros, burst_zeros}

pub burst_of_43 : (flips_between (burst_zeros 43) sent_zeros ≡ 43) × (flips_in_word (burst_zeros 43) sent_zeros 0 ≡ 4) × (frame_of (frame (listed_rules Flown) (burst_zeros 43) []) ≡ refused (refusal 3 0))
unfolding sent_zeros burst_zeros tabulate sum_to lowest multiple_of encode_of distance ones_in nearest repair_of crc_step crc13_of message nine_bytes crc5_over counted_flown crc5_of word_at words_of air_bit air_of first_no_bit first_beyond flips_between flips_in_word data_at coded_of bits_for air_for frame_of flat_map
burst_of_43 = (refl, refl, refl)
