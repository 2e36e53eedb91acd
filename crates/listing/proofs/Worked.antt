-- The paper's worked outputs.
-- Assumes nothing.
use mathlib.Core.Path.{◌≡◌, refl}
use mathlib.Core.List.{[], ◌∷◌, flat_map}
use lib.Count.{ones_in}
use lib.ListN.{replicate}
use Rattle.base.specs.Lists.{tabulate, sum_to, lowest}
use Rattle.base.specs.declared.Edition.TheVariants.{Flown}
use Rattle.text.specs.Text.{ascii, decimal_of}
use Rattle.text.specs.Forms.{form_of}
use Rattle.word.specs.Words.{multiple_of, distance}
use Rattle.word.specs.Repairs.{nearest, repair_of}
use Rattle.crc.specs.Crc.{crc_step}
use Rattle.crc.specs.Crc5.{message, nine_bytes, crc5_over, counted_flown, crc5_of}
use Rattle.air.specs.Air.{word_at, words_of, first_no_bit}
use Rattle.air.specs.WordRepairs.{first_beyond, repaired_of, patterns_in, flips_in}
use Rattle.header.specs.Fields.{header_of, bits_of_words}
use Rattle.header.specs.declared.Rules.{Rules}
use Rattle.frame.specs.Frames.{frame_of, frame_read}
use Rattle.record.specs.Records.{record_size, cut_of}
use Rattle.walk.specs.Walks.{walk_of}
use Rattle.lines.specs.Lines.{title, last_line, cut_line}
use Rattle.frame.specs.Recorded.{listed_rules}
use Rattle.listing.specs.Listing.{listing_of}

-- "Empty input gives the first line and `heard 0 accepted 0 refused 0`."
pub no_record : (rules : Rules) → listing_of rules [] ≡ ascii "pass sheet\nheard 0 accepted 0 refused 0\n"
unfolding listing_of walk_of title last_line form_of decimal_of
no_record rules = refl

-- "Any rest that is no whole record cuts, one lone length byte too."
pub lone_byte : (rules : Rules) → listing_of rules (0 ∷ []) ≡ ascii "pass sheet\ncut\nheard 0 accepted 0 refused 0\n"
unfolding listing_of walk_of cut_of title last_line cut_line form_of decimal_of
lone_byte rules = refl

-- "Output for one record with length 0 and 210 zeros, whole"
pub one_record : listing_of (listed_rules Flown) (replicate (record_size 0) 0) ≡ ascii "pass sheet\n0 refused 4 6\nheard 1 accepted 0 refused 1\n"
unfolding listing_of walk_of title last_line form_of decimal_of sum_to cut_of frame_of frame_read tabulate lowest multiple_of distance ones_in nearest repair_of crc_step message nine_bytes crc5_over counted_flown crc5_of word_at words_of first_no_bit first_beyond repaired_of patterns_in flips_in header_of bits_of_words flat_map
one_record = refl
