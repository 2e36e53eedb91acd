-- The header's 70 bits as one number, bit 0 the most significant: its fields, and the data of its fourteen words.
-- Assumes nothing.
use Rattle.std.specs.Prelude.{List, [], ◌∷◌, map, ℕ, ◌+◌, ◌-◌, ◌*◌, ◌/◌, ◌%◌, get_or, replicate}
use Rattle.base.specs.declared.Edition.{Edition}
use Rattle.base.specs.declared.Edition.TheVariants.{Flown, Corrected}
use Rattle.base.specs.Lists.{tabulate}
use Rattle.base.specs.Parts.{parts_of, joined}
use Rattle.word.specs.Words.{data_of, encode_of, positions}
use Rattle.air.specs.Air.{word_count}
use Rattle.header.specs.declared.Fields.{Fields}
use Rattle.header.specs.declared.Header.{Header}

-- "70 bits, numbered from 0, each field most significant bit first: SrcId 7, DstId 7, FrCntTx 4, FrCntRx 4, SNR 4,
-- AiTypeSrc 4, AiTypeDst 4, DfcId 2, Caller 1, Arq 1, PduTypeId 1, BchRq 1, Hailing 1, UdFl1 1, PduLength 10, CRC13 13,
-- CRC5 5."
abbrev pub widths : List ℕ
widths = 7 ∷ 7 ∷ 4 ∷ 4 ∷ 4 ∷ 4 ∷ 4 ∷ 2 ∷ 1 ∷ 1 ∷ 1 ∷ 1 ∷ 1 ∷ 1 ∷ 10 ∷ 13 ∷ 5 ∷ []

-- fields 0 to 13, those that a writer is handed
abbrev pub field_count : ℕ
field_count = 14

abbrev pub fields_from : List ℕ → Fields
fields_from l = record {
  src_id = get_or l 0 0;
  dst_id = get_or l 1 0;
  fr_cnt_tx = get_or l 2 0;
  fr_cnt_rx = get_or l 3 0;
  «snr» = get_or l 4 0;
  ai_type_src = get_or l 5 0;
  ai_type_dst = get_or l 6 0;
  dfc_id = get_or l 7 0;
  «caller» = get_or l 8 0;
  «arq» = get_or l 9 0;
  pdu_type_id = get_or l 10 0;
  bch_rq = get_or l 11 0;
  «hailing» = get_or l 12 0;
  ud_fl1 = get_or l 13 0;
}

abbrev pub values_of : Fields → List ℕ
values_of f =
    f.src_id ∷ f.dst_id ∷ f.fr_cnt_tx ∷ f.fr_cnt_rx ∷ f.«snr» ∷ f.ai_type_src ∷ f.ai_type_dst
    ∷ f.dfc_id ∷ f.«caller» ∷ f.«arq» ∷ f.pdu_type_id ∷ f.bch_rq ∷ f.«hailing» ∷ f.ud_fl1 ∷ []

-- all 17
abbrev pub header_from : List ℕ → Header
header_from l = record {
  «fields» = fields_from l;
  pdu_length = get_or l 14 0;
  «crc13» = get_or l 15 0;
  «crc5» = get_or l 16 0;
}

-- the header with the bits n
unfoldable pub header_of : ℕ → Header
header_of n = header_from (parts_of widths n)

-- "SrcId 0 to 7"; "under the corrected edition all 128 are allowed"
abbrev pub last_source_of : Edition → ℕ
last_source_of Flown = 7
last_source_of Corrected = 127

-- the last AiTypeSrc that is not refused
abbrev pub last_coding : ℕ
last_coding = 3

-- "satellite A, B, C, D is SrcId div 2, radio is SrcId mod 2 plus 1"
abbrev pub satellite_of : ℕ → ℕ
satellite_of srcId = srcId / 2

abbrev pub radio_of : ℕ → ℕ
radio_of srcId = srcId % 2 + 1

-- "Header bits 5j to 5j+4 are the data of word j, j from 0 to 13"
abbrev pub data_widths : List ℕ
data_widths = replicate word_count 5

-- the bits of a header from its words
unfoldable pub bits_of_words : List ℕ → ℕ
bits_of_words words = joined data_widths (map data_of words)

-- the data of word j of a header with the bits n, and the valid words that carry these bits
unfoldable pub data_at : ℕ → ℕ → ℕ
data_at n j = get_or (parts_of data_widths n) j 0

unfoldable pub coded_of : ℕ → List ℕ
coded_of n = tabulate word_count (λ j. encode_of (data_at n j))

-- "Bit 5j+t stands at position 14-t of its word", and so travels at air bit 14 (14 - t) + j
abbrev pub travels_at : ℕ → ℕ
travels_at k = word_count * (positions - 1 - k % 5) + k / 5
