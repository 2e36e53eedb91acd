-- The fourteen words that carry a header's bits: valid, and the only valid words with these data.
-- Assumes nothing.
use mathlib.Core.Path.{◌≡◌, sym, ap, ◌∙◌}
use mathlib.Core.List.{List, map}
use Prim.Native.Nat.{ℕ, ◌%◌, ◌^◌, ◌<◌, ◌≤◌}
use native.Mathlib.Nat.{mod-eq_of_lt, zero-add}
use lib.Dec.{lit<}
use lib.ListN.{get_or, length-map, get_or-map, get_or-eq_default}
use lib.Seq.{ext_get_or}
use mathlib.Core.Logic.{⊎_elim}
use Rattle.base.proofs.Tests.{lt_or_ge}
use Rattle.base.specs.Parts.{parts_of, joined, InWidths}
use Rattle.base.proofs.Tabulate.{tabulate_length, tabulate_is}
use Rattle.base.proofs.Joined.{parts_join, join_parts, join_lt, parts_length}
use Rattle.word.specs.Words.{data_of, encode_of}
use Rattle.word.proofs.Multiples.{encode_data}
use Rattle.word.proofs.Valids.{valid_lt, valid_encode, encode_valid}
use Rattle.air.specs.Air.{word_count}
use Rattle.header.specs.Fields.{data_widths, bits_of_words, data_at, coded_of}
use Rattle.header.proofs.WordData.{data_within, AreWords}
use Rattle.header.proofs.Coding.{data_lt}
use Rattle.header.proofs.Places.{coded_at}
use Rattle.air.specs.Closeness.{ValidWords}
use Rattle.crc.specs.Crc5.{header_width}

pub coded_valid : (n : ℕ) → ValidWords (coded_of n)
unfolding coded_of
coded_valid n = record {
  long = tabulate_length (λ j. encode_of (data_at n j)) word_count;
  each = λ j h. rw (coded_at n j h) (encode_valid (data_at n j) (data_lt n j h));
}

pub valid_words : (words : List ℕ) → ValidWords words → AreWords words
valid_words words ok k =
    ⊎_elim (λ (h : k < word_count). valid_lt (ok.each k h))
    (λ (h : word_count ≤ k). rw (get_or-eq_default words 0 {n = k} (rw ok.long h)) (lit< tt))
    (lt_or_ge k word_count)

data_of_lem : (n : ℕ) → map data_of (coded_of n) ≡ parts_of data_widths n
unfolding data_at
data_of_lem n =
    ext_get_or 0 (map data_of (coded_of n)) (parts_of data_widths n)
    (length-map (coded_of n) data_of ∙ (coded_valid n).long ∙ sym (parts_length data_widths n))
    (λ j h.
    let below : j < word_count = rw (length-map (coded_of n) data_of ∙ (coded_valid n).long) at h in
    get_or-map data_of (coded_of n) j 0 ∙ ap data_of (coded_at n j below) ∙ encode_data (data_at n j) (data_lt n j below))

-- they carry the bits
pub coded_bits : (n : ℕ) → n < 2 ^ header_width → bits_of_words (coded_of n) ≡ n
unfolding bits_of_words
coded_bits n small = ap (joined data_widths) (data_of_lem n) ∙ join_parts 0 data_widths n ∙ zero-add (n % 2 ^ 70) ∙ mod-eq_of_lt small

module _ (words : List ℕ) (ok : ValidWords words) where
  data_widths_lem : InWidths data_widths (map data_of words)
  data_widths_lem = rw ok.long at (data_within words (valid_words words ok))

  -- the bits that valid words carry are 70
  pub carried_lt : bits_of_words words < 2 ^ header_width
  unfolding bits_of_words
  carried_lt = join_lt data_widths_lem

-- and no others do
pub coded_only : (words : List ℕ) → ValidWords words → coded_of (bits_of_words words) ≡ words
unfolding bits_of_words coded_of data_at
coded_only words ok =
    tabulate_is (λ j. encode_of (data_at (joined data_widths (map data_of words)) j)) 0 word_count words ok.long
    (λ j h.
    ap (λ (l : List ℕ). encode_of (get_or l j 0)) (parts_join 0 (data_widths_lem words ok)) ∙ ap encode_of (get_or-map data_of words j 0) ∙ sym (valid_encode (ok.each j h)))
