-- The fourteen words of a header's bits: the data of a word from the header's two numbers.
-- Assumes nothing.
use mathlib.Core.Path.{◌≡◌, sym, ap, ◌∙◌}
use mathlib.Core.List.{List, ◌++◌}
use Prim.Native.Nat.{ℕ, suc, ◌+◌, ◌-◌, ◌*◌, ◌/◌, ◌%◌, ◌^◌, ◌<◌, ◌≤◌}
use native.Mathlib.Nat.{mod-lt}
use native.Mathlib.Omega.{arith}
use lib.Dec.{lit<}
use lib.ListN.{length, get_or, replicate, get_or-append}
use lib.Seq.{get_or-append-add}
use Rattle.base.specs.Parts.{parts_of}
use Rattle.base.proofs.Joined.{parts_append, parts_length, even_at}
use Rattle.word.specs.Words.{encode_of}
use Rattle.air.specs.Air.{word_count}
use Rattle.header.specs.Fields.{data_at}
use Rattle.crc.specs.Halves.{header_bits, lo_width}

-- five bits of a header of 70
pub data_at_lem : (n j : ℕ) → j < word_count → data_at n j ≡ n / 2 ^ (5 * (word_count - suc j)) % 32
unfolding data_at
data_at_lem n j h = even_at 5 word_count n j h

pub data_lt : (n j : ℕ) → j < word_count → data_at n j < 32
data_lt n j h = rw (data_at_lem n j h) (mod-lt (n / 2 ^ (5 * (word_count - suc j))) (lit< tt))

module _ (hi lo j : ℕ) (small : lo < 2 ^ lo_width) where
  upper : List ℕ
  upper = parts_of (replicate 6 5) hi

  lower : List ℕ
  lower = parts_of (replicate 8 5) lo

  in_two : data_at (header_bits hi lo) j ≡ get_or (upper ++ lower) j 0
  unfolding data_at upper lower
  in_two = ap (λ (l : List ℕ). get_or l j 0) (parts_append (replicate 6 5) (replicate 8 5) hi lo small)

  -- word j has header bits 5 j to 5 j + 4: of the upper number, or of the lower
  pub data_upper : 5 * j + 5 ≤ 30 → hi / 2 ^ (30 - (5 * j + 5)) % 32 ≡ data_at (header_bits hi lo) j
  unfolding upper
  data_upper h =
      let same : 30 - (5 * j + 5) ≡ 5 * (6 - suc j) = omega arith in
      let inside : j < length upper = rw (parts_length (replicate 6 5) hi) (omega arith) in
      sym (in_two ∙ get_or-append upper lower 0 j inside ∙ even_at 5 6 hi j (omega arith) ∙ rw same)

  pub data_lower : 30 < 5 * j + 5 → j < word_count → lo / 2 ^ (70 - (5 * j + 5)) % 32 ≡ data_at (header_bits hi lo) j
  unfolding upper lower
  data_lower h k =
      let same : 70 - (5 * j + 5) ≡ 5 * (8 - suc (j - 6)) = omega arith in
      let past : length upper + (j - 6) ≡ j = rw (parts_length (replicate 6 5) hi) (omega arith) in
      sym (in_two ∙ ap (λ (i : ℕ). get_or (upper ++ lower) i 0) (sym past) ∙ get_or-append-add upper lower (j - 6) 0 ∙ even_at 5 8 lo (j - 6) (omega arith) ∙ rw same)

-- what is coded, with the data d of a word
pub coded_asked : (n j d : ℕ) → j < word_count → d ≡ data_at n j → d < 32
coded_asked n j d h is = rw is (data_lt n j h)

pub coded_word : (n j d w : ℕ) → d ≡ data_at n j → w ≡ encode_of d → w ≡ encode_of (data_at n j)
coded_word n j d w is coded = coded ∙ ap encode_of is
