-- The data of words as one number: the loop that collects it, and its two halves.
-- Assumes nothing.
use mathlib.Core.Path.{◌≡◌, refl, sym, ap, ◌∙◌}
use mathlib.Core.List.{List, [], ◌∷◌, ◌++◌, map, map-append}
use Prim.Native.Nat.{ℕ, zero, suc, ◌+◌, ◌*◌, ◌^◌, ◌<◌, ◌≤◌, zero-le}
use native.Mathlib.Nat.{lt_of_lt_of_le}
use native.Mathlib.Numerals.{add-one}
use native.Mathlib.Omega.{arith}
use lib.Dec.{lit<, lit≤}
use lib.ListN.{length, get_or, take, drop, replicate, length-map, length-take, length-drop, take-append-drop, drop_of_length-le}
use lib.Pow.{pow-add, pow_mono}
use lib.Seq.{drop-cons, take_all, get_or-drop, length-take-le}
use mir.Syntax.{w16, w64}
use mir.Val.{Fits}
use Rattle.base.specs.Parts.{joined_from, joined, InWidths, none, part}
use Rattle.base.proofs.Joined.{join_above, join_lt, join_append}
use Rattle.word.specs.Words.{word_limit, data_of}
use Rattle.air.specs.Air.{word_count}
use Rattle.header.specs.Fields.{data_widths, bits_of_words}
use Rattle.crc.specs.Halves.{header_bits, hi_width, lo_width}

-- all are words
abbrev pub AreWords : List ℕ → Type 0
AreWords l = (k : ℕ) → get_or l k 0 < word_limit

-- the data of some words, below what is above it
abbrev data_from : ℕ → List ℕ → ℕ
data_from above l = joined_from above (replicate (length l) 5) (map data_of l)

-- the data of the words before i is in the number: six bits each, where they are any 16 bits
pub record Gathered (words : List ℕ) (i number : ℕ) : Type 0 where
  pub inside : i ≤ length words
  pub small : number < 2 ^ (6 * i)
  pub left : data_from 0 words ≡ data_from number (drop i words)

pub gather_starts : (words : List ℕ) → Gathered words 0 0
gather_starts words = record { inside = zero-le; small = lit< tt; left = refl }

module _ (words : List ℕ) (i number : ℕ) (so : Gathered words i number) where
  pub gather_ends : length words ≤ i → number ≡ joined (replicate (length words) 5) (map data_of words)
  gather_ends h = sym (so.left ∙ ap (data_from number) (drop_of_length-le words {i = i} h))

  module _ (few : length words ≤ 8) (ok : (k : ℕ) → Fits w16 (get_or words k 0)) (h : i < length words) where
    room : number < 2 ^ 42
    room = lt_of_lt_of_le so.small (pow_mono {i = 6 * i} {j = 42} (omega arith))

    pub number_fits : Fits w64 (number * 32)
    number_fits = record { fits = omega (arith, room) }

    module _ (d : ℕ) (is : d ≡ data_of (get_or words i 0)) where
      data_small : d < 64
      data_small = rw is (omega (arith, (ok i).fits))

      pub joined_fits : Fits w64 (number * 32 + d)
      joined_fits = record { fits = omega (arith, room, data_small) }

      pub gather_goes_on : Gathered words (i + 1) (number * 32 + d)
      gather_goes_on = record {
        inside = omega arith;
        small = let e : 6 * (i + 1) ≡ 6 * i + 6 = omega arith in rw (e, pow-add) (omega (arith, so.small, data_small));
        left = so.left ∙ rw (drop-cons words i 0 h, add-one, is);
      }

pub data_within : (l : List ℕ) → AreWords l → InWidths (replicate (length l) 5) (map data_of l)
data_within [] ok = none
data_within (w ∷ ws) ok =
    let small : data_of w < 2 ^ 5 = omega (arith, ok 0) in
    part small (data_within ws (λ k. ok (suc k)))

words_take : (n : ℕ) (l : List ℕ) → AreWords l → AreWords (take n l)
words_take zero l ok k = lit< tt
words_take (suc n) [] ok k = lit< tt
words_take (suc n) (w ∷ ws) ok zero = ok 0
words_take (suc n) (w ∷ ws) ok (suc k) = words_take n ws (λ j. ok (suc j)) k

words_drop : (n : ℕ) (l : List ℕ) → AreWords l → AreWords (drop n l)
words_drop n l ok k = rw get_or-drop (ok (n + k))

take_few : (m n : ℕ) (l : List ℕ) → m ≤ n → length (take m l) ≤ n
take_few m n l h = simp length-take (omega arith)

-- what the loop asks of the six words above and of the eight below
pub upper_few : (words : List ℕ) → length (take 6 words) ≤ 8
upper_few words = take_few 6 8 words (lit≤ tt)

pub lower_few : (words : List ℕ) → length (take 8 (drop 6 words)) ≤ 8
lower_few words = take_few 8 8 (drop 6 words) (lit≤ tt)

upper_words : (words : List ℕ) → AreWords words → AreWords (take 6 words)
upper_words words ok = words_take 6 words ok

lower_words : (words : List ℕ) → AreWords words → AreWords (take 8 (drop 6 words))
lower_words words ok = words_take 8 (drop 6 words) (words_drop 6 words ok)

-- fourteen words: six above make `hi`, and eight below make `lo`
module _ (words : List ℕ) (long : length words ≡ word_count) (ok : AreWords words) (hi lo : ℕ)
    (upper : hi ≡ data_from 0 (take 6 words)) (lower : lo ≡ data_from 0 (take 8 (drop 6 words))) where
  upper_long : length (take 6 words) ≡ 6
  upper_long = length-take-le 6 words (omega (arith, long))

  lower_long : length (take 8 (drop 6 words)) ≡ 8
  lower_long = length-take-le 8 (drop 6 words) (simp length-drop (omega (arith, long)))

  lower_within : InWidths (replicate 8 5) (map data_of (take 8 (drop 6 words)))
  lower_within = rw lower_long at (data_within (take 8 (drop 6 words)) (lower_words words ok))

  pub upper_small : hi < 2 ^ hi_width
  upper_small = rw (upper, upper_long) (rw upper_long at (join_lt (data_within (take 6 words) (upper_words words ok))))

  pub lower_small : lo < 2 ^ lo_width
  lower_small = rw (lower, lower_long) (join_lt lower_within)

  pub halves : header_bits hi lo ≡ bits_of_words words
  unfolding bits_of_words
  halves =
      let whole : take 6 words ++ take 8 (drop 6 words) ≡ words =
      ap (λ (l : List ℕ). take 6 words ++ l) (take_all 8 (drop 6 words) (simp length-drop (omega (arith, long)))) ∙ take-append-drop 6 words in
      rw (upper, lower, upper_long, lower_long)
      (sym (join_above (joined (replicate 6 5) (map data_of (take 6 words))) lower_within)
      ∙ sym (join_append 0 (replicate 6 5) (replicate 8 5) (map data_of (take 6 words)) (map data_of (take 8 (drop 6 words))) (sym (length-map (take 6 words) data_of ∙ upper_long)))
      ∙ ap (joined data_widths) (sym (map-append data_of (take 6 words) (take 8 (drop 6 words))) ∙ ap (map data_of) whole))
