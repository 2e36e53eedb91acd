-- Bytes of a payload that stand 89 apart may be added first: CRC13 counts them alike.
-- Assumes nothing.
use mathlib.Core.Path.{◌≡◌, refl, sym, ap, ◌∙◌}
use mathlib.Core.List.{List, [], ◌∷◌, ◌++◌, zip_with, foldl, foldl-append, reverse, reverse_aux, reverse-append}
use Prim.Native.Nat.{ℕ, zero, suc, ◌+◌, ◌-◌, ◌^◌, ◌≤◌, ◌<◌, zero-le}
use native.Mathlib.Omega.{arith}
use lib.Bits.{bit_xor}
use lib.Dec.{lit<}
use lib.ListN.{length, get_or, replicate, take, drop, take-append-drop, length-drop, length-reverse}
use lib.Seq.{take-length, take-add, length-take-le, get_or-take, get_or-drop}
use Rattle.base.proofs.Tabulate.{tabulate_is}
use Rattle.base.proofs.Fill.{Filled, fill_whole}
use Rattle.base.proofs.Fold.{Downward, down_starts, down_goes_on, down_ends}
use Rattle.crc.specs.Crc.{byte_bits, crc_of, bits_of_bytes, poly13, start13, crc13_of}
use Rattle.crc.specs.Around.{around_bytes, added_at}
use Rattle.crc.proofs.Linear.{number_linear}
use Rattle.crc.proofs.Loop.{crc_byte, by_bytes, down_lt}
use Rattle.crc.proofs.Width.{crc_lt}
use Rattle.crc.proofs.Around.{zeros, zip_zeros, around_bytes_lem}

-- two lists of one length, added: the length, each element, and the other way round
zip_length : (xs ys : List ℕ) → length xs ≡ length ys → length (zip_with bit_xor xs ys) ≡ length xs
unfolding zip_with
zip_length [] ys long = refl
zip_length (x ∷ xs) [] long = absurd (omega arith)
zip_length (x ∷ xs) (y ∷ ys) long = ap suc (zip_length xs ys (omega arith))

zip_at : (xs ys : List ℕ) → length xs ≡ length ys → (k : ℕ) → get_or (zip_with bit_xor xs ys) k 0 ≡ bit_xor (get_or xs k 0) (get_or ys k 0)
unfolding zip_with
zip_at [] [] long k = refl
zip_at [] (y ∷ ys) long k = absurd (omega arith)
zip_at (x ∷ xs) [] long k = absurd (omega arith)
zip_at (x ∷ xs) (y ∷ ys) long zero = refl
zip_at (x ∷ xs) (y ∷ ys) long (suc k) = zip_at xs ys (omega arith) k

zip_onto : (xs ys rs ts : List ℕ) → length xs ≡ length ys → zip_with bit_xor (reverse_aux xs rs) (reverse_aux ys ts) ≡ reverse_aux (zip_with bit_xor xs ys) (zip_with bit_xor rs ts)
unfolding zip_with
zip_onto [] [] rs ts long = refl
zip_onto [] (y ∷ ys) rs ts long = absurd (omega arith)
zip_onto (x ∷ xs) [] rs ts long = absurd (omega arith)
zip_onto (x ∷ xs) (y ∷ ys) rs ts long = zip_onto xs ys (x ∷ rs) (y ∷ ts) (omega arith)

zip_reverse : (xs ys : List ℕ) → length xs ≡ length ys → reverse (zip_with bit_xor xs ys) ≡ zip_with bit_xor (reverse xs) (reverse ys)
unfolding zip_with
zip_reverse xs ys long = sym (zip_onto xs ys [] [] long)

-- bytes into a state
abbrev bytes : ℕ → List ℕ → ℕ
bytes crc l = foldl (crc_byte 13 poly13) crc l

bytes_lt : (crc : ℕ) (l : List ℕ) → crc < 2 ^ 13 → bytes crc l < 2 ^ 13
bytes_lt crc l h = rw (by_bytes 13 poly13 crc l) (crc_lt 13 poly13 (lit< tt) crc (bits_of_bytes l) h)

-- the bytes of two lists, from the last to the first
two_parts : (crc : ℕ) (front back : List ℕ) → bytes crc (reverse (front ++ back)) ≡ bytes (bytes crc (reverse back)) (reverse front)
two_parts crc front back = ap (bytes crc) (reverse-append front back) ∙ foldl-append (crc_byte 13 poly13) crc (reverse back) (reverse front)

-- two states and two lists of bytes, added
bytes_linear : (xs ys : List ℕ) → length xs ≡ length ys → (c d : ℕ) → c < 2 ^ 13 → d < 2 ^ 13 → bytes (bit_xor c d) (zip_with bit_xor xs ys) ≡ bit_xor (bytes c xs) (bytes d ys)
unfolding zip_with
bytes_linear [] [] long c d hc hd = refl
bytes_linear [] (y ∷ ys) long c d hc hd = absurd (omega arith)
bytes_linear (x ∷ xs) [] long c d hc hd = absurd (omega arith)
bytes_linear (x ∷ xs) (y ∷ ys) long c d hc hd =
    ap (λ (s : ℕ). bytes s (zip_with bit_xor xs ys)) (number_linear 13 poly13 (lit< tt) byte_bits x y c d hc hd)
    ∙ bytes_linear xs ys (omega arith) (crc_byte 13 poly13 c x) (crc_byte 13 poly13 d y) (bytes_lt c (x ∷ []) hc) (bytes_lt d (y ∷ []) hd)

still : (crc : ℕ) → crc < 2 ^ 13 → bytes crc (zeros around_bytes) ≡ crc
still crc h = by_bytes 13 poly13 crc (zeros around_bytes) ∙ around_bytes_lem crc h

-- 89 bytes only add to a state
only_add : (l : List ℕ) → length l ≡ around_bytes → (crc : ℕ) → crc < 2 ^ 13 → bytes crc l ≡ bit_xor (bytes 0 l) crc
only_add l long crc h =
    let none : zip_with bit_xor l (zeros around_bytes) ≡ l = rw long at (zip_zeros l) in
    ap (bytes crc) (sym none) ∙ bytes_linear l (zeros around_bytes) long 0 crc (lit< tt) h ∙ ap (bit_xor (bytes 0 l)) (still crc h)

-- so 89 bytes and then 89 others make of a state what their sum makes of it
sum_first : (sum block : List ℕ) → length sum ≡ around_bytes → length block ≡ around_bytes → (crc : ℕ) → crc < 2 ^ 13
    → bytes (bytes crc (reverse block)) (reverse sum) ≡ bytes crc (reverse (zip_with bit_xor sum block))
sum_first sum block long as_long crc h =
    only_add (reverse sum) (length-reverse sum ∙ long) (bytes crc (reverse block)) (bytes_lt crc (reverse block) h)
    ∙ sym (bytes_linear (reverse sum) (reverse block) (length-reverse sum ∙ long ∙ sym as_long ∙ sym (length-reverse block)) 0 crc (lit< tt) h)
    ∙ ap (bytes crc) (sym (zip_reverse sum block (long ∙ sym as_long)))

-- the bytes before a place, as CRC13 takes them, make of every state what the sum makes of it
pub record Summed (l : List ℕ) (at : ℕ) (sum : List ℕ) : Type 0 where
  pub inside : at ≤ length l
  pub long : length sum ≡ around_bytes
  pub same : (crc : ℕ) → crc < 2 ^ 13 → bytes crc (reverse (take at l)) ≡ bytes crc (reverse sum)

module _ (l : List ℕ) where
  pub sum_starts : Summed l 0 (replicate around_bytes 0)
  sum_starts = record { inside = zero-le; long = refl; same = λ crc h. sym (still crc h) }

  module _ (at : ℕ) (sum : List ℕ) (so : Summed l at sum) where
    pub sum_goes_on : (next : List ℕ) → around_bytes ≤ length l - at → next ≡ added_at sum at l → Summed l (at + around_bytes) next
    unfolding added_at
    sum_goes_on next h e = record {
      inside = omega (arith, so.inside);
      long = rw e (zip_length sum block (so.long ∙ sym as_long) ∙ so.long);
      same = λ crc small.
          ap (λ (t : List ℕ). bytes crc (reverse t)) (take-add at around_bytes l)
          ∙ ap (bytes crc) (reverse-append (take at l) block)
          ∙ foldl-append (crc_byte 13 poly13) crc (reverse block) (reverse (take at l))
          ∙ so.same (bytes crc (reverse block)) (bytes_lt crc (reverse block) small)
          ∙ sum_first sum block so.long as_long crc small
          ∙ ap (λ (t : List ℕ). bytes crc (reverse t)) (sym e);
    }
      where
        block : List ℕ
        block = take around_bytes (drop at l)

        as_long : length block ≡ around_bytes
        as_long = length-take-le around_bytes (drop at l) (rw (length-drop at l) h)

    -- the bytes from there on, and then the sum
    pub sum_ends : (last : ℕ) → last ≡ crc_of 13 poly13 start13 (bits_of_bytes (reverse (sum ++ take (length l - at) (drop at l)))) → last ≡ crc13_of l
    unfolding crc13_of
    sum_ends last e =
        let whole : take (length l - at) (drop at l) ≡ drop at l = rw (← length-drop at l) (take-length (drop at l)) in
        let rest : ℕ = bytes start13 (reverse (drop at l)) in
        e ∙ ap (λ (t : List ℕ). crc_of 13 poly13 start13 (bits_of_bytes (reverse (sum ++ t)))) whole
        ∙ sym (by_bytes 13 poly13 start13 (reverse (sum ++ drop at l)))
        ∙ two_parts start13 sum (drop at l)
        ∙ sym (so.same rest (bytes_lt start13 (reverse (drop at l)) (lit< tt)))
        ∙ sym (two_parts start13 (take at l) (drop at l))
        ∙ ap (λ (t : List ℕ). bytes start13 (reverse t)) (take-append-drop at l)
        ∙ by_bytes 13 poly13 start13 (reverse l)

-- the loop that takes bytes and the end of the sum side by side
pub record Beside (l sum : List ℕ) (i j crc added : ℕ) : Type 0 where
  pub long : length sum ≡ around_bytes
  pub behind : i ≤ j
  pub left : Downward (crc_byte 13 poly13) start13 l i crc
  pub right : Downward (crc_byte 13 poly13) 0 sum j added

module _ (l sum : List ℕ) where
  pub beside_starts : length sum ≡ around_bytes → length l ≤ around_bytes → Beside l sum (length l) around_bytes start13 0
  beside_starts long short = record {
    long = long;
    behind = short;
    left = down_starts (crc_byte 13 poly13) start13 l;
    right = rw long at (down_starts (crc_byte 13 poly13) 0 sum);
  }

  module _ (i j crc added : ℕ) (so : Beside l sum i j crc added) where
    pub left_lt : crc < 2 ^ 13
    left_lt = down_lt 13 poly13 (lit< tt) start13 (lit< tt) l i crc so.left

    pub right_lt : added < 2 ^ 13
    right_lt = down_lt 13 poly13 (lit< tt) 0 (lit< tt) sum j added so.right

    pub right_size : j ≡ length (take j sum)
    right_size = sym (length-take-le j sum so.right.inside)

    pub beside_goes_on : 0 < i → (crc' added' : ℕ) → crc' ≡ crc_byte 13 poly13 crc (get_or l (i - 1) 0) → added' ≡ crc_byte 13 poly13 added (get_or sum (j - 1) 0)
        → Beside l sum (i - 1) (j - 1) crc' added'
    beside_goes_on h crc' added' e f = record {
      long = so.long;
      behind = omega (arith, so.behind);
      left = down_goes_on (crc_byte 13 poly13) start13 l i crc 0 so.left h crc' e;
      right = down_goes_on (crc_byte 13 poly13) 0 sum j added 0 so.right (omega (arith, so.behind)) added' f;
    }

    pub beside_ends : i ≤ 0 → (last : ℕ) → last ≡ crc_of 13 poly13 added (bits_of_bytes (reverse (take j sum)))
        → bit_xor last crc ≡ crc_of 13 poly13 start13 (bits_of_bytes (reverse (sum ++ l)))
    beside_ends h last e =
        let whole : last ≡ bytes 0 (reverse sum) =
        e ∙ sym (by_bytes 13 poly13 added (reverse (take j sum)))
        ∙ ap (λ (s : ℕ). bytes s (reverse (take j sum))) so.right.done
        ∙ sym (two_parts 0 (take j sum) (drop j sum)) ∙ ap (λ (t : List ℕ). bytes 0 (reverse t)) (take-append-drop j sum) in
        let crc-is : crc ≡ bytes start13 (reverse l) = down_ends (crc_byte 13 poly13) start13 l i crc so.left h in
        ap (λ (s : ℕ). bit_xor s crc) whole
        ∙ sym (only_add (reverse sum) (length-reverse sum ∙ so.long) crc left_lt)
        ∙ ap (λ (s : ℕ). bytes s (reverse sum)) crc-is
        ∙ sym (two_parts start13 sum l)
        ∙ by_bytes 13 poly13 start13 (reverse (sum ++ l))

-- the loop that adds 89 bytes has them all
pub added_ends : (sum : List ℕ) (at : ℕ) (l next₀ : List ℕ) (j : ℕ) (next : List ℕ) → length sum ≡ around_bytes → at + around_bytes ≤ length l → length next₀ ≡ around_bytes
    → Filled (λ k. bit_xor (get_or sum k 0) (get_or l (at + k) 0)) around_bytes next₀ j next → around_bytes ≤ j → next ≡ added_at sum at l
unfolding added_at
added_ends sum at l next₀ j next long room as_long so h =
    let block : List ℕ = take around_bytes (drop at l) in
    let block-long : length block ≡ around_bytes = length-take-le around_bytes (drop at l) (rw (length-drop at l) (omega arith)) in
    fill_whole (λ k. bit_xor (get_or sum k 0) (get_or l (at + k) 0)) around_bytes next₀ j next so h as_long
    ∙ tabulate_is (λ k. bit_xor (get_or sum k 0) (get_or l (at + k) 0)) 0 around_bytes (zip_with bit_xor sum block) (zip_length sum block (long ∙ sym block-long) ∙ long)
    (λ k lt. sym (zip_at sum block (long ∙ sym block-long) k ∙ ap (bit_xor (get_or sum k 0)) (get_or-take around_bytes (drop at l) k 0 lt ∙ get_or-drop at l k 0)))
