-- What CRC5 sees of a change: the parity of a right header is fixed, so no odd number of changed bits leaves it right.
-- Assumes nothing.
use mathlib.Core.Path.{◌≡◌, refl, sym, ap, ap₂, ◌∙◌}
use mathlib.Core.Bool.{not, cond}
use mathlib.Core.Logic.{⊎_elim}
use mathlib.Core.List.{List, [], ◌∷◌, ◌++◌, map, flat_map, reverse}
use Prim.Native.Nat.{ℕ, zero, suc, ◌+◌, ◌-◌, ◌*◌, ◌/◌, ◌%◌, ◌^◌, ◌<◌}
use native.Mathlib.Nat.{mod-lt, zero-add}
use native.Mathlib.Omega.{arith}
use lib.Count.{ones_in}
use lib.Dec.{eqb, lit<}
use lib.ListN.{get_or}
use borrow.Author.Tests.{eq-eqb}
use Rattle.base.specs.declared.Edition.{Edition}
use Rattle.base.specs.Lists.{AreBits, count, tabulate, sum_to, how_many}
use Rattle.base.proofs.Tabulate.{tabulate_at, tabulate_all}
use Rattle.base.proofs.Sums.{sum_same}
use Rattle.base.proofs.Doubles.{sum_cons, sum_plus, sum_add, sum_blocks}
use Rattle.base.proofs.Ones.{ones_sum, ones_low}
use Rattle.crc.specs.Crc.{bits_of, bits_of_bytes}
use Rattle.crc.specs.Crc5.{header_bit, filling, message, nine_bytes, poly5, start5, counting_bits, crc5_over, crc5_of, changed_in, Counts, Lost}
use Rattle.crc.proofs.Nine.{message_bit, byte_bit, message_header, message_filling}
use Rattle.crc.proofs.Editions.{counting_kept, counting_lost, counts_or_lost}
use Rattle.crc.proofs.Differences.{last_first, nine_turned}
use Rattle.crc.proofs.Parity.{total, crc_parity, five_even}

-- SUMS OF LISTS
total_append : (xs ys : List ℕ) → total (xs ++ ys) ≡ total xs + total ys
total_append [] ys = sym (zero-add (total ys))
total_append (x ∷ xs) ys = omega (arith, total_append xs ys)

total_count : (f : ℕ → ℕ) (n i : ℕ) → total (map f (count n i)) ≡ sum_to n (λ k. f (i + k))
unfolding sum_to
total_count f zero i = refl
total_count f (suc n) i =
    let first : i + 0 ≡ i = omega arith in
    ap₂ (λ (x y : ℕ). x + y) (ap f (sym first)) (total_count f n (suc i) ∙ sum_same n _ _ (λ k h. let e : suc i + k ≡ i + suc k = omega arith in ap f e))
    ∙ sym (sum_cons n (λ k. f (i + k)))

total_made : (f : ℕ → ℕ) (n : ℕ) → total (tabulate n f) ≡ sum_to n f
unfolding tabulate
total_made f n = total_count f n 0 ∙ sum_same n _ _ (λ k h. let e : 0 + k ≡ k = omega arith in ap f e)

-- two sums whose parts agree, even or odd
sum_parity : (n : ℕ) (f g : ℕ → ℕ) → ((k : ℕ) → k < n → f k % 2 ≡ g k % 2) → sum_to n f % 2 ≡ sum_to n g % 2
unfolding sum_to
sum_parity zero f g same = refl
sum_parity (suc n) f g same = omega (arith, sum_parity n f g (λ k h. same k (omega arith)), same n (omega arith))

-- bytes, one by one
by_byte : (l : List ℕ) → total (bits_of_bytes l) ≡ total (map (λ b. total (bits_of 8 b)) l)
unfolding flat_map
by_byte [] = refl
by_byte (b ∷ l) = total_append (bits_of 8 b) (bits_of_bytes l) ∙ ap (λ (x : ℕ). total (bits_of 8 b) + x) (by_byte l)

-- nine terms, the last first
nine_terms : (a : ℕ → ℕ) → total (map a last_first) ≡ sum_to 9 a
unfolding last_first sum_to
nine_terms a = omega arith

nine_sum : (byte : ℕ → ℕ) → total (map (λ b. total (bits_of 8 b)) (map byte last_first)) ≡ sum_to 9 (λ i. total (bits_of 8 (byte i)))
unfolding last_first
nine_sum byte = nine_terms (λ i. total (bits_of 8 (byte i)))

bits_append : (xs ys : List ℕ) → AreBits xs → AreBits ys → AreBits (xs ++ ys)
bits_append [] ys bx by k = by k
bits_append (x ∷ xs) ys bx by zero = bx 0
bits_append (x ∷ xs) ys bx by (suc k) = bits_append xs ys (λ j. bx (suc j)) by k

bytes_bits : (l : List ℕ) → AreBits (bits_of_bytes l)
unfolding flat_map
bytes_bits [] k = lit< tt
bytes_bits (b ∷ l) k =
    bits_append (bits_of 8 b) (bits_of_bytes l) (tabulate_all (λ x. x < 2) (λ t. b / 2 ^ (7 - t) % 2) 8 (lit< tt) (λ t h. mod-lt (b / 2 ^ (7 - t)) (lit< tt))) (bytes_bits l) k

-- THE NINE BYTES have the header's bits and the filling's
module _ (n : ℕ) where
  byte_total : ℕ → ℕ
  byte_total i = total (bits_of 8 (get_or (nine_bytes n) i 0))

  byte_total_lem : (i : ℕ) → i < 9 → byte_total i ≡ sum_to 8 (λ t. message_bit n (8 * i + t))
  unfolding byte_total
  byte_total_lem i h =
      total_made _ 8 ∙ sum_same 8 _ _ (λ t l. sym (tabulate_at (λ t. get_or (nine_bytes n) i 0 / 2 ^ (7 - t) % 2) 0 8 t l) ∙ byte_bit n i t h l)

  all_bytes : total (bits_of_bytes (reverse (nine_bytes n))) ≡ sum_to 9 byte_total
  unfolding nine_bytes byte_total
  all_bytes =
      let byte : ℕ → ℕ = λ i. message n / 2 ^ (8 * (8 - i)) % 2 ^ 8 in
      ap (λ (l : List ℕ). total (bits_of_bytes l)) (nine_turned byte) ∙ by_byte (map byte last_first) ∙ nine_sum byte
      ∙ sum_same 9 _ _ (λ i h. ap (λ (b : ℕ). total (bits_of 8 b)) (sym (tabulate_at byte 0 9 i h)))

  -- so they have as many ones as header bits 0 to 64 and the filling
  all_bits_lem : total (bits_of_bytes (reverse (nine_bytes n))) ≡ sum_to 65 (header_bit n) + sum_to 7 (λ k. get_or (bits_of 7 filling) k 0)
  all_bits_lem =
      all_bytes ∙ sum_same 9 _ _ byte_total_lem ∙ sym (sum_blocks 8 9 (message_bit n)) ∙ sum_add 65 7 (message_bit n)
      ∙ ap₂ (λ (x y : ℕ). x + y) (sum_same 65 _ _ (λ k h. message_header n k h))
      (sum_same 7 _ _ (λ k h. message_filling n (65 + k) (omega arith) (omega arith) ∙ (let e : 65 + k - 65 ≡ k = omega arith in ap (λ (j : ℕ). get_or (bits_of 7 filling) j 0) e)))

  are_bits : AreBits (bits_of_bytes (reverse (nine_bytes n)))
  unfolding nine_bytes
  are_bits = rw (nine_turned (λ i. message n / 2 ^ (8 * (8 - i)) % 2 ^ 8)) (bytes_bits (map (λ i. message n / 2 ^ (8 * (8 - i)) % 2 ^ 8) last_first))

  -- the parity of CRC5
  over_parity : ones_in 5 (crc5_over n) % 2 ≡ (ones_in 5 start5 + (sum_to 65 (header_bit n) + sum_to 7 (λ k. get_or (bits_of 7 filling) k 0))) % 2
  unfolding crc5_over
  over_parity = crc_parity 4 poly5 five_even (lit< tt) start5 (bits_of_bytes (reverse (nine_bytes n))) (lit< tt) are_bits ∙ ap (λ (x : ℕ). (ones_in 5 start5 + x) % 2) all_bits_lem

-- A HEADER WHOSE CRC5 IS RIGHT: the one worked out is the one that it carries, in bits 65 to 69
abbrev pub Right : Edition → ℕ → Type 0
Right edition n = crc5_of edition n ≡ n % 2 ^ 5

-- the parity of what it carries
carried_parity : (n : ℕ) → ones_in 5 (n % 2 ^ 5) ≡ sum_to 5 (λ k. header_bit n (65 + k))
unfolding sum_to
carried_parity n = ones_low 5 n ∙ ones_sum 5 n ∙ omega arith

differs_parity : (a b : ℕ) → a < 2 → b < 2 → cond (not (eqb a b)) 1 0 % 2 ≡ (a + b) % 2
differs_parity zero zero h k = refl
differs_parity zero (suc zero) h k = refl
differs_parity (suc zero) zero h k = refl
differs_parity (suc zero) (suc zero) h k = refl
differs_parity (suc (suc a)) b h k = absurd (omega arith)
differs_parity zero (suc (suc b)) h k = absurd (omega arith)
differs_parity (suc zero) (suc (suc b)) h k = absurd (omega arith)

-- two right headers that agree where bits do not count differ in an even number of bits
module _ (edition : Edition) (n m : ℕ) (same : (k : ℕ) → k < 65 → Lost edition k → header_bit n k ≡ header_bit m k) where
  bit_lt : (x k : ℕ) → header_bit x k < 2
  bit_lt x k = mod-lt (x / 2 ^ (69 - k)) (lit< tt)

  -- bit by bit, what counts
  counted_parity : (k : ℕ) → k < 65 → (header_bit (counting_bits edition n) k + header_bit (counting_bits edition m) k) % 2 ≡ cond (changed_in n m k) 1 0 % 2
  counted_parity k h =
      ⊎_elim
      (λ (there : Counts edition k).
      rw (counting_kept edition n k there, counting_kept edition m k there) (sym (differs_parity (header_bit n k) (header_bit m k) (bit_lt n k) (bit_lt m k))))
      (λ (there : Lost edition k).
      rw (counting_lost edition n k there, counting_lost edition m k there, same k h there, eq-eqb (header_bit m k) (header_bit m k) refl) refl)
      (counts_or_lost edition k)

  pub right_even : Right edition n → Right edition m → how_many 70 (changed_in n m) % 2 ≡ 0
  unfolding crc5_of
  right_even right right' =
      let upper : (sum_to 65 (header_bit (counting_bits edition n)) + sum_to 65 (header_bit (counting_bits edition m))) % 2 ≡ sum_to 65 (λ k. cond (changed_in n m k) 1 0) % 2 =
      ap (λ (x : ℕ). x % 2) (sym (sum_plus 65 (header_bit (counting_bits edition n)) (header_bit (counting_bits edition m)))) ∙ sum_parity 65 _ _ counted_parity in
      let lower : (sum_to 5 (λ k. header_bit n (65 + k)) + sum_to 5 (λ k. header_bit m (65 + k))) % 2 ≡ sum_to 5 (λ k. cond (changed_in n m (65 + k)) 1 0) % 2 =
      ap (λ (x : ℕ). x % 2) (sym (sum_plus 5 (λ k. header_bit n (65 + k)) (λ k. header_bit m (65 + k))))
      ∙ sum_parity 5 _ _ (λ k h. sym (differs_parity (header_bit n (65 + k)) (header_bit m (65 + k)) (bit_lt n (65 + k)) (bit_lt m (65 + k)))) in
      let one = sym (ap (λ (x : ℕ). ones_in 5 x % 2) right) ∙ over_parity (counting_bits edition n) in
      let other = sym (ap (λ (x : ℕ). ones_in 5 x % 2) right') ∙ over_parity (counting_bits edition m) in
      omega (arith, upper, lower, one, other, carried_parity n, carried_parity m, sum_add 65 5 (λ k. cond (changed_in n m k) 1 0))
