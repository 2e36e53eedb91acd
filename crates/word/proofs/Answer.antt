-- What repair answers: the law of flips, and the table's rule carried from its rows to every word.
-- Assumes nothing.
use mathlib.Core.Path.{◌≡◌, refl, sym, ap, ap₂, ◌∙◌, subst}
use mathlib.Core.Logic.{⊎_elim}
use mathlib.Core.Bool.{false, true≢false}
use Rattle.std.specs.Prelude.{Option}
use mathlib.Core.List.{List}
use Prim.Native.Nat.{ℕ, ◌≤◌, ◌<◌, zero-le}
use native.Mathlib.Omega.{arith}
use lib.Bits.{bit_xor, xor_lt, xor_comm}
use lib.Count.{ones_in}
use lib.Dec.{lit<}
use lib.ListN.{get_or}
use borrow.Author.Tests.{le-ltb, eq-eqb, ne_eqb}
use Rattle.base.proofs.Tests.{lt_or_ge}
use Rattle.base.proofs.Tabulate.{tabulate_at}
use Rattle.base.proofs.Xor.{xor_assoc, xor_twice, xor_back, xor_swap}
use Rattle.word.specs.declared.Repaired.{Repaired}
use Rattle.word.specs.Words.{word_limit, Valid, data_of, encode_of, flip_count, distance}
use Rattle.word.specs.Repairs.{Near, Close, nearest, found, beyond, repaired_to, repair_of, is_beyond, word_of, pattern_of, remainder_of, mark, row_for, row_of, syndromes, by_row, radius, table_rows}
use Rattle.word.proofs.Valids.{valid_lt}
use Rattle.word.proofs.Nearest.{Finds, finds, finds_none, nearest_finds, nearest_is, nearest_none, close_moved}
use Rattle.word.proofs.Division.{taken_valid, remainder_lt}

-- a number above 32,767 is no word
pub repair_above : (w : ℕ) → word_limit ≤ w → beyond ≡ repair_of w
unfolding repair_of nearest
repair_above w h = rw (le-ltb w word_limit h)

-- a word within three places of a valid one becomes it, with these places as its flips
pub repair_close : (w v : ℕ) → w < word_limit → Close w v → repair_of w ≡ found v (bit_xor w v)
unfolding repair_of
repair_close w v h c = ap (repaired_to w) (nearest_is w v h c)

pub repair_far : (w : ℕ) → w < word_limit → ((v : ℕ) → Close w v → ⊥) → repair_of w ≡ beyond
unfolding repair_of
repair_far w h never = ap (repaired_to w) (nearest_none w never h)

beyond_word : {v e : ℕ} → beyond ≡ found v e → ⊥
beyond_word is = true≢false (ap is_beyond is)

-- and what is answered is so
word_close : (w v e : ℕ) (n : Near) → Finds w n → repaired_to w n ≡ found v e → Close w v × (e ≡ bit_xor w v)
word_close w v e n (finds u c) is = let same : u ≡ v = ap word_of is in rw (← same) (c, sym (ap pattern_of is))
word_close w v e n (finds_none never) is = absurd (beyond_word is)

beyond_far : (w : ℕ) (n : Near) → Finds w n → repaired_to w n ≡ beyond → (v : ℕ) → Close w v → ⊥
beyond_far w n (finds u c) is = absurd (beyond_word (sym is))
beyond_far w n (finds_none never) is = never

pub repair_word : (w v e : ℕ) → w < word_limit → repair_of w ≡ found v e → Close w v × (e ≡ bit_xor w v)
unfolding repair_of
repair_word w v e h = word_close w v e (nearest w) (nearest_finds w h)

pub repair_beyond : (w : ℕ) → w < word_limit → repair_of w ≡ beyond → (v : ℕ) → Close w v → ⊥
unfolding repair_of
repair_beyond w h = beyond_far w (nearest w) (nearest_finds w h)

-- THE LAW OF FLIPS: a valid word with at most three flips becomes that very word, with exactly these flips
pub repair_flipped : (v e : ℕ) → Valid v → e < word_limit → flip_count e ≤ radius → repair_of (bit_xor v e) ≡ found v e
unfolding distance
repair_flipped v e ok below few =
    let same : bit_xor (bit_xor v e) v ≡ e = ap (λ (n : ℕ). bit_xor n v) (xor_comm v e) ∙ xor_twice e v in
    repair_close (bit_xor v e) v (xor_lt 15 v e (valid_lt ok) below) (record { valid = ok; near = rw same few }) ∙ ap (found v) same

-- what holds of every answer: of nothing, and of the word that is found
answers : (P : Option Repaired → Type 0) → P beyond → ((w v : ℕ) → w < word_limit → Close w v → P (found v (bit_xor w v))) → (w : ℕ) → P (repair_of w)
unfolding repair_of
answers P nothing some w =
    ⊎_elim (λ (h : w < word_limit). told h (nearest w) (nearest_finds w h)) (λ (h : word_limit ≤ w). subst P (repair_above w h) nothing)
    (lt_or_ge w word_limit)
  where
    told : w < word_limit → (n : Near) → Finds w n → P (repaired_to w n)
    told h n (finds v c) = some w v h c
    told h n (finds_none never) = nothing

-- "a 15-bit number with at most three ones"
pub repair_few : (w : ℕ) → flip_count (pattern_of (repair_of w)) ≤ radius
unfolding distance ones_in
repair_few = answers (λ r. flip_count (pattern_of r) ≤ radius) zero-le (λ w v h c. c.near)

pub pattern_lt : (w : ℕ) → pattern_of (repair_of w) < word_limit
pattern_lt = answers (λ r. pattern_of r < word_limit) (lit< tt) (λ w v h c. xor_lt 15 w v h (valid_lt c.valid))

-- a repaired word is a word
pub repaired_lt : (w : ℕ) → word_of (repair_of w) < word_limit
repaired_lt = answers (λ r. word_of r < word_limit) (lit< tt) (λ w v h c. valid_lt c.valid)

-- what is not beyond repair is close to the word that it becomes
close_to : (w : ℕ) (n : Near) → Finds w n → is_beyond (repaired_to w n) ≡ false → Close w (word_of (repaired_to w n))
close_to w n (finds v c) e = c
close_to w n (finds_none never) e = absurd (true≢false e)

pub repaired_close : (w : ℕ) → w < word_limit → is_beyond (repair_of w) ≡ false → Close w (word_of (repair_of w))
unfolding repair_of
repaired_close w h e = close_to w (nearest w) (nearest_finds w h) e

-- c is the valid word that division takes off, and v the one nearest to the remainder: then the flips are those of the remainder
flips_moved : (w c v : ℕ) → w < word_limit → Valid c → Close (bit_xor w c) v → found (bit_xor w (bit_xor (bit_xor w c) v)) (bit_xor (bit_xor w c) v) ≡ repair_of w
flips_moved w c v h ok so =
    let same : bit_xor w (bit_xor v c) ≡ bit_xor (bit_xor w c) v = sym (xor_assoc w v c) ∙ xor_swap w v c in
    let back : bit_xor w (bit_xor (bit_xor w c) v) ≡ bit_xor v c = ap (bit_xor w) (sym same) ∙ xor_back w (bit_xor v c) in
    let moved : Close w (bit_xor v c) = rw xor_twice at (close_moved (bit_xor w c) v c ok so) in
    ap₂ found back (sym same) ∙ sym (repair_close w (bit_xor v c) h moved)

-- so it is with what the table holds for the remainder, whose nearest valid word is n
by_nearest : (w c : ℕ) (n : Near) → w < word_limit → Valid c → Finds (bit_xor w c) n → by_row w (row_for (repaired_to (bit_xor w c) n)) ≡ repair_of w
by_nearest w c n h ok (finds v so) =
    let e : ℕ = bit_xor (bit_xor w c) v in
    let below : e < word_limit = xor_lt 15 (bit_xor w c) v (xor_lt 15 w c h (valid_lt ok)) (valid_lt so.valid) in
    rw (ne_eqb e mark (λ (h : e ≡ mark). omega arith)) (flips_moved w c v h ok so)
by_nearest w c n h ok (finds_none never) =
    sym (repair_far w h (λ v so. never (bit_xor v c) (close_moved w v c ok so)))

-- THE TABLE'S RULE, carried from the 1,024 rows to every word: the row of a word's remainder says what repair answers
pub row_says : (w : ℕ) → w < word_limit → by_row w (row_of (remainder_of w)) ≡ repair_of w
unfolding row_of repair_of remainder_of
row_says w h =
    let c : ℕ = encode_of (data_of w) in
    let ok : Valid c = taken_valid w h in
    by_nearest w c (nearest (bit_xor w c)) h ok (nearest_finds (bit_xor w c) (xor_lt 15 w c h (valid_lt ok)))

-- the two answers by the table: e is what stands in the row of w's remainder
module _ (w r e : ℕ) (below : w < word_limit) (divided : r ≡ remainder_of w) (row : e ≡ row_of r) where
  here : by_row w e ≡ repair_of w
  here = rw (row, divided) (row_says w below)

  pub repair_mark : e ≡ mark → beyond ≡ repair_of w
  repair_mark h = rw (eq-eqb e mark h) at here

  pub repair_flips : (e ≡ mark → ⊥) → found (bit_xor w e) e ≡ repair_of w
  repair_flips h = rw (ne_eqb e mark h) at here

-- a remainder names a row
pub row_lt : (w r : ℕ) → w < word_limit → r ≡ remainder_of w → r < table_rows
row_lt w r h e = rw e (remainder_lt w h)

-- what a copy of the table holds in a row
pub row_of_lem : (table : List ℕ) (r : ℕ) → table ≡ syndromes → r < table_rows → get_or table r 0 ≡ row_of r
unfolding syndromes
row_of_lem table r is h = ap (λ (l : List ℕ). get_or l r 0) is ∙ tabulate_at row_of 0 1024 r h

-- so the table answers as the search does
pub table_answers : (w : ℕ) → w < word_limit → repair_of w ≡ by_row w (get_or syndromes (remainder_of w) 0)
table_answers w h = sym (rw (row_of_lem syndromes (remainder_of w) refl (row_lt w (remainder_of w) h refl)) (row_says w h))
