-- "Refusals 1 and 2 cannot occur", nor can 20: what follows a marker are 210 bits, and the limit is 28. Nor can 23 and 24, since no call sign is looked at, nor 7 and 8:
-- "Payloads aren't read here".
-- Assumes nothing.
use mathlib.Core.Path.{◌≡◌, refl, sym, ap, ◌∙◌}
use mathlib.Core.Bool.{Bool, true, false, cond, true≢false, false≢true}
use mathlib.Core.List.Memᴰ
use mathlib.Core.List.{List, [], ◌∷◌, Memᴰ}
use mathlib.Core.Logic.{⊎_elim}
use Prim.Native.Nat.{ℕ, ◌+◌, ◌≤◌, ◌<◌}
use native.Mathlib.Omega.{arith}
use lib.Dec.{eqb, lit<}
use lib.ListN.{length, take, drop, length-drop, get_or-eq_default}
use lib.Seq.{get_or-take, get_or-drop, length-take-le}
use borrow.Author.Tests.{le-ltb, eq-eqb, eqb-true}
use Rattle.std.specs.Prelude.{Ok, Err}
use Rattle.base.specs.declared.Edition.{Edition}
use Rattle.base.specs.declared.Refusal.{Refusal}
use Rattle.base.specs.Checks.{Check, Given, here, later}
use Rattle.base.specs.Lists.{AreBits}
use Rattle.base.proofs.Tests.{lt_or_ge, differs_not}
use Rattle.base.proofs.First.{NoneApplies}
use Rattle.air.specs.Air.{air_bits, first_no_bit}
use Rattle.air.proofs.Bits.{no_bit_none}
use Rattle.header.specs.Answers.{Answer, refused}
use Rattle.header_reader.specs.Reading.{Signal, signal, limit_above42, not210_long, no_bit, signal_checks, read_header_of}
use Rattle.header.specs.Rules.{usual_rules}
use Rattle.header_reader.proofs.Beside.{read_answer}
use Rattle.header_reader.proofs.Given.{read_exactly}
use Rattle.marks.specs.declared.Mark.{Mark}
use Rattle.marks.specs.Marked.{marker_bits, window_bits, marks_of}
use Rattle.marks.specs.Reports.{MarkOf}
use Rattle.marks.proofs.Marks.{marked_long, window_of}
use Rattle.marks.proofs.Exactly.{only}
use Rattle.search.specs.Reports.{window_read, mark_read}

bits_take : (n : ℕ) (l : List ℕ) → n ≤ length l → AreBits l → AreBits (take n l)
bits_take n l inside bits k =
    ⊎_elim
    (λ (h : k < n). rw (get_or-take n l k 0 h) (bits k))
    (λ (h : n ≤ k). rw (get_or-eq_default (take n l) 0 {n = k} (rw (length-take-le n l inside) h)) (lit< tt))
    (lt_or_ge k n)

bits_drop : (n : ℕ) (l : List ℕ) → AreBits l → AreBits (drop n l)
bits_drop n l bits k = rw (get_or-drop n l k 0) (bits (n + k))

-- what the header is read from
abbrev pub signal_of : Edition → Mark → Signal
signal_of edition m = signal (usual_rules edition) (take air_bits (drop marker_bits m.window))

module _ (window : List ℕ) (long : length window ≡ window_bits) (bits : AreBits window) where
  room : air_bits ≤ length (drop marker_bits window)
  room = simp length-drop (omega arith)

  header_long : length (take air_bits (drop marker_bits window)) ≡ air_bits
  header_long = length-take-le air_bits (drop marker_bits window) room

  header_bits_lem : AreBits (take air_bits (drop marker_bits window))
  header_bits_lem = bits_take air_bits (drop marker_bits window) room (bits_drop marker_bits window bits)

  rows_passed : (edition : Edition) → NoneApplies (limit_above42 (signal (usual_rules edition) (take air_bits (drop marker_bits window)))
      ∷ not210_long (signal (usual_rules edition) (take air_bits (drop marker_bits window))) ∷ no_bit (signal (usual_rules edition) (take air_bits (drop marker_bits window))) ∷ [])
  rows_passed edition = (refl, (differs_not (length (take air_bits (drop marker_bits window))) air_bits header_long, (le-ltb (first_no_bit (take air_bits (drop marker_bits window))) air_bits reach, tt)))
    where
      reach : air_bits ≤ first_no_bit (take air_bits (drop marker_bits window))
      reach = omega (arith, no_bit_none (take air_bits (drop marker_bits window)) header_bits_lem, header_long)

pub never_20_1_2 : (edition : Edition) (recording : List ℕ) → AreBits recording → (m : Mark) → Memᴰ m (marks_of recording)
    → NoneApplies (limit_above42 (signal_of edition m) ∷ not210_long (signal_of edition m) ∷ no_bit (signal_of edition m) ∷ [])
never_20_1_2 edition recording bits m given =
    let mark : MarkOf 0 recording m = only 0 recording m given in
    let l : List ℕ = drop mark.at recording in
    let long : window_bits ≤ length l = marked_long l mark.is in
    let is : m.window ≡ take window_bits l = ap (λ (x : Mark). x.window) mark.gives ∙ window_of (0 + mark.at) l in
    rw is (rows_passed (take window_bits l) (length-take-le window_bits l long) (bits_take window_bits l long (bits_drop mark.at recording bits)) edition)

-- THE NUMBERS of the refusals
-- what holds of the answer of each row that may apply holds of the answer that is given
module _ {A : Type 0} (P : A → Type 0) where
  abbrev Each : List (Check A) → Type 0
  Each [] = Unit {0}
  Each (k ∷ ks) = (k.applies ≡ true → P k.gives) × Each ks

  given_holds : (a : A) (ks : List (Check A)) → Each ks → Given ks a → P a
  given_holds a (k ∷ ks) each (here t) = each.0 t
  given_holds a (k ∷ ks) each (later t g) = given_holds a ks each.1 g
  given_holds a [] each x'' = elim x'' [ ]

-- whether n is one of some numbers
abbrev among : List ℕ → ℕ → Bool
among [] n = false
among (k ∷ ks) n = cond (eqb n k) true (among ks n)

member : (ks : List ℕ) (n : ℕ) → among ks n ≡ true → Memᴰ n ks
member [] n e = absurd (false≢true e)
member (k ∷ ks) n e = by (λ further. member ks n further) (eqb n k) refl e
  where
    by : (among ks n ≡ true → Memᴰ n ks) → (b : Bool) → eqb n k ≡ b → cond b true (among ks n) ≡ true → Memᴰ n (k ∷ ks)
    by rest true same is = Memᴰ.head (eqb-true n k same)
    by rest false other is = Memᴰ.tail (rest is)

no_member : (ks : List ℕ) (n : ℕ) → among ks n ≡ false → Memᴰ n ks → ⊥
no_member [] n e h = Memᴰ.not-nil h
no_member (k ∷ ks) n e h =
    ⊎_elim
    (λ (same : n ≡ k). true≢false (rw (eq-eqb n k same) at e))
    (λ (t : Memᴰ n ks). no_member ks n (by (eqb n k) e) t)
    (Memᴰ.cases_cons h)
  where
    by : (b : Bool) → cond b true (among ks n) ≡ false → among ks n ≡ false
    by true none = absurd (true≢false none)
    by false none = none

-- whether the number of a refusal is one of these
abbrev Numbered : List ℕ → Bool → Answer → Type 0
Numbered numbers is (Ok a) = Unit {0}
Numbered numbers is (Err why) = among numbers why.number ≡ is

module _ (edition : Edition) (m : Mark) where
  answer_is : (mark_read edition m).answer ≡ read_header_of (signal_of edition m)
  unfolding window_read
  answer_is = read_answer (signal_of edition m) (mark_read edition m) refl

  by_rows : (numbers : List ℕ) (is : Bool) → Each (Numbered numbers is) (signal_checks (signal_of edition m)) → (why : Refusal) → (mark_read edition m).answer ≡ refused why
      → among numbers why.number ≡ is
  by_rows numbers is each why e =
      given_holds (Numbered numbers is) (refused why) (signal_checks (signal_of edition m)) each ((read_exactly (signal_of edition m) why).0 (sym answer_is ∙ e))

  -- 23 and 24 do not apply, and of 7 and 8 there are no rows: for every mark at all
  pub never_23_24_7_8 : (why : Refusal) → (mark_read edition m).answer ≡ refused why → Memᴰ why.number (23 ∷ 24 ∷ 7 ∷ 8 ∷ []) → ⊥
  never_23_24_7_8 why e =
      no_member (23 ∷ 24 ∷ 7 ∷ 8 ∷ []) why.number
      (by_rows (23 ∷ 24 ∷ 7 ∷ 8 ∷ []) false
      (λ t. refl, (λ t. refl, (λ t. refl, (λ t. absurd (false≢true t), (λ t. refl, (λ t. refl, (λ t. refl, (λ t. refl, (λ t. absurd (false≢true t), (λ t. refl, tt))))))))))
      why e)

-- so the header of a mark that a recording has is refused with 3, 21, 4, 5 and 6 only
pub refused_3_21_4_5_6 : (edition : Edition) (recording : List ℕ) → AreBits recording → (m : Mark) → Memᴰ m (marks_of recording) → (why : Refusal)
    → (mark_read edition m).answer ≡ refused why → Memᴰ why.number (3 ∷ 21 ∷ 4 ∷ 5 ∷ 6 ∷ [])
refused_3_21_4_5_6 edition recording bits m given why e =
    let none = never_20_1_2 edition recording bits m given in
    member (3 ∷ 21 ∷ 4 ∷ 5 ∷ 6 ∷ []) why.number
    (by_rows edition m (3 ∷ 21 ∷ 4 ∷ 5 ∷ 6 ∷ []) true (
      λ t. absurd (false≢true (sym none.0 ∙ t)),
      (
        λ t. absurd (false≢true (sym none.1.0 ∙ t)),
        (λ t. absurd (false≢true (sym none.1.1.0 ∙ t)), (λ t. absurd (false≢true t), (λ t. refl, (λ t. refl, (λ t. refl, (λ t. refl, (λ t. absurd (false≢true t), (λ t. refl, tt)))))))),
      ),
    )
    why e)
