-- Who asks for one mark after the other gets those of the piece.
-- Assumes nothing.
use mathlib.Core.Path.{◌≡◌, refl, sym, ap, ◌∙◌}
use mathlib.Core.Bool.{Bool, true, false, cond}
use mathlib.Core.List.{List, [], ◌∷◌, ◌++◌}
use Rattle.std.specs.Prelude.{Option, Some, None}
use Prim.Native.Nat.{ℕ, zero, suc, ◌+◌, ◌-◌, ◌<◌, ◌≤◌}
use native.Mathlib.Nat.{le_refl}
use native.Mathlib.Omega.{arith}
use lib.Dec.{ltb}
use lib.ListN.{length, drop, length-append, length-drop}
use lib.Seq.{drop-drop}
use borrow.Author.Tests.{le-ltb}
use Rattle.marks.specs.declared.Mark.{Mark}
use Rattle.marks.specs.declared.State.{State}
use Rattle.marks.specs.declared.Step.{Step}
use Rattle.marks.specs.Marked.{window_bits, marked, mark_at, mark_if, marks_from}
use Rattle.marks.specs.Pieces.{longest_recording, place_at, marks_at, no_step, pick, step_of}
use Rattle.marks.specs.Reports.{Got, last, more}
use Rattle.marks.proofs.Marks.{marked_long}

abbrev rest : List Mark → List Mark
rest [] = []
rest (m ∷ ms) = ms

-- what is known of the first mark and of those after it
record First (p : ℕ) (l : List ℕ) (m : Mark) (ms : List Mark) : Type 0 where
  from : p ≤ m.place
  whole : m.place - p + window_bits ≤ length l
  others : ms ≡ marks_from (suc m.place) (drop (suc m.place - p) l)

here : (p x : ℕ) (xs : List ℕ) (m : Mark) (ms : List Mark) → marked (x ∷ xs) ≡ true → mark_at p (x ∷ xs) ∷ marks_from (suc p) xs ≡ m ∷ ms → First p (x ∷ xs) m ms
unfolding mark_at
here p x xs m ms is e =
    let eq : m ≡ mark_at p (x ∷ xs) = cc in
    let at : m.place ≡ p = ap place eq in
    let es : ms ≡ marks_from (suc p) xs = cc in
    let long : window_bits ≤ length (x ∷ xs) = marked_long (x ∷ xs) is in
    let one : suc p - p ≡ 1 = omega arith in
    record { from = omega arith; whole = omega arith; others = rw (at, one) es }
  where
    place : Mark → ℕ
    place q = q.place

further : (p x : ℕ) (xs : List ℕ) (m : Mark) (ms : List Mark) → First (suc p) xs m ms → First p (x ∷ xs) m ms
further p x xs m ms f =
    let e : suc m.place - p ≡ suc (suc m.place - suc p) = omega (arith, f.from) in
    record { from = omega (arith, f.from); whole = omega (arith, f.from, f.whole); others = rw e f.others }

by_mark : (b : Bool) (p x : ℕ) (xs : List ℕ) (m : Mark) (ms : List Mark) → marked (x ∷ xs) ≡ b
    → (marks_from (suc p) xs ≡ m ∷ ms → First (suc p) xs m ms)
    → mark_if b (mark_at p (x ∷ xs)) ++ marks_from (suc p) xs ≡ m ∷ ms → First p (x ∷ xs) m ms
by_mark true p x xs m ms is ih e = here p x xs m ms is e
by_mark false p x xs m ms is ih e = further p x xs m ms (ih e)

first_of : (p : ℕ) (l : List ℕ) (m : Mark) (ms : List Mark) → marks_from p l ≡ m ∷ ms → First p l m ms
unfolding marks_from
first_of p [] m ms e = absurd (let z : ◌≡◌ {A = ℕ} 0 1 = cc in omega arith)
first_of p (x ∷ xs) m ms e = by_mark (marked (x ∷ xs)) p x xs m ms refl (λ h. first_of (suc p) xs m ms h) e

-- AT A POSITION OF A PIECE: the window of place p ends at or after position `at`, and q is at or after p
module _ (total at p q n : ℕ) (ends : total + at ≤ p + (window_bits - 1)) (le : p ≤ q) where
  goes_on : at < q + window_bits - total
  goes_on = omega arith

  next_place : total + (q + window_bits - total) - (window_bits - 1) ≡ suc q
  next_place = omega arith

  next_index : p + window_bits - total + (suc q - p) ≡ suc q + window_bits - total
  next_index = omega arith

  stays_in : q - p + window_bits ≤ window_bits + n - (p + window_bits - total) → q + window_bits - total ≤ n
  stays_in h = omega arith

module _ (s : State) (piece : List ℕ) (at : ℕ) (long : length s.bits ≡ window_bits) where
  others_at : (m : Mark) (ms : List Mark) → marks_at s piece at ≡ m ∷ ms
      → (at < m.place + window_bits - s.total) × (m.place + window_bits - s.total ≤ length piece) × (ms ≡ marks_at s piece (m.place + window_bits - s.total))
  unfolding marks_at
  others_at m ms e =
      let t : ℕ = s.total in
      let p : ℕ = place_at t at in
      let q : ℕ = m.place in
      let n : ℕ = length piece in
      let f : First p (drop (p + window_bits - t) (s.bits ++ piece)) m ms = first_of p (drop (p + window_bits - t) (s.bits ++ piece)) m ms e in
      let room : q - p + window_bits ≤ window_bits + n - (p + window_bits - t) = simp (length-drop, length-append, long) at f.whole in
      let h : t + at ≤ p + (window_bits - 1) = omega arith in (
        goes_on t at p q n h f.from,
        stays_in t at p q n h f.from room,
        f.others ∙ rw (drop-drop (suc q - p) (p + window_bits - t) (s.bits ++ piece), next_index t at p q n h f.from, next_place t at p q n h f.from),
      )

-- WHAT AN ANSWER SAYS
abbrev found_of : Step → Option Mark
found_of t = t.mark

none_apart : (m : Mark) → ◌≡◌ {A = Option Mark} None (Some m) → ⊥
none_apart m e = let z : ◌≡◌ {A = ℕ} 0 1 = cc in omega arith

not_none : (n : ℕ) (t : Step) (m : Mark) → no_step n ≡ t → t.mark ≡ Some m → ⊥
unfolding no_step
not_none n t m e f = none_apart m (ap found_of e ∙ f)

picked : (n total : ℕ) (ms : List Mark) (t : Step) (m : Mark) → pick n total ms ≡ t → t.mark ≡ Some m → (ms ≡ m ∷ rest ms) × (t.next ≡ m.place + window_bits - total)
picked n total [] t m e f = absurd (not_none n t m e f)
picked n total (q ∷ qs) t m e f =
    let both : ◌≡◌ {A = Option Mark} (Some q) (Some m) = ap found_of e ∙ f in
    let same : q ≡ m = cc in
    (ap (λ (x : Mark). x ∷ qs) same, sym (ap (λ (x : Step). x.next) e) ∙ ap (λ (x : Mark). x.place + window_bits - total) same)

pickless : (b : Bool) (n total : ℕ) (ms : List Mark) (t : Step) (m : Mark) → cond b (no_step n) (pick n total ms) ≡ t → t.mark ≡ Some m → pick n total ms ≡ t
pickless true n total ms t m e f = absurd (not_none n t m e f)
pickless false n total ms t m e f = e

none_picked : (n total : ℕ) (ms : List Mark) (t : Step) → pick n total ms ≡ t → t.mark ≡ None → ms ≡ []
none_picked n total [] t e f = refl
none_picked n total (q ∷ qs) t e f = absurd (none_apart q (sym (ap found_of e ∙ f)))

module _ (s : State) (piece : List ℕ) (at : ℕ) (long : length s.bits ≡ window_bits) (t : Step) (e : t ≡ step_of s piece at) where
  -- a mark that is found is the first, the position goes on inside the piece, and the others are those from there
  pub finds : (m : Mark) → t.mark ≡ Some m → (at < t.next) × (t.next ≤ length piece) × (marks_at s piece at ≡ m ∷ marks_at s piece t.next)
  unfolding step_of
  finds m f =
      let too_long : Bool = ltb longest_recording (s.total + length piece) in
      let h = picked (length piece) s.total (marks_at s piece at) t m (pickless too_long (length piece) s.total (marks_at s piece at) t m (sym e) f) f in
      let o = others_at s piece at long m (rest (marks_at s piece at)) h.0 in
      (rw h.1 o.0, rw h.1 o.1, h.0 ∙ ap (λ (qs : List Mark). m ∷ qs) (o.2 ∙ ap (marks_at s piece) (sym h.1)))

  pub finds_none : s.total + length piece ≤ longest_recording → t.mark ≡ None → marks_at s piece at ≡ []
  unfolding step_of
  finds_none room f = none_picked (length piece) s.total (marks_at s piece at) t (sym (rw (le-ltb longest_recording (s.total + length piece) room) at e)) f

pub got_all : (s : State) (piece : List ℕ) → length s.bits ≡ window_bits → s.total + length piece ≤ longest_recording
    → (at : ℕ) (ms : List Mark) → Got s piece at ms → ms ≡ marks_at s piece at
got_all s piece long room at ms (last e) = sym (finds_none s piece at long (step_of s piece at) refl room e)
got_all s piece long room at ms (more {m = m} {ms = ns} e g) =
    ap (λ (qs : List Mark). m ∷ qs) (got_all s piece long room (step_of s piece at).next ns g) ∙ sym (finds s piece at long (step_of s piece at) refl m e).2

-- SOMETHING IS GOT from every position: each mark that is found ends past the last, inside the piece
pub record Asked (s : State) (piece : List ℕ) (at : ℕ) : Type 0 where
  pub marks : List Mark
  pub got : Got s piece at marks

module _ (s : State) (piece : List ℕ) (long : length s.bits ≡ window_bits) where
  by_found : (o : Option Mark) (at : ℕ) → (step_of s piece at).mark ≡ o → ((m : Mark) → o ≡ Some m → Asked s piece (step_of s piece at).next) → Asked s piece at
  by_found (Some m) at e further = record { marks = m ∷ (further m refl).marks; got = more e (further m refl).got }
  by_found None at e further = record { marks = []; got = last e }

  -- after at most n more marks
  asks : (n at : ℕ) → length piece - at ≤ n → Asked s piece at
  asks zero at few =
      by_found (step_of s piece at).mark at refl
      (λ m f. absurd (omega (arith, few, (finds s piece at long (step_of s piece at) refl m f).0, (finds s piece at long (step_of s piece at) refl m f).1)))
  asks (suc n) at few =
      by_found (step_of s piece at).mark at refl
      (λ m f. asks n (step_of s piece at).next (omega (arith, few, (finds s piece at long (step_of s piece at) refl m f).0, (finds s piece at long (step_of s piece at) refl m f).1)))

  pub something_got : (at : ℕ) → Asked s piece at
  something_got at = asks (length piece - at) at (le_refl (length piece - at))
