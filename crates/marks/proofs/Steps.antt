-- The window step: places without a marker are passed, a marked one is given, and at the end there is none.
-- Assumes nothing.
use mathlib.Core.Path.{◌≡◌, sym, ap, ◌∙◌}
use Rattle.std.specs.Prelude.{Some}
use mathlib.Core.List.{List, ◌∷◌, ◌++◌}
use Prim.Native.Nat.{ℕ, zero, suc, ◌+◌, ◌-◌, ◌^◌, ◌<◌, ◌≤◌}
use native.Mathlib.Nat.{add-zero, add-suc, suc-add}
use native.Mathlib.Omega.{arith}
use lib.ListN.{length, get_or, take, drop, length-append, length-drop}
use lib.Seq.{drop-cons}
use borrow.Author.Tests.{lt-ltb, le-ltb}
use Rattle.marks.specs.declared.Mark.{Mark}
use Rattle.marks.specs.declared.State.{State}
use Rattle.marks.specs.declared.Step.{Step}
use Rattle.marks.specs.Marked.{window_bits, is_marker, mark_at, marks_from}
use Rattle.marks.specs.Pieces.{longest_recording, place_at, index_of, marks_at, no_step, pick, step_of}
use Rattle.marks.specs.Scanning.{Clear, Sought}
use Rattle.marks.proofs.Marks.{is_marked, no_marker, first_marked, first_not, none_short}

pub marked_at : (p : ℕ) (w l : List ℕ) → w ≡ take window_bits l → record { place = p; window = w } ≡ mark_at p l
unfolding mark_at
marked_at p w l e = rw e

-- places without a marker are passed
passed : (v : List ℕ) (p k d : ℕ) → Clear v k (k + d) → k + d ≤ length v → marks_from p (drop k v) ≡ marks_from (p + d) (drop (k + d) v)
passed v p k zero clear room = rw (add-zero, add-zero)
passed v p k (suc d) clear room =
    let cons : drop k v ≡ get_or v k 0 ∷ drop (suc k) v = drop-cons v k 0 (omega arith) in
    ap (marks_from p) cons
    ∙ first_not p (get_or v k 0) (drop (suc k) v) (no_marker (get_or v k 0 ∷ drop (suc k) v) (ap is_marker (sym cons) ∙ clear k (omega arith) (omega arith)))
    ∙ passed v (suc p) (suc k) d (λ i a b. clear i (omega arith) (omega arith)) (omega arith)
    ∙ rw (add-suc p d, suc-add p d, add-suc k d, suc-add k d)

-- from index `from` on, of what is kept and a piece of n elements after it
module _ (n total : ℕ) (v : List ℕ) (long : length v ≡ window_bits + n) (from k : ℕ) (so : Sought v from (n + 1) k) (begun : window_bits ≤ total + from) where
  -- the marks are those from the index that was sought
  from_there : marks_from (total + from - window_bits) (drop from v) ≡ marks_from (total + k - window_bits) (drop k v)
  from_there =
      let there : from + (k - from) ≡ k = omega (arith, so.begun) in
      let place : total + from - window_bits + (k - from) ≡ total + k - window_bits = omega (arith, so.begun) in
      passed v (total + from - window_bits) from (k - from) (rw there so.before) (omega (arith, so.inside))
      ∙ rw (there, place)

  gives_none : (t : Step) → t ≡ no_step n → n < k → t ≡ pick n total (marks_from (total + from - window_bits) (drop from v))
  gives_none t et h =
      et ∙ sym (ap (pick n total) (from_there ∙ none_short (total + k - window_bits) (drop k v) (simp length-drop (omega arith))))

  gives_mark : (m : Mark) → k ≤ n → m ≡ mark_at (total + k - window_bits) (drop k v)
      → record { mark = Some m; next = k } ≡ pick n total (marks_from (total + from - window_bits) (drop from v))
  unfolding mark_at
  gives_mark m h em =
      let next : total + k - window_bits + window_bits - total ≡ k = omega (arith, so.begun) in
      let cons : drop k v ≡ get_or v k 0 ∷ drop (suc k) v = drop-cons v k 0 (omega arith) in
      let room : window_bits ≤ length (drop k v) = simp length-drop (omega arith) in
      let here = is_marked (drop k v) room (so.there (omega arith)) in
      sym (ap (pick n total) (from_there ∙ ap (marks_from (total + k - window_bits)) cons
      ∙ first_marked (total + k - window_bits) (get_or v k 0) (drop (suc k) v) (rw cons at here))
      ∙ ap (λ (l : List ℕ). pick n total (mark_at (total + k - window_bits) l ∷ marks_from (suc (total + k - window_bits)) (drop (suc k) v))) (sym cons)
      ∙ ap (made (mark_at (total + k - window_bits) (drop k v))) next
      ∙ ap (λ (q : Mark). made q k) (sym em))
    where
      made : Mark → ℕ → Step
      made q i = record { mark = Some q; next = i }

module _ (kept piece : List ℕ) (total from k : ℕ) (long : length kept ≡ window_bits) (so : Sought (kept ++ piece) from (length piece + 1) k) (begun : window_bits ≤ total + from) where
  joined_long : length (kept ++ piece) ≡ window_bits + length piece
  joined_long = length-append kept piece ∙ ap (λ (n : ℕ). n + length piece) long

  pub scan_none : (t : Step) → t ≡ no_step (length piece) → length piece < k → t ≡ pick (length piece) total (marks_from (total + from - window_bits) (drop from (kept ++ piece)))
  scan_none t et h = gives_none (length piece) total (kept ++ piece) joined_long from k so begun t et h

  pub scan_mark : (m : Mark) → k ≤ length piece → m ≡ mark_at (total + k - window_bits) (drop k (kept ++ piece))
      → record { mark = Some m; next = k } ≡ pick (length piece) total (marks_from (total + from - window_bits) (drop from (kept ++ piece)))
  scan_mark m h em = gives_mark (length piece) total (kept ++ piece) joined_long from k so begun m h em

-- THE STEP: a piece that is too long, a window that ends past the piece, a search
module _ (s : State) (piece : List ℕ) (at : ℕ) where
  pub step_too_long : (t : Step) → t ≡ no_step (length piece) → longest_recording - s.total < length piece → t ≡ step_of s piece at
  unfolding step_of
  step_too_long t et h = rw (et, lt-ltb longest_recording (s.total + length piece) (omega arith))

  none_left : (t : Step) → t ≡ no_step (length piece) → s.total + length piece ≤ longest_recording → length s.bits ≡ window_bits
      → length piece < index_of s.total at → t ≡ step_of s piece at
  unfolding step_of marks_at
  none_left t et h long past =
      rw (
        et,
        le-ltb longest_recording (s.total + length piece) h,
        none_short (place_at s.total at) (drop (index_of s.total at) (s.bits ++ piece)) (simp (length-drop, length-append) (omega arith)),
      )

  module _ (fits : s.total < 2 ^ 32) (short : length piece ≤ longest_recording - s.total) where
    pub step_past : (t : Step) → t ≡ no_step (length piece) → length s.bits ≡ window_bits → length piece ≤ at → t ≡ step_of s piece at
    step_past t et long past = none_left t et (omega arith) long (omega arith)

    pub step_none : (t : Step) (k : ℕ) → t ≡ no_step (length piece) → length s.bits ≡ window_bits → k ≡ index_of s.total at → length piece < k → t ≡ step_of s piece at
    step_none t k et long ek past = none_left t et (omega arith) long (rw (← ek) past)

    pub step_some : (r : Step) (k : ℕ) → k ≡ index_of s.total at
        → r ≡ pick (length piece) s.total (marks_from (s.total + k - window_bits) (drop k (s.bits ++ piece))) → r ≡ step_of s piece at
    unfolding step_of marks_at
    step_some r k ek e =
        let place : s.total + k - window_bits ≡ place_at s.total at = omega arith in
        let within : s.total + length piece ≤ longest_recording = omega arith in
        rw (le-ltb longest_recording (s.total + length piece) within, ← ek, ← place) e
