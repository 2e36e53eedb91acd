-- What is cut off the front of some bytes, item after item, until it stops or waits for more, however the bytes come.
-- Assumes nothing.
use Rattle.std.specs.Prelude.{Bool, List, [], ◌∷◌, ◌++◌, ℕ, zero, suc, ltb, length, drop}

-- what stands at the front of some bytes: a whole item, a reason to stop whatever follows, or too little to tell
pub data Front (I R : Type 0) : Type 0 where
  whole : I → Front I R
  stops : R → Front I R
  waits : Front I R

-- what stands at the front, by what is kept so far; the bytes of an item; what is kept after the item at the front, and its text
pub record Walk (S I R : Type 0) : Type 0 where
  pub cut : S → List ℕ → Front I R
  pub size : I → ℕ
  pub next : S → I → List ℕ → S
  pub text : S → I → List ℕ → List ℕ

-- how a walk ended: it waits for more bytes, or it stopped for a reason
pub data Ended (R : Type 0) : Type 0 where
  waiting : Ended R
  stopped : R → Ended R

-- what became of some bytes: what is kept, the text, the bytes that are left, and how the walk ended
pub record Walked (S R : Type 0) : Type 0 where
  pub state : S
  pub text : List ℕ
  pub rest : List ℕ
  pub ended : Ended R

-- what closes a walk: the last text, and what is told besides
pub record Closed (T : Type 0) : Type 0 where
  pub text : List ℕ
  pub told : T

-- a text before it
abbrev pub preceded : {T : Type 0} → List ℕ → Closed T → Closed T
preceded text c = record { text = text ++ c.text; told = c.told }

-- whether so many bytes that are left are cut
abbrev pub cut_with : ℕ → Bool
cut_with left = ltb 0 left

module _ {S R : Type 0} where
  -- the last lines, after `cut` where bytes are left
  abbrev pub closed_by : (S → Bool → List ℕ) → S → Ended R → List ℕ → Closed (Unit {0})
  closed_by closing s ended rest = record { text = closing s (cut_with (length rest)); told = tt }

  -- no item is taken
  abbrev pub halt : S → List ℕ → Ended R → Walked S R
  halt s l ended = record { state = s; text = []; rest = l; ended = ended }

  -- a text, and then what became of some bytes
  abbrev pub behind : List ℕ → Walked S R → Walked S R
  behind text w = record { state = w.state; text = text ++ w.text; rest = w.rest; ended = w.ended }

  module _ {T : Type 0} (closing : S → Ended R → List ℕ → Closed T) where
    -- a whole input: its text, and the close
    abbrev pub told_of : Walked S R → Closed T
    told_of w = preceded w.text (closing w.state w.ended w.rest)

    -- a piece of one: its text; then the close where the walk stopped, or the pieces that follow
    abbrev pub goes_on : Walked S R → (S → List ℕ → Closed T) → Ended R → Closed T
    goes_on w next (stopped why) = preceded w.text (closing w.state (stopped why) w.rest)
    goes_on w next waiting = preceded w.text (next w.state w.rest)

module _ {S I R : Type 0} (walk : Walk S I R) where
  abbrev pub walk_at : S → List ℕ → Front I R → (S → List ℕ → Walked S R) → Walked S R
  walk_at s l (whole i) more = behind (walk.text s i l) (more (walk.next s i l) (drop (walk.size i) l))
  walk_at s l (stops why) more = halt s l (stopped why)
  walk_at s l waits more = halt s l waiting

  -- at most so many items, one after the other
  abbrev pub walk_in : ℕ → S → List ℕ → Walked S R
  walk_in zero s l = halt s l waiting
  walk_in (suc most) s l = walk_at s l (walk.cut s l) (walk_in most)

  -- all of them: there are no more items than bytes
  unfoldable pub walk_of : S → List ℕ → Walked S R
  walk_of s l = walk_in (length l) s l

  -- an input that comes in pieces: what is left of a piece is kept for the next
  abbrev pub fed_of : {T : Type 0} → (S → Ended R → List ℕ → Closed T) → S → List ℕ → List (List ℕ) → Closed T
  fed_of closing s kept [] = closing s waiting kept
  fed_of closing s kept (piece ∷ pieces) = goes_on closing (walk_of s (kept ++ piece)) (λ t k. fed_of closing t k pieces) (walk_of s (kept ++ piece)).ended
