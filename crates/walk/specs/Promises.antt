-- For contracts inside: what the functions of a listing promise of what is kept and of lent bytes, and of no text.
-- Assumes nothing.
use Rattle.std.specs.Prelude.{◌≡◌, List, ℕ, ◌+◌, ◌-◌, ◌≤◌, length, take}
use Rattle.text.specs.Text.{Put}
use Rattle.walk.specs.declared.After.{After}
use Rattle.walk.specs.Moves.{Moved}
use Rattle.walk.specs.Walks.{Walk, Ended, walk_of}

-- a listing was opened: what it starts with, and its title
pub record Opens {S : Type 0} (start : S) (title before after : List ℕ) (r : After S) : Type 0 where
  pub state_is : r.state ≡ start
  pub line : Put before 0 title after r.to

-- an item was taken: what is kept after it, and its text, which takes at most so much room
pub record Takes {S : Type 0} (state : S) (text : List ℕ) (room : ℕ) (before : List ℕ) (at : ℕ) (after : List ℕ) (r : After S) : Type 0 where
  pub state_is : r.state ≡ state
  pub line : Put before at text after r.to
  pub short : r.to ≤ at + room

-- some bytes were walked over: what is kept after their items, how many bytes are left, and how it ended
pub record Passes {S I R : Type 0} (walk : Walk S I R) (start : S) (l : List ℕ) (state : S) (left : ℕ) (ended : Ended R) : Type 0 where
  pub state_is : state ≡ (walk_of walk start l).state
  pub left_is : left ≡ length (walk_of walk start l).rest
  pub ended_is : ended ≡ (walk_of walk start l).ended

-- the first `end` bytes of a buffer were walked over, and what is left of them was moved to its front
pub record Turns {S I R : Type 0} (walk : Walk S I R) (start : S) (buf : List ℕ) (end : ℕ) (buf' : List ℕ) (state : S) (left : ℕ) (ended : Ended R) : Type 0 where
  pub walked : Passes walk start (take end buf) state left ended
  pub inside : left ≤ end
  pub kept : Moved buf (end - left) left buf'
