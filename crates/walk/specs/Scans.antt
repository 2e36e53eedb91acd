-- For contracts inside: what a function promises of lent bytes that it walked over.
-- Assumes nothing.
use Rattle.std.specs.Prelude.{◌≡◌, List, ℕ, ◌+◌, ◌-◌, ◌*◌, ◌≤◌, length, take}
use Rattle.text.specs.Text.{Put}
use Rattle.walk.specs.Moves.{Moved}
use Rattle.walk.specs.Walks.{Walk, Ended, walk_of}

-- some bytes were walked over: what is kept, the text, which takes at most `growth` bytes for each, how many bytes are left, and how it ended
pub record Scanned {S I R : Type 0} (walk : Walk S I R) (growth : ℕ) (start : S) (l before : List ℕ) (at : ℕ) (after : List ℕ) (state : S) (left to : ℕ) (ended : Ended R) : Type 0 where
  pub state_is : state ≡ (walk_of walk start l).state
  pub put : Put before at (walk_of walk start l).text after to
  pub short : to ≤ at + growth * length l
  pub left_is : left ≡ length (walk_of walk start l).rest
  pub ended_is : ended ≡ (walk_of walk start l).ended

-- the first `end` bytes of a buffer were walked over, and what is left of them was moved to its front
pub record Turned {S I R : Type 0} (walk : Walk S I R) (growth : ℕ) (start : S) (buf : List ℕ) (end : ℕ) (out buf' out' : List ℕ) (state : S) (left to : ℕ) (ended : Ended R) : Type 0 where
  pub listed : Scanned walk growth start (take end buf) out 0 out' state left to ended
  pub inside : left ≤ end
  pub kept : Moved buf (end - left) left buf'
