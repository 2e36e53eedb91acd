-- What a read leaves, and how a program goes on.
-- Assumes nothing.
use Rattle.std.specs.Prelude.{◌≡◌, ℕ, ◌<◌, ◌≤◌, Bool, true, false, cond, List, length, Option, None, Some}
use Rattle.streams.specs.declared.Filled.{Filled}
use Rattle.streams.specs.declared.Next.{Next}
use Rattle.streams.specs.declared.Next.TheVariants.{More, Done, Failed}

-- what is in the buffer is within it, and more than was kept where there is more to read
pub record ReadOn (buf : List ℕ) (kept : ℕ) (r : Filled) : Type 0 where
  pub inside : r.end ≤ length buf
  pub grown : r.next ≡ More → kept < r.end

-- how to go on after a read: where all that is wanted has come, nothing more is read
abbrev pub read_on : Next → Bool → Next
read_on More over = cond over Done More
read_on Done over = Done
read_on Failed over = Failed

-- how to go on after a read and the write that follows it
abbrev pub onward_of : Next → Bool → Next
onward_of read wrote = cond wrote read Failed

-- whether all that is wanted has come and was written
abbrev pub done_of : Next → Bool
done_of More = false
done_of Done = true
done_of Failed = false

-- whether the turns have ended, where none failed
abbrev pub ended_of : Next → Option Bool
ended_of More = Some false
ended_of Done = Some true
ended_of Failed = None

-- the turns that are left after one: fewer, and none unless there is more to read
pub record TurnsLeft (turns : ℕ) (next : Next) (r : ℕ) : Type 0 where
  pub fewer : r < turns
  pub more : 0 < r → next ≡ More
