-- What a program may make of a piece of its input.
-- Assumes nothing.
use Rattle.std.specs.Prelude.{◌≡◌, ℕ, ◌<◌, ◌≤◌, false}
use Rattle.streams.specs.declared.pump.Turn.{Turn}

-- what is left is of the piece, and leaves room to read on where more is wanted; what is written is within the output
pub record TakenUp (buf out end : ℕ) (turn : Turn) : Type 0 where
  pub inside : turn.left ≤ end
  pub room : turn.over ≡ false → turn.left < buf
  pub text : turn.to ≤ out
