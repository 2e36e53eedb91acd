-- `frame::read_frame_with` meets its contract: a refused header refuses the frame, an accepted one leaves it to the payload.
-- Assumes nothing.
use borrow.Author.Rules.{rules}
use Rattle.frame.proofs.Payloads.{frame_refused, frame_left}
use Rattle.frame.proofs.read_frame_with.Goals as goal

pub returns-in-Err : goal.returns-in-Err
returns-in-Err c = search (rules, frame_refused)

pub returns-in-Ok : goal.returns-in-Ok
returns-in-Ok c = search (rules, frame_left)
