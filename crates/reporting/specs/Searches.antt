-- For statements on whole searches: what a program writes that puts the lines of a piece a buffer at a time, piece after piece.
-- Assumes nothing.
use Rattle.std.specs.Prelude.{◌≡◌, true, List, [], ◌∷◌, ◌++◌, ℕ, take}
use Rattle.base.specs.declared.Edition.{Edition}
use Rattle.base.specs.Written.{done}
use Rattle.marks.specs.declared.State.{State}
use Rattle.marks.specs.Pieces.{verdict_of, moved_on}
use Rattle.lines.specs.declared.Tally.{Tally}
use Rattle.reporting.specs.declared.Told.{Told}
use Rattle.reporting.specs.Promises.{Reported}

-- the text of a piece from `at` on, and the tally after it: `put_marks` is called again and again, as its contract has it, from where the call before left off
-- and until none are left, and what each call put is written
pub data Tells (edition : Edition) (s : State) (piece : List ℕ) : ℕ → Tally → List ℕ → Tally → Type 0 where
  last : {at : ℕ} {tally : Tally} {out out' : List ℕ} {r : Told} → Reported edition s piece at tally out out' r → r.over ≡ true
      → Tells edition s piece at tally (take r.to out') r.tally
  more : {at : ℕ} {tally after : Tally} {out out' text : List ℕ} {r : Told} → Reported edition s piece at tally out out' r
      → Tells edition s piece r.at r.tally text after → Tells edition s piece at tally (take r.to out' ++ text) after

-- the text of accepted pieces, one after the other
pub data Searches (edition : Edition) : State → Tally → List (List ℕ) → List ℕ → Tally → Type 0 where
  over : {s : State} {tally : Tally} → Searches edition s tally [] [] tally
  taken : {s : State} {tally between after : Tally} {piece : List ℕ} {pieces : List (List ℕ)} {text rest : List ℕ} → verdict_of s.total piece ≡ done
      → Tells edition s piece 0 tally text between → Searches edition (moved_on s piece) between pieces rest after → Searches edition s tally (piece ∷ pieces) (text ++ rest) after

-- pieces that are accepted one after the other
abbrev pub AllAccepted : State → List (List ℕ) → Type 0
AllAccepted s [] = Unit {0}
AllAccepted s (piece ∷ pieces) = (verdict_of s.total piece ≡ done) × AllAccepted (moved_on s piece) pieces
