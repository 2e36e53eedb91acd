-- A piece is taken: what is left is within it, and no longer than a line where none is wrong; its records are within the output.
-- Assumes nothing.
use Rattle.std.proofs.Common.{◌≡◌, ℕ, ◌+◌, ◌*◌, ◌<◌, ◌≤◌, Bool, false, refl, sym, ◌∙◌, List, length, take, arith}
use Rattle.std.specs.Prelude.{Ok, Err, is_err}
use mathlib.Core.Bool.{true≢false}
use Rattle.text.proofs.Sizes.{part_size}
use Rattle.walk.specs.Walks.{waiting}
use Rattle.walk.specs.Scans.{Turned}
use Rattle.walk.proofs.Keeping.{left_short, text_inside}
use Rattle.packing.specs.Lines.{Judged, longest_line}
use Rattle.packing.specs.Packing.{wrong_of, pack_walk, judged_ends}
use Rattle.packing.proofs.Streaming.{pack_sound, waits_short}
use Rattle.streams.specs.Pump.{TakenUp}

fine_waits : (judged : Judged) → wrong_of judged ≡ false → judged_ends judged ≡ waiting
fine_waits (Ok u) e = refl
fine_waits (Err why) e = absurd (true≢false e)

pub wrong_is_err : (judged : Judged) → wrong_of judged ≡ is_err judged
wrong_is_err (Ok u) = refl
wrong_is_err (Err why) = refl

module _ (lines : ℕ) (buf out : List ℕ) (end : ℕ) (buf' out' : List ℕ) (lines' left to : ℕ) (judged : Judged) (done : Turned pack_walk 2 lines buf end out buf' out' lines' left to (judged_ends judged)) where
  few : wrong_of judged ≡ false → left < longest_line + 1
  few e = left_short pack_walk pack_sound lines (longest_line + 1) waits_short (take end buf) left (judged_ends judged) done.listed.left_is done.listed.ended_is (fine_waits judged e)

  pub packs : longest_line < length buf → length buf' ≡ length buf → (over : Bool) → over ≡ is_err judged
      → TakenUp (length buf') (length out') end (record { left = left; to = to; over = over })
  packs fits input over is =
      record {
        inside = done.inside;
        room = λ e. let short = few (wrong_is_err judged ∙ sym is ∙ e) in omega (arith, short, fits, input);
        text = text_inside pack_walk 2 lines buf end out buf' out' lines' left to (judged_ends judged) done;
      }

  pub keeps_short : wrong_of judged ≡ false → left ≤ longest_line
  keeps_short e = omega (arith, few e)

-- the last line is short, and has room
pub last_short : (judged : Judged) (buf : List ℕ) (left : ℕ) → left ≤ length buf → (wrong_of judged ≡ false → left ≤ longest_line) → wrong_of judged ≡ false → length (take left buf) ≤ longest_line
last_short judged buf left inside short fine = omega (arith, short fine, part_size buf left inside)

pub last_fits : (buf out : List ℕ) (left n : ℕ) → length buf ≡ n → left ≤ length buf → 2 * n ≤ length out → 2 * length (take left buf) ≤ length out
last_fits buf out left n same inside room = omega (arith, part_size buf left inside)
