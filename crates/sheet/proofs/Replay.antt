-- What frames that a sheet takes make of a lane, and of a refusal's count.
-- Assumes nothing.
use mathlib.Core.Path.{◌≡◌, refl, sym, ap, ◌∙◌}
use mathlib.Core.List.{List, [], ◌∷◌, foldl-append}
use Prim.Native.Nat.{ℕ, ◌+◌, ◌≤◌}
use native.Mathlib.Omega.{arith}
use lib.ListN.{length}
use Rattle.base.specs.declared.Edition.{Edition}
use Rattle.source.specs.declared.Lane.{Lane}
use Rattle.source.specs.Records.{next_of, replay_from}
use Rattle.source.specs.Lanes.{Role, own_in}
use Rattle.source.specs.Counts.{slot_of}
use Rattle.sheet.specs.Sheets.{Sheet}
use Rattle.sheet.specs.Sheets.{lane_at, refusals_at, counted_of, full_sheet}
use Rattle.sheet.specs.Histories.{count_all, own_of, refused_with}
use Rattle.source.proofs.Counts.{HasSlot}
use Rattle.sheet.proofs.Offering.{frame_countable}
use Rattle.sheet.proofs.Counted.{Grown, counted_own, counted_refusals}
use Rattle.sheet.proofs.Running.{AllOwn, one_grown}
use Rattle.frame.specs.Frames.{Frame, frame_of}

-- a lane is replayed by its own frames
pub all_own : (own : Edition) (k : ℕ) (role : Role) (fs : List Frame) → AllOwn own fs → (n : ℕ) (sheet : Sheet) → Grown own n sheet → n + length fs ≤ full_sheet → lane_at (count_all sheet fs) k role ≡ replay_from (lane_at sheet k role) (own_of k role fs)
all_own own k role [] mine n sheet so room = refl
all_own own k role (f ∷ fs) mine n sheet so room =
    all_own own k role fs mine.1 (n + 1) (counted_of sheet (frame_of f)) (one_grown own n sheet so (omega arith) f mine.0) (omega arith)
    ∙ ap (λ (l : Lane). replay_from l (own_of k role fs)) (counted_own own n sheet so k role (frame_of f) (frame_countable own f mine.0))
    ∙ sym (foldl-append (λ r x. next_of r x.counter x.flips) (lane_at sheet k role) (own_in k role (frame_of f)) (own_of k role fs))

-- a count grows by the frames with its number
pub all_refused : (own : Edition) (number : ℕ) → HasSlot number → (fs : List Frame) → AllOwn own fs → (n : ℕ) (sheet : Sheet) → Grown own n sheet → n + length fs ≤ full_sheet → refusals_at (count_all sheet fs) (slot_of number) ≡ refusals_at sheet (slot_of number) + refused_with number fs
all_refused own number known [] mine n sheet so room = omega arith
all_refused own number known (f ∷ fs) mine n sheet so room =
    omega (
      arith,
      all_refused own number known fs mine.1 (n + 1) (counted_of sheet (frame_of f)) (one_grown own n sheet so (omega arith) f mine.0) (omega arith),
      counted_refusals own n sheet so (omega arith) number known (frame_of f) (frame_countable own f mine.0),
    )
