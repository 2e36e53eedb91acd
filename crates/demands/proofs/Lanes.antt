-- REQUEST m. "A lane's numbers depend on that lane's accepted frames only."
-- Take two histories from a new sheet. If the frames that they have taken before the sheet is full, accepted and of a lane, are the same in
-- the same order, then that lane has the same numbers on both sheets, whatever else was offered. (Of these frames, only FrCntTx and the
-- repaired bits count.) This holds for the sheet of either edition.
-- Assumes nothing.
use mathlib.Core.Path.{◌≡◌}
use mathlib.Core.List.{List}
use Prim.Native.Nat.{ℕ}
use Rattle.base.specs.declared.Edition.{Edition}
use Rattle.frame.specs.Frames.{Frame}
use Rattle.source.specs.Lanes.{Role}
use Rattle.sheet.specs.Sheets.{lane_at}
use Rattle.sheet.specs.Histories.{sheet_of, taken_from, lane_frames, own_of}
use Rattle.sheet.proofs.LaneFrames.{frames_only, heard_only}

module _ (own : Edition) (k : ℕ) (role : Role) (one other : List Frame) where
  pub lane_frames_only : lane_frames k role (taken_from own one) ≡ lane_frames k role (taken_from own other) → lane_at (sheet_of own one) k role ≡ lane_at (sheet_of own other) k role
  lane_frames_only = frames_only k role own one other

  pub lane_heard_only : own_of k role (taken_from own one) ≡ own_of k role (taken_from own other) → lane_at (sheet_of own one) k role ≡ lane_at (sheet_of own other) k role
  lane_heard_only = heard_only k role own one other
