-- "A lane's numbers depend on that lane's accepted frames only." Two histories whose frames taken before the sheet is full, accepted and
-- of that lane, are the same in the same order give that lane the same numbers.
-- Assumes nothing.
use mathlib.Core.Path.{◌≡◌, refl, sym, ap, ◌∙◌}
use mathlib.Core.Bool.{Bool, true, false, cond}
use mathlib.Core.List.{List, [], ◌∷◌, ◌++◌}
use Prim.Native.Nat.{ℕ}
use Rattle.std.specs.Prelude.{Ok, Err}
use Rattle.header.specs.Answers.{Answer}
use Rattle.frame.specs.Frames.{Frame, frame_of}
use Rattle.base.specs.declared.Edition.{Edition}
use Rattle.source.specs.Lanes.{Role, of_lane, own_in}
use Rattle.source.specs.Records.{Own, replay_of}
use Rattle.sheet.specs.Sheets.{lane_at}
use Rattle.sheet.specs.Histories.{sheet_of, taken_from, lane_frames, own_of}
use Rattle.sheet.proofs.History.{own_lane}

module _ (k : ℕ) (role : Role) where
  -- a lane hears nothing of any other frame
  not_own : (a : Answer) → of_lane k role a ≡ false → own_in k role a ≡ []
  not_own (Ok a) e = rw e
  not_own (Err why) e = refl

  -- so leaving those out changes nothing
  own_kept : (fs : List Frame) → own_of k role fs ≡ own_of k role (lane_frames k role fs)
  own_kept [] = refl
  own_kept (f ∷ fs) = by (of_lane k role (frame_of f)) refl (own_kept fs)
    where
      by : (b : Bool) → of_lane k role (frame_of f) ≡ b → own_of k role fs ≡ own_of k role (lane_frames k role fs)
          → own_in k role (frame_of f) ++ own_of k role fs ≡ own_of k role (cond b (f ∷ lane_frames k role fs) (lane_frames k role fs))
      by true e later = ap (λ (own : List Own). own_in k role (frame_of f) ++ own) later
      by false e later = rw (not_own (frame_of f) e) later

  -- what a lane hears of its frames makes its numbers
  pub heard_only : (own : Edition) (one other : List Frame) → own_of k role (taken_from own one) ≡ own_of k role (taken_from own other) → lane_at (sheet_of own one) k role ≡ lane_at (sheet_of own other) k role
  heard_only own one other same = own_lane own one k role ∙ ap replay_of same ∙ sym (own_lane own other k role)

  pub frames_only : (own : Edition) (one other : List Frame) → lane_frames k role (taken_from own one) ≡ lane_frames k role (taken_from own other) → lane_at (sheet_of own one) k role ≡ lane_at (sheet_of own other) k role
  frames_only own one other same = heard_only own one other (own_kept (taken_from own one) ∙ ap (own_of k role) same ∙ sym (own_kept (taken_from own other)))
