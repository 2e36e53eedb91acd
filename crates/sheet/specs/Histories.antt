-- Histories: the frames that a sheet was offered, the first first, and what is counted from them.
-- Assumes nothing.
use Rattle.std.specs.Prelude.{cond, List, [], ◌∷◌, ◌++◌, ℕ, ◌+◌, ◌<◌, eqb, take, Ok, Err}
use Rattle.base.specs.declared.Edition.{Edition}
use Rattle.header.specs.Answers.{Answer}
use Rattle.frame.specs.Frames.{Frame, frame_of}
use Rattle.source.specs.Records.{count_limit, Own}
use Rattle.source.specs.Lanes.{Role, of_lane, own_in}
use Rattle.source.specs.Counts.{refusal_counts}
use Rattle.sheet.specs.Sheets.{Sheet}
use Rattle.sheet.specs.Sheets.{new_sheet, lane_at, refusals_at, counted_of, full_sheet, same_edition, edition_of, offer_of}

-- a sheet after some frames, and the sheet grown from a new one
abbrev pub run_of : Edition → Sheet → List Frame → Sheet
run_of own sheet [] = sheet
run_of own sheet (f ∷ fs) = run_of own (offer_of own sheet f).sheet fs

abbrev pub sheet_of : Edition → List Frame → Sheet
sheet_of own history = run_of own (new_sheet own) history

-- a sheet that counts frames, whatever it has counted before
abbrev pub count_all : Sheet → List Frame → Sheet
count_all sheet [] = sheet
count_all sheet (f ∷ fs) = count_all (counted_of sheet (frame_of f)) fs

-- the frames of a history that are of the sheet's edition: any other "isn't in its total"
abbrev pub of_edition : Edition → List Frame → List Frame
of_edition own [] = []
of_edition own (f ∷ fs) = cond (same_edition (edition_of f) own) (f ∷ of_edition own fs) (of_edition own fs)

-- "a call refused with 17 offers nothing": the frames of a history that a sheet takes
abbrev pub taken_from : Edition → List Frame → List Frame
taken_from own history = take full_sheet (of_edition own history)

-- THE LANES OF RECORD k
-- "that lane's accepted frames", in their order
abbrev pub lane_frames : ℕ → Role → List Frame → List Frame
lane_frames k role [] = []
lane_frames k role (f ∷ fs) = cond (of_lane k role (frame_of f)) (f ∷ lane_frames k role fs) (lane_frames k role fs)

-- what the lane hears of frames
abbrev pub own_of : ℕ → Role → List Frame → List Own
own_of k role [] = []
own_of k role (f ∷ fs) = own_in k role (frame_of f) ++ own_of k role fs

-- how many frames are refused with a number
abbrev pub refused_in : ℕ → Answer → ℕ
refused_in number (Ok a) = 0
refused_in number (Err why) = cond (eqb why.number number) 1 0

abbrev pub refused_with : ℕ → List Frame → ℕ
refused_with number [] = 0
refused_with number (f ∷ fs) = refused_in number (frame_of f) + refused_with number fs

-- no count of a sheet has reached 4,294,967,295
pub record Unfilled (sheet : Sheet) : Type 0 where
  pub frames : (k : ℕ) (role : Role) → (lane_at sheet k role).frames < count_limit
  pub repaired : (k : ℕ) (role : Role) → (lane_at sheet k role).repaired < count_limit
  pub missed : (k : ℕ) (role : Role) → (lane_at sheet k role).missed < count_limit
  pub repeats : (k : ℕ) (role : Role) → (lane_at sheet k role).repeats < count_limit
  pub refusals : (k : ℕ) → k < refusal_counts → refusals_at sheet k < count_limit
