-- The listing as a sheet would tell it: the frames of an input, offered to a sheet in turn.
-- Assumes nothing.
use Rattle.std.specs.Prelude.{Bool, true, false, cond, List, [], ◌∷◌, ◌++◌, ℕ, zero, suc, length, drop}
use Rattle.base.specs.declared.Edition.{Edition}
use Rattle.header.specs.declared.Rules.{Rules}
use Rattle.frame.specs.Frames.{Frame}
use Rattle.record.specs.declared.Cut.{Cut}
use Rattle.record.specs.declared.Cut.TheVariants.{Record, TooLong, Short}
use Rattle.record.specs.Records.{record_size, cut_of}
use Rattle.sheet.specs.Sheets.{Sheet}
use Rattle.sheet.specs.Sheets.{accepted_of, refused_of, heard_of, full_of, offer_of}
use Rattle.lines.specs.declared.Tally.{Tally}
use Rattle.lines.specs.Lines.{line_of}
use Rattle.frame.specs.Recorded.{frame_in}

-- the frames of the whole records of an input, up to the first bytes that are none
module _ (rules : Rules) where
  abbrev pub frames_at : List ℕ → Cut → (List ℕ → List Frame) → List Frame
  frames_at l (Record n) next = frame_in rules n l ∷ next (drop (record_size n) l)
  frames_at l TooLong next = []
  frames_at l Short next = []

  abbrev pub frames_within : ℕ → List ℕ → List Frame
  frames_within zero l = []
  frames_within (suc most) l = frames_at l (cut_of l) (frames_within most)

  unfoldable pub frames_in : List ℕ → List Frame
  frames_in l = frames_within (length l) l

-- the lines of what a sheet answers to frames that it is offered in turn, as long as it is not full
abbrev pub lines_by : Edition → Sheet → List Frame → List ℕ
lines_by own sheet [] = []
lines_by own sheet (f ∷ fs) =
    cond (full_of own sheet) []
    (line_of own (heard_of own sheet) (length f.payload) (offer_of own sheet f).read ++ lines_by own (offer_of own sheet f).sheet fs)

-- what a sheet has counted
abbrev pub tally_by : Edition → Sheet → Tally
tally_by own sheet = record { accepted = accepted_of own sheet; refused = refused_of sheet }

-- whether a whole record stands at the front of some bytes
abbrev pub whole_cut : Cut → Bool
whole_cut (Record n) = true
whole_cut TooLong = false
whole_cut Short = false

abbrev pub whole_ahead : List ℕ → Bool
whole_ahead l = whole_cut (cut_of l)
