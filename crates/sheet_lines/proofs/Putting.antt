-- Lines put together from their parts.
-- Assumes nothing.
use mathlib.Core.Path.{◌≡◌}
use mathlib.Core.Bool.{Bool, true, false}
use mathlib.Core.List.{List, [], ◌∷◌}
use Prim.Native.Nat.{ℕ, ◌+◌, ◌≤◌, ◌<◌}
use native.Mathlib.Omega.{arith}
use lib.ListN.{length}
use borrow.Author.Tests.{lt-ltb, le-ltb}
use Rattle.text.specs.Text.{ascii, Put}
use Rattle.text.specs.Forms.{form_of}
use Rattle.text.proofs.Laid.{put_none, put_then}
use Rattle.base.specs.declared.Edition.{Edition}
use Rattle.base.specs.declared.Edition.TheVariants.{Flown, Corrected}
use Rattle.header.specs.Fields.{radio_of}
use Rattle.lines.specs.declared.Tally.{Tally}
use Rattle.lines.specs.Lines.{letter_of, closing_of}
use Rattle.source.specs.declared.Lane.{Lane}
use Rattle.source.specs.declared.Source.{Source}
use Rattle.source.specs.declared.Display.{Display}
use Rattle.sheet.specs.Sheets.{Sheet}
use Rattle.source.specs.Lanes.{frames_of, summed_of}
use Rattle.sheet_lines.specs.Rooms.{source_room, refusal_room}
use Rattle.sheet_lines.specs.Lines.{totals_title, lane_form, lane_text, source_opening, source_line, heard_line, refused_frames, given_line, source_lines, refusal_lines, lines_of_sheet, totals_of}

-- the numbers of a lane
abbrev pub numbers_of : Lane → List ℕ
numbers_of lane = lane.frames ∷ lane.repaired ∷ lane.missed ∷ lane.repeats ∷ lane.last ∷ []

module _ {l m : List ℕ} {at p : ℕ} where
  -- the first line
  pub put_title : Put l at (ascii "pass sheet totals\n") m p → Put l at totals_title m p
  unfolding totals_title
  put_title put = put

  -- a lane that was heard, and one that was not
  pub lane_heard : (name : List ℕ) (lane : Lane) → lane.heard ≡ true → Put l at (form_of (lane_form true) (numbers_of lane) name) m p → Put l at (lane_text name lane) m p
  unfolding lane_text
  lane_heard name lane e put = rw e put

  pub lane_none : (name : List ℕ) (lane : Lane) → lane.heard ≡ false → Put l at (form_of (lane_form false) (numbers_of lane) name) m p → Put l at (lane_text name lane) m p
  unfolding lane_text
  lane_none name lane e put = rw e put

  -- the opening of a source's line, under either edition
  pub opening_flown : (edition : Edition) (srcId : ℕ) (s : Source) (d : Display) (letter radio : ℕ) → edition ≡ Flown → d ≡ summed_of s → letter ≡ letter_of srcId → radio ≡ radio_of srcId
      → Put l at (form_of (ascii "# radio % frames % repaired %") (letter ∷ radio ∷ d.frames ∷ d.repaired ∷ []) []) m p → Put l at (source_opening edition srcId s) m p
  unfolding source_opening
  opening_flown edition srcId s d letter radio e is is-letter is-radio put = rw e (rw (is, is-letter, is-radio) at put)

  pub opening_corrected : (edition : Edition) (srcId : ℕ) (s : Source) (d : Display) → edition ≡ Corrected → d ≡ summed_of s
      → Put l at (form_of (ascii "source % frames % repaired %") (srcId ∷ d.frames ∷ d.repaired ∷ []) []) m p → Put l at (source_opening edition srcId s) m p
  unfolding source_opening
  opening_corrected edition srcId s d e is put = rw e (rw is at put)

  -- a source that was heard
  pub heard_line_lem : (edition : Edition) (srcId : ℕ) (s : Source) (d : Display) → d ≡ summed_of s → 0 < d.frames → Put l at (source_line edition srcId s) m p → Put l at (heard_line edition srcId s) m p
  heard_line_lem edition srcId s d is h put = rw (lt-ltb 0 (frames_of s) (rw is at h)) put

-- and one that was not
pub heard_none : {l : List ℕ} {at : ℕ} (edition : Edition) (srcId : ℕ) (s : Source) (d : Display) → d ≡ summed_of s → d.frames ≤ 0 → at + source_room ≤ length l → Put l at (heard_line edition srcId s) l at
heard_none edition srcId s d is h room = rw (le-ltb 0 (frames_of s) (rw is at h)) (put_none (omega arith))

-- so a refusal's number
pub given_none : {l : List ℕ} {at : ℕ} (number n : ℕ) → n ≤ 0 → at + refusal_room ≤ length l → Put l at (given_line number n) l at
given_none number n h room = rw (le-ltb 0 n h) (put_none (omega arith))

pub given_line_lem : {l m : List ℕ} {at p : ℕ} (number frames : ℕ) → 0 < frames → Put l at (refused_frames number frames) m p → Put l at (given_line number frames) m p
given_line_lem number frames h put = rw (lt-ltb 0 frames h) put

-- the parts of a source's line
pub put_source : {l m n o u : List ℕ} {at p q r v : ℕ} (edition : Edition) (srcId : ℕ) (s : Source)
    → Put l at (source_opening edition srcId s) m p → Put m p (lane_text (ascii "caller") s.caller) n q → Put n q (lane_text (ascii "responder") s.responder) o r → Put o r (ascii "\n") u v
    → Put l at (source_line edition srcId s) u v
unfolding source_line
put_source edition srcId s first second third fourth = put_then (put_then (put_then first second) third) fourth

module _ {l m n : List ℕ} {at p q : ℕ} where
  -- sources, then refusals
  pub put_sheet : (edition : Edition) (sheet : Sheet) → Put l at (source_lines edition sheet.sources) m p → Put m p (refusal_lines sheet.refusals) n q → Put l at (lines_of_sheet edition sheet) n q
  unfolding lines_of_sheet
  put_sheet edition sheet first second = put_then first second

  pub put_totals : (edition : Edition) (sheet : Sheet) (tally : Tally) (cut : Bool) → Put l at (lines_of_sheet edition sheet) m p → Put m p (closing_of tally cut) n q → Put l at (totals_of edition sheet tally cut) n q
  unfolding totals_of
  put_totals edition sheet tally cut first second = put_then first second
