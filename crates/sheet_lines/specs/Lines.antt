-- The text of a pass sheet: a line for each source that was heard, a line for each refusal that was given, and the listing's last lines.
-- Assumes nothing.
use Rattle.std.specs.Prelude.{Bool, true, false, cond, List, [], ◌∷◌, ◌++◌, ℕ, zero, suc, ltb, get_or}
use Rattle.base.specs.declared.Edition.{Edition}
use Rattle.base.specs.declared.Edition.TheVariants.{Flown, Corrected}
use Rattle.text.specs.Text.{ascii}
use Rattle.text.specs.Forms.{form_of}
use Rattle.header.specs.Fields.{radio_of}
use Rattle.lines.specs.declared.Tally.{Tally}
use Rattle.lines.specs.Lines.{letter_of, closing_of}
use Rattle.source.specs.declared.Lane.{Lane}
use Rattle.source.specs.declared.Source.{Source}
use Rattle.sheet.specs.Sheets.{Sheet}
use Rattle.source.specs.Lanes.{source_in, frames_of, repaired_of}
use Rattle.source.specs.Counts.{counted_at, refusal_counts}
use Rattle.sheet.specs.Sheets.{records_of}

-- the first line
unfoldable pub totals_title : List ℕ
totals_title = ascii "pass sheet totals\n"

-- a source: who it is, and its frames and repaired bits, those of both lanes added: `A radio 1 frames 12 repaired 7`, `source 97 frames 1 repaired 0`
unfoldable pub source_opening : Edition → ℕ → Source → List ℕ
source_opening Flown srcId s = form_of (ascii "# radio % frames % repaired %") (letter_of srcId ∷ radio_of srcId ∷ frames_of s ∷ repaired_of s ∷ []) []
source_opening Corrected srcId s = form_of (ascii "source % frames % repaired %") (srcId ∷ frames_of s ∷ repaired_of s ∷ []) []

-- one of its lanes: ` caller frames 8 repaired 3 missed 2 repeats 0 last 14`; the last counter is `-` where the lane was never heard
abbrev pub lane_form : Bool → List ℕ
lane_form true = ascii " & frames % repaired % missed % repeats % last %"
lane_form false = ascii " & frames % repaired % missed % repeats % last -"

unfoldable pub lane_text : List ℕ → Lane → List ℕ
lane_text name lane = form_of (lane_form lane.heard) (lane.frames ∷ lane.repaired ∷ lane.missed ∷ lane.repeats ∷ lane.last ∷ []) name

-- its line: the caller's lane first
unfoldable pub source_line : Edition → ℕ → Source → List ℕ
source_line edition srcId s = source_opening edition srcId s ++ lane_text (ascii "caller") s.caller ++ lane_text (ascii "responder") s.responder ++ ascii "\n"

-- of a refusal's number, how many frames were refused with it: `refused 3 frames 2`
abbrev pub refused_frames : ℕ → ℕ → List ℕ
refused_frames number n = form_of (ascii "refused % frames %\n") (number ∷ n ∷ []) []

-- f 0, f 1, .. f (n - 1), one after the other
unfoldable pub join_to : ℕ → (ℕ → List ℕ) → List ℕ
join_to zero f = []
join_to (suc n) f = join_to n f ++ f n

-- a source has a line where frames of it were accepted, and a refusal where frames were refused with it
abbrev pub heard_line : Edition → ℕ → Source → List ℕ
heard_line edition srcId s = cond (ltb 0 (frames_of s)) (source_line edition srcId s) []

abbrev pub given_line : ℕ → ℕ → List ℕ
given_line number n = cond (ltb 0 n) (refused_frames number n) []

-- the sources by SrcId, then the refusals by number
abbrev pub source_lines : Edition → List Source → List ℕ
source_lines edition sources = join_to (records_of edition) (λ k. heard_line edition k (source_in sources k))

abbrev pub refusal_lines : List ℕ → List ℕ
refusal_lines counts = join_to refusal_counts (λ k. given_line (counted_at k) (get_or counts k 0))

unfoldable pub lines_of_sheet : Edition → Sheet → List ℕ
lines_of_sheet edition sheet = source_lines edition sheet.sources ++ refusal_lines sheet.refusals

-- the whole text after the first line: "`cut`, then the last line" as the listing has them
unfoldable pub totals_of : Edition → Sheet → Tally → Bool → List ℕ
totals_of edition sheet tally cut = lines_of_sheet edition sheet ++ closing_of tally cut
