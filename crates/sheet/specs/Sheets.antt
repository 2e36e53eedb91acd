-- The pass sheet, and a frame offered to it. "A sheet belongs to one edition", which is called its own. The definitions speak of lists of
-- records of any length: a sheet of n records is one of these (`held`), and so is a wide sheet, with 128 (`wide_sheet/specs/Wide`).
-- Assumes nothing.
use Rattle.std.specs.Prelude.{Bool, true, false, not, List, ◌∷◌, ℕ, suc, ◌+◌, leb, get_or, replicate, Ok, Err, ◌≡◌, cond, eqb}
use Rattle.base.specs.declared.Edition.{Edition}
use Rattle.base.specs.declared.Edition.TheVariants.{Flown, Corrected}
use Rattle.base.specs.Checks.{Check, check, first, refusal}
use Rattle.header.specs.declared.Header.{Header}
use Rattle.header.specs.Answers.{Answer, refused}
use Rattle.header.specs.Fields.{last_source_of}
use Rattle.header_reader.specs.Reading.{repaired_answer, patterns_of}
use Rattle.header.specs.Patterns.{beside}
use Rattle.frame.specs.Frames.{Frame, frame_checks}
use Rattle.source.specs.declared.Lane.{Lane}
use Rattle.source.specs.declared.Source.{Source}
use Rattle.source.specs.declared.Display.{Display}
use Rattle.source.specs.Lanes.{Role, lane_of, silent, source_in, heard_in, accepted_in, display_in}
use Rattle.source.specs.Counts.{refusal_counts, counts_after, total_in}
use Rattle.sheet.specs.declared.Sheet.{Sheet as SheetOf}
use Rattle.sheet.specs.declared.Offered.{Offered as OfferedOf}

-- "Eight records, one per SrcId": as many as there are sources that are not refused; "eight records for flown, 128 for corrected"
abbrev pub records_of : Edition → ℕ
records_of own = suc (last_source_of own)

-- a sheet, and a frame offered to it, as the definitions speak of them: the number is that of the flown edition, and the lists are of any length
abbrev pub Sheet : Type 0
Sheet = SheetOf (records_of Flown)

abbrev pub Offered : Type 0
Offered = OfferedOf (records_of Flown)

-- what a sheet of n records holds, such a sheet of what is held, and what is made of an offered frame's answer
abbrev pub held : {n : ℕ} → SheetOf n → Sheet
held sheet = record { sources = sheet.sources; refusals = sheet.refusals }

abbrev pub sized : (n : ℕ) → Sheet → SheetOf n
sized n sheet = record { sources = sheet.sources; refusals = sheet.refusals }

abbrev pub sized_offered : (n : ℕ) → Offered → OfferedOf n
sized_offered n offered = record { read = offered.read; sheet = sized n offered.sheet }

-- the edition of a sheet of n records, which has as many as the sheets of its edition
abbrev pub edition_with : ℕ → Edition
edition_with n = cond (eqb n (records_of Flown)) Flown Corrected

abbrev pub OfEdition : ℕ → Type 0
OfEdition n = n ≡ records_of (edition_with n)

-- "A new sheet is the only reset."
abbrev pub new_sheet : Edition → Sheet
new_sheet own = record { sources = replicate (records_of own) silent; refusals = replicate refusal_counts 0 }

-- what stands on a sheet
abbrev pub source_at : Sheet → ℕ → Source
source_at sheet k = source_in sheet.sources k

abbrev pub lane_at : Sheet → ℕ → Role → Lane
lane_at sheet k role = lane_of role (source_at sheet k)

abbrev pub refusals_at : Sheet → ℕ → ℕ
refusals_at sheet k = get_or sheet.refusals k 0

-- an accepted frame changes its source's record
unfoldable pub accept_of : Sheet → Header → ℕ → Sheet
accept_of sheet h flips = record { sources = heard_in sheet.sources h flips; refusals = sheet.refusals }

abbrev pub refuse_of : Sheet → ℕ → Sheet
refuse_of sheet number = record { sources = sheet.sources; refusals = counts_after sheet.refusals number }

abbrev pub counted_of : Sheet → Answer → Sheet
counted_of sheet (Ok a) = accept_of sheet a.header a.flips
counted_of sheet (Err why) = refuse_of sheet why.number

-- "accepted over all sources plus refused over all numbers"
unfoldable pub accepted_of : Edition → Sheet → ℕ
accepted_of own sheet = accepted_in (records_of own) sheet.sources

unfoldable pub refused_of : Sheet → ℕ
refused_of sheet = total_in sheet.refusals

abbrev pub heard_of : Edition → Sheet → ℕ
heard_of own sheet = accepted_of own sheet + refused_of sheet

-- "it is full when that sum is 65,535 or more"
abbrev pub full_sheet : ℕ
full_sheet = 65535

abbrev pub full_of : Edition → Sheet → Bool
full_of own sheet = leb full_sheet (heard_of own sheet)

-- whether two editions are the same
abbrev pub same_edition : Edition → Edition → Bool
same_edition Flown Flown = true
same_edition Flown Corrected = false
same_edition Corrected Flown = false
same_edition Corrected Corrected = true

-- the edition that a frame is read under
abbrev pub edition_of : Frame → Edition
edition_of f = f.head.rules.edition

-- THE PAPER'S TABLE, with the rows that a sheet puts before the frame's
-- 17, "sheet full, checked before anything else, sheet unchanged (place 65,535)"
abbrev pub sheet_full : Edition → Sheet → Check Answer
sheet_full own sheet = check (full_of own sheet) (refused (refusal 17 full_sheet))

-- 22, "a frame offered to a sheet of the other edition, after 17 and before 20 (place: 0)"
abbrev pub other_edition : Edition → Frame → Check Answer
other_edition own f = check (not (same_edition (edition_of f) own)) (refused (refusal 22 0))

abbrev pub offer_checks : Edition → Sheet → Frame → List (Check Answer)
offer_checks own sheet f = sheet_full own sheet ∷ other_edition own f ∷ frame_checks f

-- the answer to a frame that is offered
unfoldable pub offer_answer : Edition → Sheet → Frame → Answer
offer_answer own sheet f = first (repaired_answer f.head) (offer_checks own sheet f)

-- an answer with patterns beside it, and the sheet that has counted it
abbrev pub taken_of : Sheet → List ℕ → Answer → Offered
taken_of sheet patterns answer = record { read = beside patterns answer; sheet = counted_of sheet answer }

-- a frame offered: the answer, the patterns of its words, and the sheet after it
abbrev pub offer_of : Edition → Sheet → Frame → Offered
offer_of own sheet f = taken_of sheet (patterns_of f.head) (offer_answer own sheet f)

-- a source's numbers for display
abbrev pub display_of : Edition → Sheet → ℕ → Display
display_of own sheet source = display_in (records_of own) sheet.sources source
