-- DEMAND 1. "Any bytes may be handed in. Every outside call answers, or refuses with a number and a place from the paper's table, in the
-- paper's order; a refused call leaves the caller's bytes and the sheet's frame records unchanged."
-- That any bytes may be handed in is said by the contracts themselves: no outside function has a `requires`. Here: each refusal is given
-- exactly when its row of the table applies and no row before it does, and a refused call changes nothing.
-- Assumes nothing.
use mathlib.Core.Path.{◌≡◌, ap, ◌∙◌}
use mathlib.Core.List.{List}
use Prim.Native.Nat.{ℕ, ◌≤◌, ◌<◌}
use lib.IntN.{ℤ}
use lib.ListN.{length, replicate}
use Rattle.base.specs.declared.Refusal.{Refusal}
use mathlib.Core.Bool.{false}
use Rattle.base.specs.declared.Edition.{Edition}
use Rattle.base.specs.Checks.{Exactly, refusal}
use Rattle.header.specs.declared.Fields.{Fields}
use Rattle.header.specs.Answers.{refused}
use Rattle.base.specs.Written.{Written, refused as not_written}
use Rattle.header_reader.specs.Reading.{Signal, signal_checks, read_header_of}
use Rattle.header.specs.Writing.{write_checks, write_header_of, after_write, HeaderWritten}
use Rattle.header_reader.proofs.Given.{read_exactly}
use Rattle.header.proofs.Refusing.{write_exactly}
use Rattle.scaling.specs.declared.Scaling.{Scaling}
use Rattle.page.specs.Fields.{head_of, fields_of}
use Rattle.page.specs.Payload.{no_page, page_checks, page_of}
use Rattle.page.specs.Rows.{rows_checks, write_of, PageWritten}
use Rattle.scaling.specs.Shown.{no_value, shown_checks, shown_of}
use Rattle.page.proofs.Given.{page_exactly, rows_exactly, rows_unchanged}
use Rattle.scaling.proofs.Given.{shown_exactly}
use Rattle.frame.specs.Frames.{Frame, frame_checks, frame_of}
use Rattle.frame.proofs.Rules.{refused_exactly}
use Rattle.sheet.specs.Sheets.{Sheet}
use Rattle.sheet.specs.Sheets.{heard_of, full_sheet, same_edition, edition_of, offer_checks, offer_of}
use Rattle.sheet.proofs.Offering.{answers_frame, full_refuses, other_refuses, offered_answer}
use Rattle.sheet.proofs.Refusals.{offered_exactly, refused_keeps}
use Rattle.air.specs.Air.{word_count}
use Rattle.record_writer.specs.Writing.{record_checks, write_record_of, after_record, RecordWritten}
use Rattle.record_writer.proofs.Answering.{record_exactly}

-- 20, 1, 2, 23, 3, 21, 4, 5, 24, 6
pub header_refused_exactly : (s : Signal) (why : Refusal) → Exactly (read_header_of s) (refused why) (signal_checks s)
header_refused_exactly = read_exactly

-- the same, and 7, 8
pub frame_refused_exactly : (f : Frame) (why : Refusal) → Exactly (frame_of f) (refused why) (frame_checks f)
frame_refused_exactly = refused_exactly

-- 17, 22, and then the same, on a sheet of either edition: the numbers of `whole_order`, one by one (`offer_numbered`)
pub offer_refused_exactly : (own : Edition) (sheet : Sheet) (f : Frame) (why : Refusal) → Exactly (offer_of own sheet f).read.answer (refused why) (offer_checks own sheet f)
offer_refused_exactly = offered_exactly

-- 13 to 15
pub write_refused_exactly : (edition : Edition) (f : Fields) (payload : List ℕ) (room : ℕ) (why : Refusal) → Exactly (write_header_of edition f payload room) (not_written why) (write_checks edition f payload room)
write_refused_exactly = write_exactly

-- a refused write leaves every byte as it was
pub write_refused_unchanged : (edition : Edition) (f : Fields) (payload before after : List ℕ) (r : Written) (why : Refusal)
    → HeaderWritten edition f payload before r after → r ≡ not_written why → after ≡ before
write_refused_unchanged edition f payload before after r why so e = so.bytes ∙ ap (λ (w : Written). after_write w edition f payload before) e

-- the same of a record, where 13 is of the record's room
pub record_refused_exactly : (edition : Edition) (f : Fields) (payload : List ℕ) (room : ℕ) (why : Refusal) → Exactly (write_record_of edition f payload room) (not_written why) (record_checks edition f payload room)
record_refused_exactly = record_exactly

pub record_refused_unchanged : (edition : Edition) (f : Fields) (payload before after : List ℕ) (r : Written) (why : Refusal)
    → RecordWritten edition f payload before r after → r ≡ not_written why → after ≡ before
record_refused_unchanged edition f payload before after r why so e = so.bytes ∙ ap (λ (w : Written). after_record w edition f payload before) e

-- 9 to 12
pub page_refused_exactly : (payload : List ℕ) (number place : ℕ)
    → Exactly (page_of payload) (no_page number place) (page_checks (fields_of (head_of payload)) (length payload))
page_refused_exactly = page_exactly

-- 16
pub shown_refused_exactly : (k : Scaling) (x : ℤ) (why : Refusal) → Exactly (shown_of k x) (no_value why) (shown_checks k)
shown_refused_exactly = shown_exactly

-- 18
pub rows_refused_exactly : (out : List ℕ) (why : Refusal) → Exactly (write_of out) (not_written why) (rows_checks out)
rows_refused_exactly = rows_exactly

pub rows_refused_unchanged : (rows : List ℤ) (before after : List ℕ) (r : Written) (why : Refusal) → PageWritten rows before after r → r ≡ not_written why → after ≡ before
rows_refused_unchanged = rows_unchanged

-- 17: "sheet full, checked before anything else, sheet unchanged (place 65,535)"
pub offer_refused_full : (own : Edition) (sheet : Sheet) (f : Frame) → full_sheet ≤ heard_of own sheet → offer_of own sheet f ≡ record { read = record { answer = refused (refusal 17 full_sheet); patterns = replicate word_count 0 }; sheet = sheet }
offer_refused_full = full_refuses

-- 22: "a frame offered to a sheet of the other edition .. (place: 0); sheet unchanged"
pub offer_refused_other : (own : Edition) (sheet : Sheet) (f : Frame) → heard_of own sheet < full_sheet → same_edition (edition_of f) own ≡ false
    → offer_of own sheet f ≡ record { read = record { answer = refused (refusal 22 0); patterns = replicate word_count 0 }; sheet = sheet }
offer_refused_other = other_refuses

-- before that the sheet gives the frame's own answer
pub offer_answers : (own : Edition) (sheet : Sheet) (f : Frame) → heard_of own sheet < full_sheet → edition_of f ≡ own → (offer_of own sheet f).read.answer ≡ frame_of f
offer_answers own sheet f room mine = offered_answer own sheet f ∙ answers_frame own sheet f room mine

-- and an offered frame that is refused, whatever the number, leaves the frame records as they were
pub offer_refused_unchanged : (own : Edition) (sheet : Sheet) (f : Frame) (why : Refusal) → (offer_of own sheet f).read.answer ≡ refused why → (offer_of own sheet f).sheet.sources ≡ sheet.sources
offer_refused_unchanged = refused_keeps
