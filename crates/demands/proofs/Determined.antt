-- "Show by proof that any two answers allowed by it coincide": one theorem for each outside function. Its premises are the
-- function's `ensures`, word for word (the gate compares them), of two answers r and s: an argument has its name in the code, and
-- what a lent `out` holds afterwards is `out-r` beside r and `out-s` beside s.
-- Assumes nothing.
use mathlib.Core.Path.{◌≡◌, refl, sym, ap, ◌∙◌, contract'}
use mathlib.Core.Bool.{Bool}
use mathlib.Core.List.{List}
use Rattle.std.specs.Prelude.{Option, Result, is_some}
use Prim.Native.Nat.{ℕ}
use lib.IntN.{ℤ}
use Rattle.std.specs.Prelude.{Option}
use Rattle.word.specs.declared.Repaired.{Repaired}
use Rattle.word.specs.declared.table.Syndromes.{Syndromes}
use Rattle.word.specs.Repairs.{repair_of, syndromes}
use Rattle.crc.specs.Crc.{crc13_of, crc16_of}
use Rattle.crc.specs.Crc5.{crc5_of}
use Rattle.crc.specs.Halves.{header_bits}
use Rattle.crc.specs.declared.header_bits.HeaderBits.{HeaderBits}
use Rattle.air.specs.declared.AirBits.{AirBits}
use Rattle.air.specs.Air.{words_of, first_no_bit}
use Rattle.sign.specs.CallSigns.{sign_of}
use Rattle.sign.specs.Calls.{call_in, looks_at, looked_at, fault_at, other_at}
use Rattle.header.specs.declared.Fields.{Fields}
use Rattle.header.specs.declared.Read.{Read}
use Rattle.header.specs.declared.Rules.{Rules}
use Rattle.header.specs.Answers.{Answer}
use Rattle.air.specs.declared.RepairedWords.{RepairedWords}
use Rattle.air.specs.WordRepairs.{worst_of, repair_words_of}
use Rattle.base.specs.declared.Edition.{Edition}
use Rattle.base.specs.declared.Edition.TheVariants.{Flown, Corrected}
use Rattle.base.specs.declared.Refusal.{Refusal}
use Rattle.base.specs.Checks.{refusal}
use Rattle.base.specs.Written.{Written}
use Rattle.base.specs.declared.Reason.{Reason}
use Rattle.base.specs.Reasons.{number_of}
use Rattle.header.specs.Fields.{fields_from, values_of, last_source_of, satellite_of, radio_of}
use Rattle.header.specs.HalfWidths.{halves_header}
use Rattle.header.specs.Rules.{usual_rules}
use Rattle.header_reader.specs.Reading.{signal, signed, signal_with, header_read}
use Rattle.header.specs.Patterns.{beside}
use Rattle.header.specs.Writing.{after_write, HeaderWritten}
use Rattle.beesat.specs.declared.Read.{Read as FrameRead}
use Rattle.beesat.specs.Reading.{read_of}
use Rattle.beesat.specs.Writing.{after_field, FieldWritten}
use Rattle.frame.specs.Frames.{frame, signed_frame, frame_with, frame_read}
use Rattle.header.specs.declared.Header.{Header}
use Rattle.source.specs.declared.Lane.{Lane}
use Rattle.source.specs.declared.Source.{Source}
use Rattle.source.specs.declared.Display.{Display}
use Rattle.source.specs.Records.{next_of}
use Rattle.source.specs.Lanes.{silent, hear_of, frames_of, summed_of}
use Rattle.source.specs.Counts.{counted_at, counts_after, total_in}
use Rattle.sheet.specs.Sheets.{Sheet}
use Rattle.sheet.specs.Sheets.{Offered}
use Rattle.sheet.specs.Sheets.{new_sheet, accepted_of, refused_of, heard_of, full_of, offer_of, display_of}
use Rattle.wide_sheet.specs.Wide.{WideSheet}
use Rattle.wide_sheet.specs.Wide.{WideOffered}
use Rattle.wide_sheet.specs.Wide.{held, widened, wide_offered}
use Rattle.walk.specs.Walks.{cut_with}
use Rattle.packing.specs.Lines.{Judged}
use Rattle.packing.specs.Packing.{wrong_of}
use Rattle.packing.specs.Pieces.{opened}
use Rattle.lines.specs.declared.Tally.{Tally}
use Rattle.lines.specs.Lines.{letter_of}
use Rattle.lines.specs.Tallies.{total_of}
use Rattle.page_lines.specs.declared.Counts.{Counts}
use Rattle.page_lines.specs.Counting.{records_heard}
use Rattle.record.specs.declared.Ending.{Ending}
use Rattle.record.specs.declared.Cut.{Cut}
use Rattle.record.specs.Records.{cut_of}
use Rattle.record.specs.Walks.{over_of}
use Rattle.record_writer.specs.Writing.{after_record, RecordWritten}
use Rattle.record_writer.specs.LongPayload.{whole_of}
use Rattle.page.specs.declared.PageAnswer.{PageAnswer}
use Rattle.report.specs.declared.Report.{Report}
use Rattle.report.specs.declared.Added.{Added}
use Rattle.report.specs.declared.Numbers.{Numbers}
use Rattle.report.specs.declared.Fraction.{Fraction}
use Rattle.report.specs.Adding.{fresh_report, added_of, row_report_of, mean_of}
use Rattle.scaling.specs.declared.Scaling.{Scaling}
use Rattle.page.specs.Rows.{PageWritten}
use Rattle.page.specs.Payload.{page_of}
use Rattle.scaling.specs.Shown.{scaling_of, ShownAnswer, shown_of}
use denote.Ref.{Bor}
use Rattle.marks.specs.declared.State.{State}
use Rattle.marks.specs.declared.Mark.{Mark}
use Rattle.marks.specs.declared.Step.{Step}
use Rattle.marks.specs.declared.Taken.{Taken}
use Rattle.mark_reader.specs.declared.Reader.{Reader}
use Rattle.marks.specs.Pieces.{fresh_state, taken_of, step_of}
use Rattle.mark_reader.specs.Readers.{reader_at}
use Rattle.search.specs.Reports.{mark_read}

-- call sign bits, lent
abbrev Bits : Type 0
Bits = Bor (List ℕ)

-- a contract of the form `r ≡ d` allows one answer
one : {A : Type 0} {r s d : A} → r ≡ d → s ≡ d → r ≡ s
one a b = a ∙ sym b

pub search_one : (w : ℕ) (r s : Option Repaired) → r ≡ repair_of w → s ≡ repair_of w → r ≡ s
search_one w r s = one

pub repair_one : (w : ℕ) (r s : Option Repaired) → r ≡ repair_of w → s ≡ repair_of w → r ≡ s
repair_one w r s = one

pub repair_in_one : (w : ℕ) (r s : Option Repaired) → r ≡ repair_of w → s ≡ repair_of w → r ≡ s
repair_in_one w r s = one

abbrev the_table : Syndromes
the_table = record { rows = syndromes; exact = refl }

is_the_table : (t : Syndromes) → the_table ≡ t
is_the_table t = λ i. record { rows = (contract' t.exact i).0; exact = (contract' t.exact i).1 }

-- by its type, which has this value and no other
pub Syndromes_new_one : (r s : Syndromes) → r ≡ s
Syndromes_new_one r s = one (sym (is_the_table r)) (sym (is_the_table s))

pub first_no_bit_one : (bytes : List ℕ) (r s : ℕ) → r ≡ first_no_bit bytes → s ≡ first_no_bit bytes → r ≡ s
first_no_bit_one bytes r s = one

pub words_one : (air : AirBits) (r s : List ℕ) → r ≡ words_of air.bits.now → s ≡ words_of air.bits.now → r ≡ s
words_one air r s = one

pub crc13_one : (payload : List ℕ) (r s : ℕ) → r ≡ crc13_of payload → s ≡ crc13_of payload → r ≡ s
crc13_one payload r s = one

pub crc16_one : (bytes : List ℕ) (r s : ℕ) → r ≡ crc16_of bytes → s ≡ crc16_of bytes → r ≡ s
crc16_one bytes r s = one

pub crc5_one : (edition : Edition) (bits : HeaderBits) (r s : ℕ) → r ≡ crc5_of edition (header_bits bits.hi bits.lo) → s ≡ crc5_of edition (header_bits bits.hi bits.lo) → r ≡ s
crc5_one edition bits r s = one

pub worst_one : (patterns : List ℕ) (r s : ℕ) → r ≡ worst_of patterns → s ≡ worst_of patterns → r ≡ s
worst_one patterns r s = one

pub repair_words_one : (words : List ℕ) (r s : Result RepairedWords ℕ) → r ≡ repair_words_of words → s ≡ repair_words_of words → r ≡ s
repair_words_one words r s = one

pub call_sign_one : (satellite : ℕ) (r s : List ℕ) → r ≡ sign_of satellite → s ≡ sign_of satellite → r ≡ s
call_sign_one satellite r s = one

pub looks_at_one : (edition : Edition) (call : Option Bits) (r s : Bool) → r ≡ looks_at edition (is_some call) → s ≡ looks_at edition (is_some call) → r ≡ s
looks_at_one edition call r s = one

pub fault_at_one : (edition : Edition) (call : Option Bits) (r s : ℕ)
    → r ≡ fault_at (looked_at edition (call_in call)) → s ≡ fault_at (looked_at edition (call_in call)) → r ≡ s
fault_at_one edition call r s = one

pub other_at_one : (edition : Edition) (call : Option Bits) (satellite r s : ℕ)
    → r ≡ other_at (looked_at edition (call_in call)) satellite → s ≡ other_at (looked_at edition (call_in call)) satellite → r ≡ s
other_at_one edition call satellite r s = one

pub with_patterns_one : (answer : Answer) (patterns : List ℕ) (r s : Read) → r ≡ beside patterns answer → s ≡ beside patterns answer → r ≡ s
with_patterns_one answer patterns r s = one

pub satellite_one : (src_id r s : ℕ) → r ≡ satellite_of src_id → s ≡ satellite_of src_id → r ≡ s
satellite_one src_id r s = one

pub radio_one : (src_id r s : ℕ) → r ≡ radio_of src_id → s ≡ radio_of src_id → r ≡ s
radio_one src_id r s = one

pub last_source_one : (edition : Edition) (r s : ℕ) → r ≡ last_source_of edition → s ≡ last_source_of edition → r ≡ s
last_source_one edition r s = one

pub number_one : (self : Reason) (r s : ℕ) → r ≡ number_of self → s ≡ number_of self → r ≡ s
number_one self r s = one

pub at_one : (self : Reason) (place : ℕ) (r s : Refusal) → r ≡ refusal (number_of self) place → s ≡ refusal (number_of self) place → r ≡ s
at_one self place r s = one

pub from_values_one : (values : List ℕ) (r s : Fields) → r ≡ fields_from values → s ≡ fields_from values → r ≡ s
from_values_one values r s = one

pub values_one : (self : Fields) (r s : List ℕ) → r ≡ values_of self → s ≡ values_of self → r ≡ s
values_one self r s = one

pub usual_one : (edition : Edition) (r s : Rules) → r ≡ usual_rules edition → s ≡ usual_rules edition → r ≡ s
usual_one edition r s = one

pub unpack_one : (hi lo : ℕ) (r s : Header) → r ≡ halves_header hi lo → s ≡ halves_header hi lo → r ≡ s
unpack_one hi lo r s = one

pub read_header_one : (rules : Rules) (air : List ℕ) (r s : Read) → r ≡ header_read (signal rules air) → s ≡ header_read (signal rules air) → r ≡ s
read_header_one rules air r s = one

pub read_header_signed_one : (rules : Rules) (call air : List ℕ) (r s : Read) → r ≡ header_read (signed rules call air) → s ≡ header_read (signed rules call air) → r ≡ s
read_header_signed_one rules call air r s = one

pub read_header_in_one : (rules : Rules) (air : List ℕ) (r s : Read) → r ≡ header_read (signal rules air) → s ≡ header_read (signal rules air) → r ≡ s
read_header_in_one rules air r s = one

pub read_header_with_one : (rules : Rules) (call : Option Bits) (air : List ℕ) (r s : Read)
    → r ≡ header_read (signal_with rules (call_in call) air) → s ≡ header_read (signal_with rules (call_in call) air) → r ≡ s
read_header_with_one rules call air r s = one

-- the answer, and every byte of the output afterwards
pub write_header_one : (edition : Edition) (fields : Fields) (payload out : List ℕ) (r s : Written) (out-r out-s : List ℕ)
    → HeaderWritten edition fields payload out r out-r → HeaderWritten edition fields payload out s out-s → (r ≡ s) × (out-r ≡ out-s)
write_header_one edition fields payload out r s out-r out-s a b =
    let answers : r ≡ s = one a.answered b.answered in
    (answers, a.bytes ∙ ap (λ (w : Written). after_write w edition fields payload out) answers ∙ sym b.bytes)

pub read_frame_one : (rules : Rules) (air payload : List ℕ) (r s : Read) → r ≡ frame_read (frame rules air payload) → s ≡ frame_read (frame rules air payload) → r ≡ s
read_frame_one rules air payload r s = one

pub read_frame_signed_one : (rules : Rules) (call air payload : List ℕ) (r s : Read)
    → r ≡ frame_read (signed_frame rules call air payload) → s ≡ frame_read (signed_frame rules call air payload) → r ≡ s
read_frame_signed_one rules call air payload r s = one

pub read_frame_in_one : (rules : Rules) (air payload : List ℕ) (r s : Read) → r ≡ frame_read (frame rules air payload) → s ≡ frame_read (frame rules air payload) → r ≡ s
read_frame_in_one rules air payload r s = one

pub read_frame_with_one : (rules : Rules) (call : Option Bits) (air payload : List ℕ) (r s : Read)
    → r ≡ frame_read (frame_with rules (call_in call) air payload) → s ≡ frame_read (frame_with rules (call_in call) air payload) → r ≡ s
read_frame_with_one rules call air payload r s = one

pub read_page_one : (payload : List ℕ) (r s : PageAnswer) → r ≡ page_of payload → s ≡ page_of payload → r ≡ s
read_page_one payload r s = one

pub write_page_one : (rows : List ℤ) (out : List ℕ) (r s : Written) (out-r out-s : List ℕ)
    → PageWritten rows out out-r r → PageWritten rows out out-s s → (r ≡ s) × (out-r ≡ out-s)
write_page_one rows out r s out-r out-s a b = (one a.answer b.answer, one a.bytes b.bytes)

pub scaling_of_one : (row : ℕ) (r s : Scaling) → r ≡ scaling_of row → s ≡ scaling_of row → r ≡ s
scaling_of_one row r s = one

pub shown_one : (k : Scaling) (x : ℤ) (r s : ShownAnswer) → r ≡ shown_of k x → s ≡ shown_of k x → r ≡ s
shown_one k x r s = one

pub new_sheet_one : (r s : Sheet) → r ≡ new_sheet Flown → s ≡ new_sheet Flown → r ≡ s
new_sheet_one r s = one

-- the answer, and the whole sheet afterwards
pub offer_one : (sheet : Sheet) (rules : Rules) (air payload : List ℕ) (r s : Offered) → r ≡ offer_of Flown sheet (frame rules air payload) → s ≡ offer_of Flown sheet (frame rules air payload) → r ≡ s
offer_one sheet rules air payload r s = one

pub offer_signed_one : (sheet : Sheet) (rules : Rules) (call air payload : List ℕ) (r s : Offered)
    → r ≡ offer_of Flown sheet (signed_frame rules call air payload) → s ≡ offer_of Flown sheet (signed_frame rules call air payload) → r ≡ s
offer_signed_one sheet rules call air payload r s = one

pub accepted_one : (sheet : Sheet) (r s : ℕ) → r ≡ accepted_of Flown sheet → s ≡ accepted_of Flown sheet → r ≡ s
accepted_one sheet r s = one

pub refused_one : (sheet : Sheet) (r s : ℕ) → r ≡ refused_of sheet → s ≡ refused_of sheet → r ≡ s
refused_one sheet r s = one

pub heard_one : (sheet : Sheet) (r s : ℕ) → r ≡ heard_of Flown sheet → s ≡ heard_of Flown sheet → r ≡ s
heard_one sheet r s = one

pub full_one : (sheet : Sheet) (r s : Bool) → r ≡ full_of Flown sheet → s ≡ full_of Flown sheet → r ≡ s
full_one sheet r s = one

pub never_heard_one : (r s : Source) → r ≡ silent → s ≡ silent → r ≡ s
never_heard_one r s = one

pub next_one : (lane : Lane) (fr_cnt_tx flips : ℕ) (r s : Lane) → r ≡ next_of lane fr_cnt_tx flips → s ≡ next_of lane fr_cnt_tx flips → r ≡ s
next_one lane fr_cnt_tx flips r s = one

pub hear_one : (source : Source) (header : Header) (flips : ℕ) (r s : Source) → r ≡ hear_of source header flips → s ≡ hear_of source header flips → r ≡ s
hear_one source header flips r s = one

pub refuse_one : (counts : List ℕ) (number : ℕ) (r s : List ℕ) → r ≡ counts_after counts number → s ≡ counts_after counts number → r ≡ s
refuse_one counts number r s = one

pub counted_number_one : (k r s : ℕ) → r ≡ counted_at k → s ≡ counted_at k → r ≡ s
counted_number_one k r s = one

pub source_total_one : (counts : List ℕ) (r s : ℕ) → r ≡ total_in counts → s ≡ total_in counts → r ≡ s
source_total_one counts r s = one

pub source_frames_one : (source : Source) (r s : ℕ) → r ≡ frames_of source → s ≡ frames_of source → r ≡ s
source_frames_one source r s = one

pub summed_one : (source : Source) (r s : Display) → r ≡ summed_of source → s ≡ summed_of source → r ≡ s
summed_one source r s = one

pub display_of_one : (sheet : Sheet) (source : ℕ) (r s : Display) → r ≡ display_of Flown sheet source → s ≡ display_of Flown sheet source → r ≡ s
display_of_one sheet source r s = one

-- the same of the wide sheet
pub new_wide_sheet_one : (r s : WideSheet) → r ≡ widened (new_sheet Corrected) → s ≡ widened (new_sheet Corrected) → r ≡ s
new_wide_sheet_one r s = one

pub offer_wide_one : (sheet : WideSheet) (rules : Rules) (air payload : List ℕ) (r s : WideOffered)
    → r ≡ wide_offered (offer_of Corrected (held sheet) (frame rules air payload)) → s ≡ wide_offered (offer_of Corrected (held sheet) (frame rules air payload)) → r ≡ s
offer_wide_one sheet rules air payload r s = one

pub display_of_wide_one : (sheet : WideSheet) (source : ℕ) (r s : Display) → r ≡ display_of Corrected (held sheet) source → s ≡ display_of Corrected (held sheet) source → r ≡ s
display_of_wide_one sheet source r s = one

pub accepted_wide_one : (sheet : WideSheet) (r s : ℕ) → r ≡ accepted_of Corrected (held sheet) → s ≡ accepted_of Corrected (held sheet) → r ≡ s
accepted_wide_one sheet r s = one

pub refused_wide_one : (sheet : WideSheet) (r s : ℕ) → r ≡ refused_of (held sheet) → s ≡ refused_of (held sheet) → r ≡ s
refused_wide_one sheet r s = one

pub heard_wide_one : (sheet : WideSheet) (r s : ℕ) → r ≡ heard_of Corrected (held sheet) → s ≡ heard_of Corrected (held sheet) → r ≡ s
heard_wide_one sheet r s = one

pub full_wide_one : (sheet : WideSheet) (r s : Bool) → r ≡ full_of Corrected (held sheet) → s ≡ full_of Corrected (held sheet) → r ≡ s
full_wide_one sheet r s = one

pub unpacking_close_one : (left : ℕ) (r s : Bool) → r ≡ cut_with left → s ≡ cut_with left → r ≡ s
unpacking_close_one left r s = one

pub is_wrong_one : (judged : Judged) (r s : Bool) → r ≡ wrong_of judged → s ≡ wrong_of judged → r ≡ s
is_wrong_one judged r s = one

pub packing_open_one : (r s : Judged) → r ≡ opened → s ≡ opened → r ≡ s
packing_open_one r s = one

pub is_over_one : (ending : Ending) (r s : Bool) → r ≡ over_of ending → s ≡ over_of ending → r ≡ s
is_over_one ending r s = one

pub next_record_one : (rest : List ℕ) (r s : Cut) → r ≡ cut_of rest → s ≡ cut_of rest → r ≡ s
next_record_one rest r s = one

-- the answer, and every byte of the output afterwards
pub write_record_one : (edition : Edition) (fields : Fields) (payload out : List ℕ) (r s : Written) (out-r out-s : List ℕ)
    → RecordWritten edition fields payload out r out-r → RecordWritten edition fields payload out s out-s → (r ≡ s) × (out-r ≡ out-s)
write_record_one edition fields payload out r s out-r out-s a b =
    let answers : r ≡ s = one a.answered b.answered in
    (answers, a.bytes ∙ ap (λ (w : Written). after_record w edition fields payload out) answers ∙ sym b.bytes)

pub of_whole_one : (why : Refusal) (size : ℕ) (r s : Refusal) → r ≡ whole_of why size → s ≡ whole_of why size → r ≡ s
of_whole_one why size r s = one

pub letter_one : (src_id r s : ℕ) → r ≡ letter_of src_id → s ≡ letter_of src_id → r ≡ s
letter_one src_id r s = one

pub total_one : (tally : Tally) (r s : ℕ) → r ≡ total_of tally → s ≡ total_of tally → r ≡ s
total_one tally r s = one

pub heard_in_one : (counts : Counts) (r s : ℕ) → r ≡ records_heard counts → s ≡ records_heard counts → r ≡ s
heard_in_one counts r s = one

pub beesat_read_frame_one : (frame : List ℕ) (r s : FrameRead) → r ≡ read_of frame → s ≡ read_of frame → r ≡ s
beesat_read_frame_one frame r s = one

-- the answer, and every byte of the frame afterwards
pub write_field_one : (frame : List ℕ) (field value : ℕ) (r s : Written) (frame-r frame-s : List ℕ)
    → FieldWritten field value frame r frame-r → FieldWritten field value frame s frame-s → (r ≡ s) × (frame-r ≡ frame-s)
write_field_one frame field value r s frame-r frame-s a b =
    let answers : r ≡ s = one a.answered b.answered in
    (answers, a.bytes ∙ ap (λ (w : Written). after_field w field value frame) answers ∙ sym b.bytes)

-- a recording in pieces
pub fresh_one : (r s : State) → r ≡ fresh_state → s ≡ fresh_state → r ≡ s
fresh_one r s = one

pub take_one : (state : State) (piece : List ℕ) (r s : Taken) → r ≡ taken_of state piece → s ≡ taken_of state piece → r ≡ s
take_one state piece r s = one

pub find_one : (state : State) (piece : List ℕ) (at : ℕ) (r s : Step) → r ≡ step_of state piece at → s ≡ step_of state piece at → r ≡ s
find_one state piece at r s = one

pub new_one : (piece : Bor (List ℕ)) (r s : Reader) → r ≡ reader_at piece 0 → s ≡ reader_at piece 0 → r ≡ s
new_one piece r s = one

pub moved_one : (reader : Reader) (at : ℕ) (r s : Reader) → r ≡ reader_at reader.piece at → s ≡ reader_at reader.piece at → r ≡ s
moved_one reader at r s = one

pub mark_reader_next_one : (reader : Reader) (state : State) (r s : Step) → r ≡ step_of state reader.piece.now reader.at → s ≡ step_of state reader.piece.now reader.at → r ≡ s
mark_reader_next_one reader state r s = one

pub close_one : (reader : Reader) (state : State) (r s : Taken) → r ≡ taken_of state reader.piece.now → s ≡ taken_of state reader.piece.now → r ≡ s
close_one reader state r s = one

pub read_mark_one : (edition : Edition) (mark : Mark) (r s : Read) → r ≡ mark_read edition mark → s ≡ mark_read edition mark → r ≡ s
read_mark_one edition mark r s = one

pub read_mark_in_one : (edition : Edition) (mark : Mark) (r s : Read) → r ≡ mark_read edition mark → s ≡ mark_read edition mark → r ≡ s
read_mark_in_one edition mark r s = one

pub new_report_one : (r s : Report) → r ≡ fresh_report → s ≡ fresh_report → r ≡ s
new_report_one r s = one

pub add_page_one : (report : Report) (page : List ℤ) (r s : Added) → r ≡ added_of report page → s ≡ added_of report page → r ≡ s
add_page_one report page r s = one

pub row_of_one : (report : Report) (row : ℕ) (r s : Option Numbers) → r ≡ row_report_of report row → s ≡ row_report_of report row → r ≡ s
row_of_one report row r s = one

pub mean_of_one : (report : Report) (row : ℕ) (r s : Option Fraction) → r ≡ mean_of report row → s ≡ mean_of report row → r ≡ s
mean_of_one report row r s = one
