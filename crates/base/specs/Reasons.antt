-- The numbers of the paper's table.
-- Assumes nothing.
use Rattle.std.specs.Prelude.{ℕ}
use Rattle.base.specs.declared.Reason.{Reason}
use Rattle.base.specs.declared.Reason.TheVariants.{Not210Long, NoBit, BeyondRepair, Crc5Differs, UnknownSource, UnknownCoding, OtherLength, Crc13Differs, LimitAbove42, FlipsAboveLimit, OtherEdition, NoCallSign, OtherCallSign, NoPageHeader, NoTimeTag, OtherFrameLength, FewUserBytes, ShortOutput, OutOfRange, LongPayload, NoSpread, SheetFull, ShortPageOutput, NoBitInPiece, LongRecording, Not144Bytes, MarkerDiffers, ErrorFieldDiffers, FixedValueDiffers, ValueTooLarge, NoSuchField, ReportFull}

abbrev pub number_of : Reason → ℕ
number_of Not210Long = 1
number_of NoBit = 2
number_of BeyondRepair = 3
number_of Crc5Differs = 4
number_of UnknownSource = 5
number_of UnknownCoding = 6
number_of OtherLength = 7
number_of Crc13Differs = 8
number_of LimitAbove42 = 20
number_of FlipsAboveLimit = 21
number_of OtherEdition = 22
number_of NoCallSign = 23
number_of OtherCallSign = 24
number_of NoPageHeader = 9
number_of NoTimeTag = 10
number_of OtherFrameLength = 11
number_of FewUserBytes = 12
number_of ShortOutput = 13
number_of OutOfRange = 14
number_of LongPayload = 15
number_of NoSpread = 16
number_of SheetFull = 17
number_of ShortPageOutput = 18
number_of NoBitInPiece = 19
number_of LongRecording = 37
number_of Not144Bytes = 25
number_of MarkerDiffers = 26
number_of ErrorFieldDiffers = 27
number_of FixedValueDiffers = 28
number_of ValueTooLarge = 29
number_of NoSuchField = 38
number_of ReportFull = 30
