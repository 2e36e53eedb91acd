-- The kinds of records, by the bytes before them: from 0 on, in order.
-- Assumes nothing.
use Rattle.std.specs.Prelude.{ℕ, List, [], ◌∷◌, Option, slice_get}
use Rattle.marshalling.specs.declared.format.Kind.{Kind}
use Rattle.marshalling.specs.declared.format.Kind.TheVariants.{Words, Encode, Crc13, Crc5, Headers, Writes, Frames, Pages, Rows, Shown, Sheets, Sources, Wides, Signs, Calls, Beesat, Fields}

abbrev pub kinds : List Kind
kinds = Words ∷ Encode ∷ Crc13 ∷ Crc5 ∷ Headers ∷ Writes ∷ Frames ∷ Pages ∷ Rows ∷ Shown ∷ Sheets ∷ Sources ∷ Wides ∷ Signs ∷ Calls ∷ Beesat ∷ Fields ∷ []

abbrev pub kind_of : ℕ → Option Kind
kind_of byte = slice_get kinds byte
