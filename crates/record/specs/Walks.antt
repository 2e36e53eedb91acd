-- Records of an input one after the other, whatever is made of each: what is kept from one to the next, and the text of each.
-- Assumes nothing.
use Rattle.std.specs.Prelude.{Bool, true, false, cond, List, ℕ}
use Rattle.walk.specs.Walks.{Front, whole, stops, waits, Walk, Ended, waiting, stopped}
use Rattle.record.specs.declared.Ending.{Ending}
use Rattle.record.specs.declared.Ending.TheVariants.{Waits, Full, TooLong as LongLength}
use Rattle.record.specs.declared.Cut.{Cut}
use Rattle.record.specs.declared.Cut.TheVariants.{Record, TooLong, Short}
use Rattle.record.specs.Records.{air_in, payload_in, record_size, cut_of}

-- how a walk ended, as the code says it
abbrev pub ended_as : Ending → Ended Ending
ended_as Waits = waiting
ended_as LongLength = stopped LongLength
ended_as Full = stopped Full

abbrev pub over_of : Ending → Bool
over_of Waits = false
over_of LongLength = true
over_of Full = true

-- "A length over 1,023 .. stops", and so does a further record where none is taken any more
abbrev pub record_front : Bool → Cut → Front ℕ Ending
record_front full (Record n) = cond full (stops Full) (whole n)
record_front full TooLong = stops LongLength
record_front full Short = waits

-- what a walk makes of records: whether no record is taken any more, what is kept after a record with this header and this payload, and its text
pub record Reading (S : Type 0) : Type 0 where
  pub full : S → Bool
  pub next : S → List ℕ → List ℕ → S
  pub text : S → List ℕ → List ℕ → List ℕ

abbrev pub record_walk : {S : Type 0} → Reading S → Walk S ℕ Ending
record_walk reading = record {
  cut = λ s l. record_front (reading.full s) (cut_of l);
  size = record_size;
  next = λ s n l. reading.next s (air_in l) (payload_in n l);
  text = λ s n l. reading.text s (air_in l) (payload_in n l);
}
