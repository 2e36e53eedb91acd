-- For contracts inside: the parts of a record, as they are lent.
-- Assumes nothing.
use Rattle.std.specs.Prelude.{◌≡◌, List, ℕ, length, drop}
use Rattle.record.specs.declared.Parts.{Parts}
use Rattle.record.specs.Records.{air_in, payload_in, record_size}

-- those of the record at the front of some bytes, which has n payload bytes
pub record PartsIn (n : ℕ) (l : List ℕ) (parts : Parts) : Type 0 where
  pub header_is : parts.header.now ≡ air_in l
  pub payload_is : parts.payload.now ≡ payload_in n l
  pub payload_size : length parts.payload.now ≡ n
  pub rest_is : parts.rest.now ≡ drop (record_size n) l
