-- Changes of a header's 70 bits, and whether CRC5 sees them: what request n speaks of.
-- Assumes nothing.
use Rattle.std.specs.Prelude.{◌≡◌, ℕ, ◌+◌, ◌^◌, ◌<◌}
use Rattle.base.specs.declared.Edition.{Edition}
use Rattle.base.specs.declared.Edition.TheVariants.{Flown}
use Rattle.base.specs.Lists.{how_many}
use Rattle.crc.specs.Crc5.{header_width, header_bit, changed_in, crc5_of, Counts}
use Rattle.header.specs.Fields.{header_of}

-- "a header whose CRC5 is right": the one worked out is the one that it carries
abbrev pub Right : Edition → ℕ → Type 0
Right edition n = crc5_of edition n ≡ (header_of n).«crc5»

-- how many of its 70 bits were changed
unfoldable pub changes : ℕ → ℕ → ℕ
changes n m = how_many header_width (changed_in n m)

-- none but bits 32 to 35, "those four", was changed
abbrev pub FourAlone : ℕ → ℕ → Type 0
FourAlone n m = (k : ℕ) → k < header_width → Counts Flown k → header_bit n k ≡ header_bit m k

-- a header of zeros with its CRC5, and the same with bits 0 and 17 changed
abbrev pub zeros : ℕ
zeros = 6

abbrev pub two_changed : ℕ
two_changed = 2 ^ 69 + 2 ^ 52 + 6
