-- REQUEST d. A header written under one edition and read under the other. "A header written under one edition with SrcId to 7 reads the same
-- under the other where bits 32 to 35 are zero, and is refused there with 4 where any of them is set."
-- Under the corrected edition "check 5 isn't made": it applies to no header.
-- Assumes nothing.
use mathlib.Core.Path.{◌≡◌}
use mathlib.Core.Bool.{false}
use mathlib.Core.List.{List}
use Prim.Native.Nat.{ℕ, ◌≤◌, ◌<◌}
use lib.ListN.{take}
use Rattle.base.specs.declared.Edition.{Edition}
use Rattle.base.specs.declared.Edition.TheVariants.{Corrected}
use Rattle.base.specs.Written.{done}
use Rattle.base.specs.Checks.{refusal}
use Rattle.crc.specs.Crc5.{header_bit, crc5_of}
use Rattle.air.specs.Air.{air_bits}
use Rattle.air.specs.Flips.{most_flips}
use Rattle.header.specs.declared.Fields.{Fields}
use Rattle.header.specs.declared.Rules.{Rules}
use Rattle.header.specs.Answers.{accepted, refused}
use Rattle.header_reader.specs.Reading.{signal, unknown_source, read_header_of}
use Rattle.header.specs.Writing.{bits_for, header_for, HeaderWritten}
use Rattle.header.proofs.WrittenAir.{Sent, sent}
use Rattle.header_reader.proofs.OtherEdition.{corrected_no_5, reads_same, refused_4}

-- 5 is given under the flown edition only
pub never_5 : (n : ℕ) → (unknown_source Corrected n).applies ≡ false
never_5 = corrected_no_5

-- written under one edition, with a SrcId that the flown edition knows, and read under some rules, whatever their edition
module _ (edition : Edition) (f : Fields) (payload before after : List ℕ) (written : HeaderWritten edition f payload before done after)
    (known : f.src_id ≤ 7) (rules : Rules) (allowed : rules.limit ≤ most_flips) where
  so : Sent edition f payload after
  so = sent edition f payload before after written

  -- "reads the same under the other where bits 32 to 35 are zero"
  pub read_under_other : ((k : ℕ) → 32 ≤ k → k < 36 → header_bit (bits_for edition f payload) k ≡ 0)
      → read_header_of (signal rules (take air_bits after)) ≡ accepted (header_for edition f payload) 0
  read_under_other = rw so.air (reads_same edition f payload so.writable known rules allowed)

  -- "and is refused there with 4 where any of them is set"
  pub refused_under_other : (rules.edition ≡ edition → ⊥) → (k : ℕ) → 32 ≤ k → k < 36 → header_bit (bits_for edition f payload) k ≡ 1
      → read_header_of (signal rules (take air_bits after)) ≡ refused (refusal 4 (crc5_of rules.edition (bits_for edition f payload)))
  refused_under_other = rw so.air (refused_4 edition f payload so.writable rules allowed)
