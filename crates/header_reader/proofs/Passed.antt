-- Rows of the paper's table that are past, by name: for each table what holds where none of its rows applies.
-- Assumes nothing.
use mathlib.Core.Path.{◌≡◌}
use Prim.Native.Nat.{ℕ, ◌≤◌}
use native.Mathlib.Omega.{arith}
use lib.ListN.{length}
use borrow.Author.Tests.{le-ltb, ltb-false}
use Rattle.base.specs.Lists.{AreBits}
use Rattle.base.proofs.First.{NoneApplies}
use Rattle.base.proofs.Tests.{differs_not, not_differs}
use Rattle.crc.specs.Crc5.{crc5_of}
use Rattle.air.specs.Air.{word_count, air_bits, first_no_bit}
use Rattle.air.specs.WordRepairs.{first_beyond}
use Rattle.air.specs.Flips.{most_flips}
use Rattle.air.proofs.Bits.{are_bits, no_bit_none, no_bit_le}
use Rattle.air.proofs.Answers.{beyond_le}
use Rattle.sign.specs.CallSigns.{sign_width}
use Rattle.sign.specs.Calls.{Call, looked_at, fault_at, other_at}
use Rattle.header.specs.declared.Rules.{Rules}
use Rattle.header.specs.Fields.{last_source_of, last_coding, satellite_of, header_of}
use Rattle.header_reader.specs.Reading.{Signal, arrived, air_checks, header_checks}

-- 20, 1, 2, 23, 3
pub record AirPassed (s : Signal) : Type 0 where
  pub allowed : s.rules.limit ≤ most_flips
  pub long : length s.air ≡ air_bits
  pub bits : AreBits s.air
  pub sound_call : fault_at (looked_at s.rules.edition s.call) ≡ sign_width
  pub repairable : first_beyond (arrived s) ≡ word_count

module _ (s : Signal) where
  pub air_passed : NoneApplies (air_checks s) → AirPassed s
  air_passed none =
      let long : length s.air ≡ air_bits = not_differs (length s.air) air_bits none.1.0 in
      record {
        allowed = ltb-false most_flips s.rules.limit none.0;
        long = long;
        bits = are_bits s.air (omega (arith, long, no_bit_le s.air, ltb-false (first_no_bit s.air) air_bits none.1.1.0));
        sound_call = not_differs (fault_at (looked_at s.rules.edition s.call)) sign_width none.1.1.1.0;
        repairable = omega (arith, beyond_le (arrived s), ltb-false (first_beyond (arrived s)) word_count none.1.1.1.1.0);
      }

  pub air_passes : AirPassed s → NoneApplies (air_checks s)
  air_passes so = (
    le-ltb most_flips s.rules.limit so.allowed,
    (
      differs_not (length s.air) air_bits so.long,
      (
        le-ltb (first_no_bit s.air) air_bits (omega (arith, so.long, no_bit_none s.air so.bits)),
        (
          differs_not (fault_at (looked_at s.rules.edition s.call)) sign_width so.sound_call,
          (le-ltb (first_beyond (arrived s)) word_count (omega (arith, so.repairable)), tt),
        ),
      ),
    ),
  )

-- 21, 4, 5, 24, 6
pub record HeaderPassed (rules : Rules) (call : Call) (flips n : ℕ) : Type 0 where
  pub within : flips ≤ rules.limit
  pub same_crc5 : crc5_of rules.edition n ≡ (header_of n).«crc5»
  pub known_source : (header_of n).«fields».src_id ≤ last_source_of rules.edition
  pub same_sign : sign_width ≤ other_at (looked_at rules.edition call) (satellite_of (header_of n).«fields».src_id)
  pub known_coding : (header_of n).«fields».ai_type_src ≤ last_coding

module _ (rules : Rules) (call : Call) (flips n : ℕ) where
  pub header_passed : NoneApplies (header_checks rules call flips n) → HeaderPassed rules call flips n
  header_passed none = record {
    within = ltb-false rules.limit flips none.0;
    same_crc5 = not_differs (crc5_of rules.edition n) (header_of n).«crc5» none.1.0;
    known_source = ltb-false (last_source_of rules.edition) (header_of n).«fields».src_id none.1.1.0;
    same_sign = ltb-false (other_at (looked_at rules.edition call) (satellite_of (header_of n).«fields».src_id)) sign_width none.1.1.1.0;
    known_coding = ltb-false last_coding (header_of n).«fields».ai_type_src none.1.1.1.1.0;
  }

  pub header_passes : HeaderPassed rules call flips n → NoneApplies (header_checks rules call flips n)
  header_passes so = (
    le-ltb rules.limit flips so.within,
    (
      differs_not (crc5_of rules.edition n) (header_of n).«crc5» so.same_crc5,
      (
        le-ltb (last_source_of rules.edition) (header_of n).«fields».src_id so.known_source,
        (
          le-ltb (other_at (looked_at rules.edition call) (satellite_of (header_of n).«fields».src_id)) sign_width so.same_sign,
          (le-ltb last_coding (header_of n).«fields».ai_type_src so.known_coding, tt),
        ),
      ),
    ),
  )
