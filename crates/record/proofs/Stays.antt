-- What stands at the front of some bytes stays, whatever follows, unless it is too little for a record.
-- Assumes nothing.
use mathlib.Core.Path.{◌≡◌, sym, ◌∙◌}
use mathlib.Core.List.{List, ◌++◌}
use Prim.Native.Nat.{ℕ, ◌+◌, ◌≤◌}
use native.Mathlib.Omega.{arith}
use lib.ListN.{length, take, drop, length-append, length-drop, get_or-append}
use lib.Seq.{take-append-le, drop-append-le}
use Rattle.air.specs.Air.{air_bits}
use Rattle.record.specs.declared.Cut.TheVariants.{Record, TooLong}
use Rattle.record.specs.Records.{length_bytes, length_in, air_in, payload_start, payload_in, cut_of}
use Rattle.record.proofs.Cuts.{too_long, is_whole, WholeAt, whole_at, long_at}

module _ (l f : List ℕ) where
  longer : length l ≤ length (l ++ f)
  longer = omega (arith, length-append l f)

  length_stays : length_bytes ≤ length l → length_in (l ++ f) ≡ length_in l
  length_stays two = rw (get_or-append l f 0 0 (omega arith), get_or-append l f 0 1 (omega arith))

  pub long_stays : cut_of l ≡ TooLong → cut_of (l ++ f) ≡ TooLong
  long_stays e =
      let so = long_at l e in
      sym (too_long (l ++ f) (omega (arith, so.two, longer)) (length_in l) (sym (length_stays so.two)) so.over)

  module _ (n : ℕ) (e : cut_of l ≡ Record n) where
    so : WholeAt l n
    so = whole_at l n e

    part_stays : (from size : ℕ) → from + size ≤ length l → take size (drop from (l ++ f)) ≡ take size (drop from l)
    part_stays from size h = rw (drop-append-le from l f (omega arith)) (take-append-le size (drop from l) f (omega (arith, length-drop from l)))

    pub whole_stays : cut_of (l ++ f) ≡ Record n
    whole_stays =
        let two : length_bytes ≤ length l = omega (arith, so.there) in
        sym (is_whole (l ++ f) (omega (arith, longer)) n (so.is ∙ sym (length_stays two)) so.within (omega (arith, so.there, longer)))

    pub air_stays : air_in (l ++ f) ≡ air_in l
    air_stays = part_stays length_bytes air_bits (omega (arith, so.there))

    pub payload_stays : payload_in n (l ++ f) ≡ payload_in n l
    payload_stays = part_stays payload_start n so.there
