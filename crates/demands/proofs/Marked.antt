-- The paper's marked examples: "Proved as a single table under one statement".
-- Assumes nothing.
use mathlib.Core.Path.{refl}
use mathlib.Core.List.{flat_map}
use lib.Count.{ones_in}
use lib.Dec.{lit<}
use Rattle.base.specs.Lists.{tabulate, lowest}
use Rattle.word.specs.Words.{multiple_of, distance}
use Rattle.word.specs.Repairs.{nearest, repair_of}
use Rattle.crc.specs.Crc.{crc_step, crc13_of}
use Rattle.crc.specs.Crc5.{message, nine_bytes, crc5_over, counted_flown, crc5_of}
use Rattle.header.proofs.Places.{bit_travels}
use Rattle.demands.specs.Examples.{AllHold, examples}

pub marked : AllHold examples
unfolding repair_of nearest lowest multiple_of distance ones_in tabulate flat_map crc_step crc13_of message nine_bytes crc5_over counted_flown crc5_of
marked = (
  refl,
  (
    refl,
    (
      refl,
      (
        refl,
        (
          refl,
          (
            refl,
            (
              (λ n. bit_travels n 0 (lit< tt)),
              (
                (λ n. bit_travels n 69 (lit< tt)),
                (refl, (refl, (refl, (refl, (refl, (refl, (refl, (refl, (refl, tt))))))))),
              ),
            ),
          ),
        ),
      ),
    ),
  ),
)
