-- The example of a burst that is too long: a header of zeros for no payload, and its first air bits flipped.
-- Assumes nothing.
use Rattle.std.specs.Prelude.{cond, List, [], ℕ, ◌-◌, ltb, get_or}
use Rattle.base.specs.declared.Edition.TheVariants.{Flown}
use Rattle.base.specs.Lists.{tabulate}
use Rattle.air.specs.Air.{air_bits}
use Rattle.header.specs.Fields.{fields_from}
use Rattle.header.specs.Writing.{air_for}

-- all fields 0: what is written
unfoldable pub sent_zeros : List ℕ
sent_zeros = air_for Flown (fields_from []) []

-- its first k bits flipped
unfoldable pub burst_zeros : ℕ → List ℕ
burst_zeros k = tabulate air_bits (λ n. cond (ltb n k) (1 - get_or sent_zeros n 0) (get_or sent_zeros n 0))
