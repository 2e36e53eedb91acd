-- `crc::steps::whole` meets its contract: the constant is the list that is computed from the rule, all 256 steps of it.
-- Assumes nothing.
use mathlib.Core.Path.{refl}
use Rattle.base.specs.Lists.{tabulate}
use Rattle.crc.specs.Crc.{crc_step}
use Rattle.crc.specs.Steps.{step_of, steps_of}
use Rattle.crc.proofs.steps.whole.Goals as goal

pub returns : goal.returns
unfolding tabulate crc_step step_of steps_of
returns c = refl
