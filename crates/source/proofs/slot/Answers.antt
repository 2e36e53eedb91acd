-- `source::slot` meets its contract: the first place of the number, or past the last.
-- Assumes nothing.
use Rattle.std.proofs.Common.{ℕ, eqb, ◌∙◌, rules, tests}
use Rattle.std.proofs.lemmas.Iterator.{YieldsList-from_slice}
use Rattle.std.proofs.lemmas.Iterator.Search.{position_from_yields_List}
use Rattle.source.proofs.Counts.{slot_found}
use Rattle.source.proofs.slot.Goals as goal

pub returns : goal.returns
returns c =
    c.unwrap_or.ensures
    ∙ slot_found c.args.number c.position.result
    (position_from_yields_List (λ (x : ℕ). eqb c.args.number x) _ _ c.position.result c.position.ensures.ran (YieldsList-from_slice _ c.iter.ensures.rest) (λ x b q k. search (rules, tests)))
