-- `sheet::Sheet::offer_with` meets its contract: a full sheet gives 17, a frame of the other edition 22, and any other frame is taken.
-- Assumes nothing.
use borrow.Author.Rules.{rules}
use Rattle.sheet.specs.Sheets.{held, sized_offered, edition_with}
use Rattle.sheet.proofs.Offering.{gives_17, has_room, mine, gives_22}
use Rattle.sheet.proofs.Sheet.offer_with.Goals as goal

pub returns-then-full : goal.returns-then-full
returns-then-full g c = search (rules, gives_17 (edition_with g.row.N) (held {n = g.row.N}) (sized_offered g.row.N))

pub returns : goal.returns
returns g c = search (rules, gives_22 (edition_with g.row.N) (held {n = g.row.N}) (sized_offered g.row.N))
