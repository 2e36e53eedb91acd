-- How a header is read where no limit is named.
-- Assumes nothing.
use Rattle.std.specs.Prelude.{ℕ}
use Rattle.base.specs.declared.Edition.{Edition}
use Rattle.header.specs.declared.Rules.{Rules}

-- "a caller that names none had 42 and now gets 28"
abbrev pub usual_limit : ℕ
usual_limit = 28

abbrev pub usual_rules : Edition → Rules
usual_rules edition = record { edition = edition; limit = usual_limit }
