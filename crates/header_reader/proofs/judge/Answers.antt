-- `judge` meets its contract: the tests passed say which row is the first that applies.
-- Assumes nothing.
use borrow.Author.Rules.{rules}
use Rattle.header_reader.proofs.Judging.{gives_4, gives_5, gives_24, gives_6, reads}
use Rattle.header_reader.proofs.judge.Goals as goal

pub returns-then-crc5-header : goal.returns-then-crc5-header
returns-then-crc5-header c = search (rules, gives_4)

pub returns-then-last_source-src_id : goal.returns-then-last_source-src_id
returns-then-last_source-src_id c = search (rules, gives_5)

pub returns-then-other_at-lt-SIGN_BITS : goal.returns-then-other_at-lt-SIGN_BITS
returns-then-other_at-lt-SIGN_BITS c = search (rules, gives_24)

pub returns-then-ai_type_src-gt-LAST_CODING : goal.returns-then-ai_type_src-gt-LAST_CODING
returns-then-ai_type_src-gt-LAST_CODING c = search (rules, gives_6)

pub returns : goal.returns
returns c = search (rules, reads)
