-- `accept_bits` meets its contract: rows 2, 23 and 3, or what the later rows say of the repaired words.
-- Assumes nothing.
use mathlib.Core.Path.{◌≡◌}
use borrow.Author.Rules.{rules}
use Rattle.std.proofs.lemmas.Result.{err_from_is_err_and}
use Rattle.header.specs.Answers.{refused}
use Rattle.header_reader.proofs.Rows.{gives_2, gives_23, gives_3, no_fault, all_bits_lem, repaired, leaves_accepted, leaves_refused}
use Rattle.header_reader.proofs.accept_bits.Goals as goal

pub returns-then-at-lt-AIR_BITS : goal.returns-then-at-lt-AIR_BITS
returns-then-at-lt-AIR_BITS c = search (rules, gives_2)

pub returns-then-fault-ne-SIGN_BITS : goal.returns-then-fault-ne-SIGN_BITS
returns-then-fault-ne-SIGN_BITS c = search (rules, gives_23, all_bits_lem)

pub invariant_of-words : goal.invariant_of-words
invariant_of-words c = search (rules, all_bits_lem)

pub returns-in-Err : goal.returns-in-Err
returns-in-Err c = search (rules, gives_3, all_bits_lem, no_fault, c.at-in-Err.ensures, c.in-Err.is)

pub judge_words-requires : goal.judge_words-requires
judge_words-requires c = search (rules, repaired)

pub returns-in_err-accepted : goal.returns-in_err-accepted
returns-in_err-accepted c =
    let so = c.judge_words.ensures in
    let e : c.judge_words.result ≡ refused c.in_err-accepted.field-0.0 = c.in_err-accepted.was in
    let left = err_from_is_err_and c.from_residual.result c.from_residual.ensures.1 in
    rw (left.1, left.2) (search (rules, leaves_refused, all_bits_lem, no_fault))

pub returns : goal.returns
returns c = search (rules, leaves_accepted, all_bits_lem, no_fault)
