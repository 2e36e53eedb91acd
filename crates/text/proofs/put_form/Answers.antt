use borrow.Author.Rules.{rules}
use Rattle.text.proofs.Forming.{starts, has_number, number_fits, puts_number, has_letter, letter_fits, puts_letter, piece_fits, puts_piece, plain_fits, puts_plain, ends, ends_short}
use Rattle.text.proofs.put_form.Goals as goal

pub loop-sign-init : goal.loop-sign-init
loop-sign-init c = search (rules, starts)

pub offset_bounds-numbers-k : goal.offset_bounds-numbers-k
offset_bounds-numbers-k c = search (rules, has_number)

pub bounds-numbers-k : goal.bounds-numbers-k
bounds-numbers-k c = search (rules, has_number)

pub put_decimal-to-requires : goal.put_decimal-to-requires
put_decimal-to-requires c = search (rules, number_fits)

pub overflow_add-k : goal.overflow_add-k
overflow_add-k c = search (rules, has_number)

pub loop-sign-preserved-then-sign-eq37 : goal.loop-sign-preserved-then-sign-eq37
loop-sign-preserved-then-sign-eq37 c = search (rules, puts_number)

pub offset_bounds-numbers-k-then-sign-eq35 : goal.offset_bounds-numbers-k-then-sign-eq35
offset_bounds-numbers-k-then-sign-eq35 c = search (rules, has_letter)

pub bounds-numbers-k-then-sign-eq35 : goal.bounds-numbers-k-then-sign-eq35
bounds-numbers-k-then-sign-eq35 c = search (rules, has_letter)

pub bounds-out-to : goal.bounds-out-to
bounds-out-to c = search (rules, letter_fits)

pub overflow_add-to : goal.overflow_add-to
overflow_add-to c = search (rules, letter_fits)

pub overflow_add-k-then-sign-eq35 : goal.overflow_add-k-then-sign-eq35
overflow_add-k-then-sign-eq35 c = search (rules, has_letter)

pub loop-sign-preserved-then-sign-eq35 : goal.loop-sign-preserved-then-sign-eq35
loop-sign-preserved-then-sign-eq35 c = search (rules, puts_letter)

pub put_text-to-requires : goal.put_text-to-requires
put_text-to-requires c = search (rules, piece_fits)

pub loop-sign-preserved-then-sign-eq38 : goal.loop-sign-preserved-then-sign-eq38
loop-sign-preserved-then-sign-eq38 c = search (rules, puts_piece)

pub bounds-out-to-in-loop-sign : goal.bounds-out-to-in-loop-sign
bounds-out-to-in-loop-sign c = search (rules, plain_fits)

pub overflow_add-to-in-loop-sign : goal.overflow_add-to-in-loop-sign
overflow_add-to-in-loop-sign c = search (rules, plain_fits)

pub loop-sign-preserved : goal.loop-sign-preserved
loop-sign-preserved c = search (rules, puts_plain)

pub returns : goal.returns
returns c = search (rules, ends, ends_short)
