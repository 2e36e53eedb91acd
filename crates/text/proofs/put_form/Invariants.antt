-- `put_form` meets its contract. Invariant: what the letters so far say is put, with the first k numbers.
-- Assumes nothing.
use Rattle.text.proofs.Forming.{Forming}
use Rattle.text.proofs.put_form.Given as goal

abbrev pub invariant-loop-sign : goal.invariant-loop-sign
invariant-loop-sign l = Forming l.initial.out l.at l.form l.numbers l.piece l.out l.to l.sign-index l.k
