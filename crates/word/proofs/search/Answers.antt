use borrow.Author.Rules.{rules}
use Prim.Native.Nat.{◌<◌}
use native.Mathlib.Omega.{arith}
use lib.Bits.{bit_xor}
use lib.Count.{ones}
use Rattle.word.proofs.Answer.{repair_above}
use Rattle.word.proofs.Turns.{search_starts, search_goes_on, search_stops, search_ends}
use Rattle.word.proofs.search.Goals as goal

pub returns-then-w-ge-WORD_LIMIT : goal.returns-then-w-ge-WORD_LIMIT
returns-then-w-ge-WORD_LIMIT c = search (rules, repair_above)

pub loop-q-init : goal.loop-q-init
loop-q-init c = search (rules, search_starts)

pub loop-q-preserved : goal.loop-q-preserved
loop-q-preserved c =
    let turn = c in
    let more : turn.loop-q.q < 32 = omega arith in
    let far : 3 < ones (bit_xor turn.args.w c.multiple-v.result) = omega arith in
    search (rules, search_goes_on)

pub returns : goal.returns
returns c = search (rules, search_ends)

pub returns-then-flips-le-RADIUS : goal.returns-then-flips-le-RADIUS
returns-then-flips-le-RADIUS c = search (rules, search_stops)
