-- The reader's answer, row by row of the paper's table: rows 20, 1, 2, 23 and 3, each behind those before it, and what is left to
-- the rows on the repaired header.
-- Assumes nothing.
use mathlib.Core.Path.{◌≡◌, sym, ap₂, ◌∙◌}
use mathlib.Core.List.{List, ◌∷◌}
use Rattle.std.specs.Prelude.{Result, Ok, Err}
use Prim.Native.Nat.{ℕ, ◌≤◌, ◌<◌}
use native.Mathlib.Omega.{arith}
use lib.ListN.{length, get_or}
use borrow.Author.Tests.{eq-eqb, ne_eqb, lt-ltb, le-ltb}
use Rattle.base.specs.declared.Refusal.{Refusal}
use Rattle.base.specs.Checks.{Check, first, refusal}
use Rattle.base.specs.Lists.{AreBits}
use Rattle.word.specs.Words.{word_limit}
use Rattle.air.specs.declared.RepairedWords.{RepairedWords}
use Rattle.air.specs.Air.{air_bits, word_count, words_of, first_no_bit}
use Rattle.air.specs.WordRepairs.{first_beyond, flips_in, all_repaired, stopped_at, repair_words_of}
use Rattle.air.specs.Flips.{most_flips}
use Rattle.air.proofs.Bits.{no_bit_none, are_bits, no_bit_le}
use Rattle.air.proofs.Answers.{AllRepaired, told_beyond, told_inside, told_all, repaired_words}
use Rattle.sign.specs.CallSigns.{sign_width}
use Rattle.sign.specs.Calls.{Call, looked_at, fault_at}
use Rattle.header.specs.declared.Accepted.{Accepted}
use Rattle.header.specs.declared.Rules.{Rules}
use Rattle.header.specs.Answers.{Answer, refused}
use Rattle.header.specs.Fields.{bits_of_words}
use Rattle.header_reader.specs.Reading.{Signal, signal_with, arrived, repaired_bits, not210_long, no_bit, no_call_sign, beyond_repair, header_checks, judged_of, repaired_answer, read_header_of, read_from, header_read}
use Rattle.header.specs.Patterns.{beside}

module _ (rules : Rules) (call : Call) (air : List ℕ) where
  abbrev s : Signal
  s = signal_with rules call air

  abbrev given : List (Check Answer) → Answer
  given rows = first (repaired_answer s) rows

  abbrev from_header : List (Check Answer)
  from_header = header_checks rules call (flips_in (arrived s)) (repaired_bits s)

  -- a refusal has no patterns beside it: why is the one that was made
  module _ (why : Refusal) (number place : ℕ) (made : why ≡ refusal number place) where
    alone : refused (refusal number place) ≡ read_header_of (signal_with rules call air) → read_from (Err why) ≡ header_read (signal_with rules call air)
    unfolding header_read
    alone e = rw (made, ← e)

  refuses_20 : most_flips < rules.limit → refused (refusal 20 rules.limit) ≡ read_header_of (signal_with rules call air)
  unfolding read_header_of
  refuses_20 above = rw (lt-ltb most_flips rules.limit above)

  pub gives_20 : (why : Refusal) → why ≡ refusal 20 rules.limit → most_flips < rules.limit → read_from (Err why) ≡ header_read (signal_with rules call air)
  gives_20 why made above = alone why 20 rules.limit made (refuses_20 above)

  module _ (allowed : rules.limit ≤ most_flips) where
    past_20 : given (not210_long s ∷ no_bit s ∷ no_call_sign s ∷ beyond_repair s ∷ from_header) ≡ read_header_of (signal_with rules call air)
    unfolding read_header_of
    past_20 = rw (le-ltb most_flips rules.limit allowed)

    pub gives_1 : (why : Refusal) → why ≡ refusal 1 (length air) → (length air ≡ air_bits → ⊥) → read_from (Err why) ≡ header_read (signal_with rules call air)
    gives_1 why made differs = alone why 1 (length air) made (rw (← past_20, ne_eqb (length air) air_bits differs))

    module _ (long : length air ≡ air_bits) where
      past_1 : given (no_bit s ∷ no_call_sign s ∷ beyond_repair s ∷ from_header) ≡ read_header_of (signal_with rules call air)
      past_1 = rw (← past_20, eq-eqb (length air) air_bits long)

      pub gives_2 : (why : Refusal) (at : ℕ) → why ≡ refusal 2 at → at ≡ first_no_bit air → at < air_bits → read_from (Err why) ≡ header_read (signal_with rules call air)
      gives_2 why at made is h = alone why 2 at made (rw (← past_1, ← is, lt-ltb at air_bits h))

      module _ (bits : AreBits air) where
        past_2 : given (no_call_sign s ∷ beyond_repair s ∷ from_header) ≡ read_header_of (signal_with rules call air)
        past_2 = rw (← past_1, le-ltb (first_no_bit air) air_bits (omega (arith, long, no_bit_none air bits)))

        pub gives_23 : (why : Refusal) (at : ℕ) → why ≡ refusal 23 at → at ≡ fault_at (looked_at rules.edition call) → (at ≡ sign_width → ⊥) → read_from (Err why) ≡ header_read (signal_with rules call air)
        gives_23 why at made is differs = alone why 23 at made (rw (← past_2, ← is, ne_eqb at sign_width differs))

        module _ (sound : fault_at (looked_at rules.edition call) ≡ sign_width) (words : List ℕ) (gathered : words ≡ words_of air) where
          past_23 : given (beyond_repair s ∷ from_header) ≡ read_header_of (signal_with rules call air)
          past_23 = rw (← past_2, eq-eqb (fault_at (looked_at rules.edition call)) sign_width sound)

          pub gives_3 : (answer : Result RepairedWords ℕ) (place : ℕ) (why : Refusal) → why ≡ refusal 3 place → answer ≡ repair_words_of words → answer ≡ stopped_at place
              → read_from (Err why) ≡ header_read (signal_with rules call air)
          gives_3 answer place why made told stops =
              let is : stopped_at place ≡ repair_words_of words = sym stops ∙ told in
              let lowest : place ≡ first_beyond (arrived s) = rw gathered at (told_beyond words place is) in
              alone why 3 place made (rw (← past_23, ← lowest, lt-ltb place word_count (told_inside words place is)))

          module _ (answer : Result RepairedWords ℕ) (m : RepairedWords) (told : answer ≡ repair_words_of words) (all : answer ≡ all_repaired m)
              (judged : Answer) (e : judged ≡ judged_of rules call m.flips (bits_of_words m.words)) where
            leaves : beside m.patterns judged ≡ header_read (signal_with rules call air)
            unfolding header_read
            leaves =
                let so : AllRepaired (arrived s) m = rw gathered at (told_all words m (sym all ∙ told)) in
                let same : judged ≡ read_header_of (signal_with rules call air) = rw (← past_23, e, so.all, so.counted, le-ltb (first_beyond (arrived s)) word_count (omega (arith, so.none_beyond))) in
                ap₂ beside so.patterned same

            pub leaves_accepted : (a : Accepted) → judged ≡ Ok a → read_from (Ok (a, m.patterns)) ≡ header_read (signal_with rules call air)
            leaves_accepted a is = rw is at leaves

            pub leaves_refused : (why : Refusal) → judged ≡ refused why → read_from (Err why) ≡ header_read (signal_with rules call air)
            leaves_refused why is = rw is at leaves

-- the words that are left for the rows that follow
pub repaired : (m : RepairedWords) (words : List ℕ) → all_repaired m ≡ repair_words_of words → (k : ℕ) → get_or m.words k 0 < word_limit
repaired m words is k = rw (told_all words m is).all (repaired_words words k)

pub no_fault : (call : Call) (at : ℕ) → at ≡ fault_at call → at ≡ sign_width → fault_at call ≡ sign_width
no_fault call at is long = sym is ∙ long

pub all_bits_lem : (air : List ℕ) → length air ≡ air_bits → (at : ℕ) → at ≡ first_no_bit air → air_bits ≤ at → AreBits air
all_bits_lem air long at is h = are_bits air (omega (arith, long, is, no_bit_le air))
