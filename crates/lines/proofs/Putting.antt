-- Lines put together from their parts.
-- Assumes nothing.
use mathlib.Core.Path.{◌≡◌, sym, subst}
use mathlib.Core.Bool.{Bool, true, false}
use mathlib.Core.List.{List, [], ◌∷◌, ◌++◌, append-nil}
use Prim.Native.Nat.{ℕ, ◌%◌, ◌^◌, ◌<◌}
use native.Mathlib.Omega.{arith}
use Rattle.base.specs.declared.Refusal.{Refusal}
use Rattle.base.specs.declared.Edition.{Edition}
use Rattle.base.specs.declared.Edition.TheVariants.{Flown, Corrected}
use Rattle.text.specs.Text.{ascii, decimal_of, Put}
use Rattle.text.specs.Forms.{form_of}
use Rattle.text.proofs.Laid.{put_then}
use Rattle.text.proofs.FormParts.{form_three, put_forms}
use Rattle.header.specs.declared.Header.{Header}
use Rattle.air.specs.WordRepairs.{worst_of}
use Rattle.header.specs.declared.Read.{Read}
use Rattle.header.specs.Answers.{accepted, refused}
use Rattle.header.specs.Fields.{radio_of}
use Rattle.lines.specs.declared.Tally.{Tally}
use Rattle.lines.specs.Tallies.{total_of}
use Rattle.lines.specs.Lines.{title, letter_of, accepted_line, refused_line, line_of, last_line, cut_line, closing_of}
use Rattle.lines.specs.Rooms.{speaker_of, opening_of, damage_of}

module _ {l m : List ℕ} {at next : ℕ} where
  -- the first line
  pub put_title : Put l at (ascii "pass sheet\n") m next → Put l at title m next
  unfolding title
  put_title put = put

  -- the line of an accepted record, and of a refused one
  pub line_accepted : (edition : Edition) (k bytes : ℕ) (r : Read) (h : Header) (flips worst : ℕ) → r.answer ≡ accepted h flips → worst ≡ worst_of r.patterns
      → Put l at (accepted_line edition k h.«fields».src_id h.«fields».fr_cnt_tx flips worst (ascii " bytes ") bytes) m next → Put l at (line_of edition k bytes r) m next
  line_accepted edition k bytes r h flips worst e found put = rw (e, ← found) put

  pub line_refused : (edition : Edition) (k bytes : ℕ) (r : Read) (why : Refusal) → r.answer ≡ refused why → Put l at (refused_line k why) m next → Put l at (line_of edition k bytes r) m next
  line_refused edition k bytes r why e put = rw e put

  -- the closing without `cut`
  pub closing_whole : (tally : Tally) (cut : Bool) → cut ≡ false → Put l at (last_line tally) m next → Put l at (closing_of tally cut) m next
  closing_whole tally cut e put = rw e put

-- and with it
pub closing_cut : {l m n : List ℕ} {at p q : ℕ} (tally : Tally) (cut : Bool) → cut ≡ true
    → Put l at (ascii "cut\n") m p → Put m p (last_line tally) n q → Put l at (closing_of tally cut) n q
unfolding cut_line
closing_cut tally cut e first second = rw e (put_then first second)

-- the last line
pub put_last : {l m n : List ℕ} {at p q : ℕ} (tally : Tally) (heard : ℕ) → heard ≡ total_of tally → Put l at (ascii "heard ") m p
    → Put m p ((decimal_of heard ++ ascii " accepted ") ++ (decimal_of tally.accepted ++ ascii " refused ") ++ (decimal_of tally.refused ++ ascii "\n")) n q
    → Put l at (last_line tally) n q
unfolding last_line form_of
put_last {l} {m} {n} {at} {p} {q} tally heard is first second =
    let numbers : List ℕ = total_of tally ∷ tally.accepted ∷ tally.refused ∷ [] in
    put_forms (ascii "heard ") (ascii "% accepted % refused %\n") numbers [] first
    (subst (λ (t : List ℕ). Put m p t n q) (sym (form_three (ascii "% accepted ") (ascii "% refused ") (ascii "%\n") numbers [])) (rw (← is) second))

-- who spoke, under either edition
pub put_radio : {l m n o : List ℕ} {at p q r : ℕ} (srcId letter radio : ℕ) → letter ≡ letter_of srcId → radio ≡ radio_of srcId → srcId < 2 ^ 8
    → Put l at (letter ∷ []) m p → Put m p (ascii " radio ") n q → Put n q (decimal_of radio) o r → Put l at (speaker_of Flown srcId) o r
unfolding speaker_of form_of
put_radio {l} {m} {n} {o} {at} {p} {q} {r} srcId letter radio is-letter is-radio small first second third =
    let one : letter_of srcId % 256 ≡ letter = omega arith in
    let named : Put l at (letter_of srcId % 256 ∷ []) m p = rw one first in
    let last : Put n q (decimal_of (radio_of srcId) ++ []) o r = rw (← is-radio, append-nil) third in
    put_forms (ascii "#") (ascii " radio %") (letter_of srcId ∷ radio_of srcId ∷ []) [] named (put_forms (ascii " radio ") (ascii "%") (radio_of srcId ∷ []) [] second last)

pub put_number : {l m n : List ℕ} {at p q : ℕ} (srcId : ℕ) → Put l at (ascii "source ") m p → Put m p (decimal_of srcId) n q → Put l at (speaker_of Corrected srcId) n q
unfolding speaker_of form_of
put_number {l} {m} {n} {at} {p} {q} srcId first second =
    let last : Put m p (decimal_of srcId ++ []) n q = rw append-nil second in
    put_forms (ascii "source ") (ascii "%") (srcId ∷ []) [] first last

-- the opening of an accepted record's line
pub put_opening : {l m n : List ℕ} {at p q : ℕ} (edition known : Edition) (k srcId : ℕ) → edition ≡ known
    → Put l at (decimal_of k ++ ascii " accepted ") m p → Put m p (speaker_of known srcId) n q → Put l at (opening_of edition k srcId) n q
unfolding opening_of speaker_of form_of
put_opening edition Flown k srcId is first second =
    rw is (put_forms (ascii "% accepted ") (ascii "# radio %") (k ∷ letter_of srcId ∷ radio_of srcId ∷ []) [] first second)
put_opening edition Corrected k srcId is first second = rw is (put_forms (ascii "% accepted ") (ascii "source %") (k ∷ srcId ∷ []) [] first second)

-- the end of that line
pub put_damage : {l m n o u : List ℕ} {at p q r v : ℕ} (tx flips worst number : ℕ) (name : List ℕ)
    → Put l at (decimal_of tx ++ ascii " repaired ") m p → Put m p (decimal_of flips ++ ascii " worst ") n q → Put n q (decimal_of worst ++ name) o r → Put o r (decimal_of number ++ ascii "\n") u v
    → Put l at (damage_of tx flips worst name number) u v
unfolding damage_of form_of
put_damage {l} {m} {n} {o} {u} {at} {p} {q} {r} {v} tx flips worst number name first second third fourth =
    let named : Put n q (decimal_of worst ++ (name ++ [])) o r = rw append-nil third in
    put_forms (ascii "% repaired ") (ascii "% worst %&%\n") (tx ∷ flips ∷ worst ∷ number ∷ []) name first
    (put_forms (ascii "% worst ") (ascii "%&%\n") (flips ∷ worst ∷ number ∷ []) name second (put_forms (ascii "%&") (ascii "%\n") (worst ∷ number ∷ []) name named fourth))

-- all of it
pub put_accepted : {l m n o : List ℕ} {at p q r : ℕ} (edition : Edition) (k srcId tx flips worst : ℕ) (name : List ℕ) (number : ℕ)
    → Put l at (opening_of edition k srcId) m p → Put m p (ascii " tx ") n q → Put n q (damage_of tx flips worst name number) o r
    → Put l at (accepted_line edition k srcId tx flips worst name number) o r
unfolding opening_of damage_of form_of
put_accepted Flown k srcId tx flips worst name number first second third =
    put_forms (ascii "% accepted # radio %") (ascii " tx % repaired % worst %&%\n") (k ∷ letter_of srcId ∷ radio_of srcId ∷ tx ∷ flips ∷ worst ∷ number ∷ []) name first
    (put_forms (ascii " tx ") (ascii "% repaired % worst %&%\n") (tx ∷ flips ∷ worst ∷ number ∷ []) name second third)
put_accepted Corrected k srcId tx flips worst name number first second third =
    put_forms (ascii "% accepted source %") (ascii " tx % repaired % worst %&%\n") (k ∷ srcId ∷ tx ∷ flips ∷ worst ∷ number ∷ []) name first
    (put_forms (ascii " tx ") (ascii "% repaired % worst %&%\n") (tx ∷ flips ∷ worst ∷ number ∷ []) name second third)

-- the line of a refused record
pub put_refused : {l m : List ℕ} {at p : ℕ} (k : ℕ) (why : Refusal)
    → Put l at ((decimal_of k ++ ascii " refused ") ++ (decimal_of why.number ++ ascii " ") ++ (decimal_of why.place ++ ascii "\n")) m p → Put l at (refused_line k why) m p
unfolding form_of
put_refused {l} {m} {at} {p} k why put =
    subst (λ (t : List ℕ). Put l at t m p) (sym (form_three (ascii "% refused ") (ascii "% ") (ascii "%\n") (k ∷ why.number ∷ why.place ∷ []) [])) put
