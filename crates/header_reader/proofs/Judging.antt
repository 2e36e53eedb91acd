-- Rows 21, 4, 5, 24 and 6 of the paper's table, each behind those before it: h is the header whose bits are the two
-- numbers hi and lo, and crc its CRC5 worked out.
-- Assumes nothing.
use mathlib.Core.Path.{◌≡◌}
use mathlib.Core.List.{List, [], ◌∷◌}
use Prim.Native.Nat.{ℕ, ◌^◌, ◌≤◌, ◌<◌}
use borrow.Author.Tests.{eq-eqb, ne_eqb, lt-ltb, le-ltb}
use Rattle.base.specs.Checks.{Check, first, refusal}
use Rattle.crc.specs.Crc5.{crc5_of}
use Rattle.crc.specs.Halves.{header_bits, lo_width}
use Rattle.sign.specs.CallSigns.{sign_width}
use Rattle.sign.specs.Calls.{Call, looked_at, other_at}
use Rattle.header.specs.declared.Header.{Header}
use Rattle.header.specs.declared.Rules.{Rules}
use Rattle.header.specs.Answers.{Answer, accepted, refused}
use Rattle.header.specs.Fields.{last_source_of, last_coding, satellite_of, header_of, bits_of_words}
use Rattle.header.specs.HalfWidths.{halves_header}
use Rattle.header.proofs.Unpacking.{unpacked}
use Rattle.header_reader.specs.Reading.{crc5_differs, unknown_source, other_call_sign, unknown_coding, judged_of}

module _ (rules : Rules) (call : Call) (flips hi lo : ℕ) where
  abbrev n : ℕ
  n = header_bits hi lo

  abbrev given : List (Check Answer) → Answer
  given rows = first (accepted (header_of n) flips) rows

  pub gives_21 : (r : Answer) → r ≡ refused (refusal 21 flips) → rules.limit < flips → r ≡ judged_of rules call flips (header_bits hi lo)
  gives_21 r made above = rw (made, lt-ltb rules.limit flips above)

  module _ (within : flips ≤ rules.limit) (small : lo < 2 ^ lo_width) (crc : ℕ) (h : Header) (fields : h ≡ halves_header hi lo) (worked : crc ≡ crc5_of rules.edition (header_bits hi lo)) where
    is : h ≡ header_of n
    is = unpacked h hi lo fields small

    past_21 : given (crc5_differs rules.edition n ∷ unknown_source rules.edition n ∷ other_call_sign (looked_at rules.edition call) n ∷ unknown_coding n ∷ []) ≡ judged_of rules call flips n
    past_21 = rw (le-ltb rules.limit flips within)

    pub gives_4 : (r : Answer) → r ≡ refused (refusal 4 crc) → (crc ≡ h.«crc5» → ⊥) → r ≡ judged_of rules call flips (header_bits hi lo)
    gives_4 r made differs = rw (made, ← past_21, ← is, ← worked, ne_eqb crc h.«crc5» differs)

    module _ (same : crc ≡ h.«crc5») (last : ℕ) (bound : last ≡ last_source_of rules.edition) where
      past_4 : given (unknown_source rules.edition n ∷ other_call_sign (looked_at rules.edition call) n ∷ unknown_coding n ∷ []) ≡ judged_of rules call flips n
      past_4 = rw (← past_21, ← is, ← worked, eq-eqb crc h.«crc5» same)

      pub gives_5 : (r : Answer) → r ≡ refused (refusal 5 h.«fields».src_id) → last < h.«fields».src_id → r ≡ judged_of rules call flips (header_bits hi lo)
      gives_5 r made above = rw (made, ← past_4, ← is, ← bound, lt-ltb last h.«fields».src_id above)

      module _ (known : h.«fields».src_id ≤ last) where
        past_5 : given (other_call_sign (looked_at rules.edition call) n ∷ unknown_coding n ∷ []) ≡ judged_of rules call flips n
        past_5 = rw (← past_4, ← is, ← bound, le-ltb last h.«fields».src_id known)

        module _ (sat at : ℕ) (spoke : sat ≡ satellite_of h.«fields».src_id) (found : at ≡ other_at (looked_at rules.edition call) sat) where
          pub gives_24 : (r : Answer) → r ≡ refused (refusal 24 h.«fields».src_id) → at < sign_width → r ≡ judged_of rules call flips (header_bits hi lo)
          gives_24 r made differs = rw (made, ← past_5, ← is, ← spoke, ← found, lt-ltb at sign_width differs)

          module _ (same_sign : sign_width ≤ at) where
            past_24 : given (unknown_coding n ∷ []) ≡ judged_of rules call flips n
            past_24 = rw (← past_5, ← is, ← spoke, ← found, le-ltb at sign_width same_sign)

            pub gives_6 : (r : Answer) → r ≡ refused (refusal 6 h.«fields».ai_type_src) → last_coding < h.«fields».ai_type_src → r ≡ judged_of rules call flips (header_bits hi lo)
            gives_6 r made above = rw (made, ← past_24, ← is, lt-ltb last_coding h.«fields».ai_type_src above)

            pub reads : h.«fields».ai_type_src ≤ last_coding → accepted h flips ≡ judged_of rules call flips (header_bits hi lo)
            reads within = rw (← past_24, ← is, le-ltb last_coding h.«fields».ai_type_src within)

-- what is judged of two numbers is judged of the words that they are made of
pub judged_halves : (rules : Rules) (call : Call) (flips n : ℕ) (words : List ℕ) (r : Answer) → n ≡ bits_of_words words → r ≡ judged_of rules call flips n → r ≡ judged_of rules call flips (bits_of_words words)
judged_halves rules call flips n words r halves e = rw halves at e
