-- THE WAY BACK: the line of a record packs to that very record, and what is unpacked of an input packs to that input's records.
-- Assumes nothing.
use Rattle.std.proofs.Common.{◌≡◌, ℕ, ◌+◌, ◌-◌, ◌*◌, ◌/◌, ◌<◌, ◌≤◌, Bool, true, false, cond, ltb, List, [], ◌∷◌, ◌++◌, length, get_or, take, drop, sym, refl, ◌∙◌, append_assoc, append-nil, arith, length-append, drop_of_length-le, take_at, ltb-false, eq-eqb, ne_eqb}
use lib.Seq.{take-length, drop-append-add}
use Rattle.base.specs.Lists.{AreBits, place_in}
use Rattle.air.specs.Air.{air_bits, payload_limit, first_no_bit}
use Rattle.air.proofs.Bits.{no_bit_le, are_bits}
use Rattle.walk.specs.Walks.{whole, behind, walk_of}
use Rattle.walk.proofs.Walking.{walk_takes}
use Rattle.record.specs.Records.{length_of}
use Rattle.unpacking.specs.Lines.{bit_digits, hex_digits, header_text, payload_text, text_line}
use Rattle.packing.specs.declared.Front.TheVariants.{Line}
use Rattle.packing.specs.Digits.{digit_value, digits_ahead, AreDigits}
use Rattle.packing.specs.Lines.{fine, longest_line, header_digits, header_judged, payload_judged, judged_of, header_bytes, record_of, packed_by, packed_parts, end_in, letters_in, passed_over, header_in, digits_from, digits_in, pack_of}
use Rattle.packing.specs.Packing.{front_of, lines_after, pack_walk}
use Rattle.packing.proofs.Judging.{header_bits_lem, header_digits_lem, payload_whole, judge_on}
use Rattle.packing.proofs.Lines.{passed_some, end_other, from_space, from_end}
use Rattle.packing.proofs.Fronts.{next_whole}
use Rattle.packing.proofs.Streaming.{pack_sound}
use Rattle.packing.proofs.Letters.{AreBytes, bits_length, hex_length, bits_back, hex_back, bits_are, hex_are, ahead_all, Free, digits_free, free_append, free_cons, place_none, place_after}

-- no mark is a digit
marks_are_none : (digit_value 10 ≡ 16) × (digit_value 13 ≡ 16) × (digit_value 32 ≡ 16) × (digit_value 35 ≡ 16)
unfolding digit_value
marks_are_none = (refl, refl, refl, refl)

weaker : (l : List ℕ) → AreDigits 2 l → AreDigits 16 l
weaker l are = record { each = λ k h. omega (arith, are.each k h) }

-- what a header's text is: digits, well, and the header's bytes
record HeaderBack (header text : List ℕ) : Type 0 where
  pub are : AreDigits 16 text
  pub some : 0 < length text
  pub few : length text ≤ header_digits
  pub fine : fine ≡ header_judged text
  pub back : header_bytes text ≡ header

module _ (header : List ℕ) (size : length header ≡ air_bits) where
  text_bits : AreBits header → HeaderBack header (bit_digits header)
  unfolding header_bytes
  text_bits are =
      let long : length (bit_digits header) ≡ air_bits = bits_length header ∙ size in
      let all : digits_ahead 2 (bit_digits header) ≡ length (bit_digits header) = ahead_all 2 (bit_digits header) (bits_are header) in
      record {
        are = weaker (bit_digits header) (bits_are header);
        some = omega arith;
        few = omega arith;
        fine = header_bits_lem (bit_digits header) long (digits_ahead 2 (bit_digits header)) refl (omega arith);
        back = rw (ne_eqb (length (bit_digits header)) header_digits (λ e. omega arith)) (bits_back header are);
      }

  text_hex : AreBytes header → HeaderBack header (hex_digits header)
  unfolding header_bytes
  text_hex are =
      let long : length (hex_digits header) ≡ header_digits = omega (arith, hex_length header) in
      let all : digits_ahead 16 (hex_digits header) ≡ length (hex_digits header) = ahead_all 16 (hex_digits header) (hex_are header) in
      record {
        are = hex_are header;
        some = omega arith;
        few = omega arith;
        fine = header_digits_lem (hex_digits header) (λ e. omega arith) long (digits_ahead 16 (hex_digits header)) refl (omega arith);
        back = rw (eq-eqb (length (hex_digits header)) header_digits long) (hex_back header are);
      }

  text_back : AreBytes header → HeaderBack header (header_text header)
  unfolding header_text
  text_back are = by (ltb (first_no_bit header) (length header)) refl
    where
      by : (b : Bool) → ltb (first_no_bit header) (length header) ≡ b → HeaderBack header (cond b (hex_digits header) (bit_digits header))
      by true e = text_hex are
      by false e = text_bits (are_bits header (omega (arith, no_bit_le header, ltb-false (first_no_bit header) (length header) e)))

-- a payload's digits are well
payload_back : (column : ℕ) (payload : List ℕ) → length payload ≤ payload_limit → fine ≡ payload_judged column (hex_digits payload)
payload_back column payload few =
    let all : digits_ahead 16 (hex_digits payload) ≡ length (hex_digits payload) = ahead_all 16 (hex_digits payload) (hex_are payload) in
    payload_whole column (hex_digits payload) (omega (arith, hex_length payload)) (digits_ahead 16 (hex_digits payload)) refl (omega arith) (λ e. omega (arith, hex_length payload))

-- the two parts of a line are found
record PartsBack (header digits line : List ℕ) : Type 0 where
  pub header_is : header_in line ≡ header
  pub digits_are : digits_in line ≡ digits

module _ (text : List ℕ) (free : Free 32 text) where
  parts_none : PartsBack text [] (text ++ [])
  parts_none =
      let at-end : place_in text 32 ≡ length text = place_none 32 text free in
      let from : length text ≡ digits_from text = from_end text (length text) (sym at-end) (omega arith) in
      rw append-nil (record { header_is = rw at-end (take-length text); digits_are = rw (← from) (drop_of_length-le text {i = length text} (omega arith)) })

  parts_some : (digits : List ℕ) → PartsBack text digits (text ++ 32 ∷ digits)
  parts_some digits =
      let line : List ℕ = text ++ 32 ∷ digits in
      let at-space : place_in line 32 ≡ length text = place_after 32 text digits free in
      let from : length text + 1 ≡ digits_from line = from_space line (length text) (sym at-space) (omega (arith, length-append text (32 ∷ digits))) in
      record { header_is = rw at-space (take_at text (32 ∷ digits) (length text) refl); digits_are = rw (← from) (drop-append-add text (32 ∷ digits) 1) }

parts_back : (text payload : List ℕ) → Free 32 text → PartsBack text (hex_digits payload) (text ++ payload_text payload)
unfolding payload_text
parts_back text [] free = parts_none text free
parts_back text (b ∷ payload) free = parts_some text free (hex_digits (b ∷ payload))

-- neither a carriage return nor a line feed stands in a line's letters
payload_free : (mark : ℕ) (payload : List ℕ) → digit_value mark ≡ 16 → 0 < mark → (32 ≡ mark → ⊥) → Free mark (payload_text payload)
unfolding payload_text
payload_free mark [] none some other = λ k e. omega arith
payload_free mark (b ∷ payload) none some other = free_cons mark 32 (hex_digits (b ∷ payload)) other (digits_free mark (hex_digits (b ∷ payload)) none some (hex_are (b ∷ payload)))

payload_size : (payload : List ℕ) → length (payload_text payload) ≤ 1 + 2 * length payload
unfolding payload_text
payload_size [] = omega arith
payload_size (b ∷ payload) = omega (arith, hex_length (b ∷ payload))

module _ (header payload : List ℕ) (size : length header ≡ air_bits) (few : length payload ≤ payload_limit) (header-bytes : AreBytes header) (payload-bytes : AreBytes payload) where
  text : List ℕ
  text = header_text header

  line : List ℕ
  line = text ++ payload_text payload

  -- the record's bytes
  abbrev pub record_bytes : List ℕ
  record_bytes = length_of (length payload) ++ header ++ payload

  good : HeaderBack header text
  unfolding text
  good = text_back header size header-bytes

  line_free : (mark : ℕ) → digit_value mark ≡ 16 → 0 < mark → (32 ≡ mark → ⊥) → Free mark line
  unfolding line
  line_free mark none some other = free_append mark text (payload_text payload) (digits_free mark text none some good.are) (payload_free mark payload none some other)

  line_some : 0 < length line
  unfolding line
  line_some = omega (arith, length-append text (payload_text payload), good.some)

  line_few : length line ≤ longest_line
  unfolding line
  line_few = omega (arith, length-append text (payload_text payload), good.few, payload_size payload)

  all_letters : letters_in line ≡ line
  all_letters =
      let end : length line ≡ end_in line = end_other line (λ e. omega (arith, line_some)) (λ e. line_free 13 marks_are_none.1 (omega arith) (λ d. omega arith) (length line - 1) e) in
      rw (← end) (take-length line)

  not_passed : passed_over line ≡ false
  not_passed =
      sym (passed_some line (λ e. omega (arith, line_some)))
      ∙ ne_eqb (get_or line 0 0) 35 (λ e. line_free 35 marks_are_none.3 (omega arith) (λ d. omega arith) 0 e)

  parts : PartsBack text (hex_digits payload) line
  unfolding line
  parts = parts_back text payload (digits_free 32 text marks_are_none.2 (omega arith) good.are)

  both_fine : judged_of text (hex_digits payload) ≡ fine
  both_fine = sym (judge_on text (hex_digits payload) fine good.fine refl fine (payload_back (length text + 2) payload few))

  record_back : record_of text (hex_digits payload) ≡ record_bytes
  unfolding record_of
  record_back =
      let half : length (hex_digits payload) / 2 ≡ length payload = omega (arith, hex_length payload) in
      rw (half, good.back, hex_back payload payload-bytes)

  -- the letters of a record's line pack to that very record
  line_back : pack_of line ≡ packed_by fine record_bytes
  unfolding pack_of packed_parts
  line_back = rw (all_letters, not_passed, parts.header_is, parts.digits_are, both_fine, record_back)

  -- and so does the line, whatever follows it
  pub unpack_pack : (lines : ℕ) (rest : List ℕ) → walk_of pack_walk lines (text_line header payload ++ rest) ≡ behind record_bytes (walk_of pack_walk (lines_after lines 1) rest)
  unfolding text_line line text
  unpack_pack lines rest =
      let all : List ℕ = line ++ 10 ∷ rest in
      let at-feed : place_in all 10 ≡ length line = place_after 10 line rest (line_free 10 marks_are_none.0 (omega arith) (λ d. omega arith)) in
      let here : front_of all ≡ Line (length line) = sym (next_whole all (length line) (sym at-feed) line_few (omega (arith, length-append line (10 ∷ rest)))) in
      let first : take (length line) all ≡ line = take_at line (10 ∷ rest) (length line) refl in
      let item : pack_walk.cut lines all ≡ whole (length line) = rw (here, first, line_back) in
      let past : drop (length line + 1) all ≡ rest = drop-append-add line (10 ∷ rest) 1 in
      rw append_assoc (walk_takes pack_walk pack_sound lines all (length line) item ∙ rw (first, line_back, past))
