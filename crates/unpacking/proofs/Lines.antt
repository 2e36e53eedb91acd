-- Lines put together from their parts: the loop of `put_bytes`, a header, a payload, a record.
-- Assumes nothing.
use mathlib.Core.Path.{◌≡◌, refl, ◌∙◌}
use mathlib.Core.List.{List, [], ◌∷◌, ◌++◌, append_assoc, append-nil}
use Prim.Native.Nat.{ℕ, ◌+◌, ◌-◌, ◌*◌, ◌<◌, ◌≤◌, zero-le}
use native.Mathlib.Numerals.{add-one}
use native.Mathlib.Omega.{arith}
use lib.ListN.{length, take, drop, get_or, length-drop, drop_of_length-le}
use lib.Seq.{drop-cons, length-take-le}
use borrow.Author.Tests.{lt-ltb, le-ltb}
use Rattle.air.specs.Air.{air_bits, first_no_bit}
use Rattle.text.specs.Text.{ascii, fixed_of, Put}
use Rattle.text.proofs.Laid.{put_none, put_then, put_three}
use Rattle.record.specs.Records.{length_bytes, air_in, payload_start, record_size}
use Rattle.unpacking.specs.Lines.{digits_of, header_text, payload_text, text_line, text_line_in}

-- the digits of the first i bytes are put
pub record Digits (before : List ℕ) (at base width : ℕ) (bytes out : List ℕ) (to i : ℕ) : Type 0 where
  pub inside : i ≤ length bytes
  pub room : at + 2 * length bytes ≤ length before
  pub behind : to ≤ at + 2 * i
  pub text : List ℕ
  pub put : Put before at text out to
  pub left : digits_of base width bytes ≡ text ++ digits_of base width (drop i bytes)

module _ (before : List ℕ) (at base width : ℕ) (bytes : List ℕ) where
  pub starts : at + 2 * length bytes ≤ length before → Digits before at base width bytes before at 0
  starts room = record { inside = zero-le; room = room; behind = omega arith; text = []; put = put_none (omega arith); left = refl }

  module _ (out : List ℕ) (to i : ℕ) (so : Digits before at base width bytes out to i) where
    pub has_room : width ≤ 2 → i < length bytes → to + width ≤ length out
    has_room narrow h = omega (arith, so.behind, so.room, so.put.kept)

    -- those of the next byte are put
    pub goes_on : (b : ℕ) → b ≡ get_or bytes i 0 → (after : List ℕ) (next : ℕ) → width ≤ 2 → i < length bytes → Put out to (fixed_of base width b) after next → next ≤ to + width
        → Digits before at base width bytes after next (i + 1)
    goes_on b is after next narrow h one short =
        record {
          inside = omega arith;
          room = so.room;
          behind = omega (arith, so.behind);
          text = so.text ++ fixed_of base width b;
          put = put_then so.put one;
          left = so.left ∙ rw (drop-cons bytes i 0 h, add-one i, is, append_assoc);
        }

    -- all of them are
    pub ends : length bytes ≤ i → Put before at (digits_of base width bytes) out to
    ends h = rw (so.left, drop_of_length-le bytes {i = i} h, append-nil) so.put

    pub ends_short : length bytes ≤ i → to ≤ at + 2 * length bytes
    ends_short h = omega (arith, so.behind, so.inside)

module _ {l m : List ℕ} {at next : ℕ} where
  -- a header whose bytes are not all bits, and one whose bytes are
  pub header_hex : (header : List ℕ) (k : ℕ) → k ≡ first_no_bit header → k < length header → Put l at (digits_of 16 2 header) m next → Put l at (header_text header) m next
  unfolding header_text
  header_hex header k is h put = rw (← is, lt-ltb k (length header) h) put

  pub header_bits_lem : (header : List ℕ) (k : ℕ) → k ≡ first_no_bit header → length header ≤ k → Put l at (digits_of 2 1 header) m next → Put l at (header_text header) m next
  unfolding header_text
  header_bits_lem header k is h put = rw (← is, le-ltb k (length header) h) put

-- no payload, and some
pub payload_none : (l : List ℕ) (at : ℕ) (payload : List ℕ) → length payload ≡ 0 → at + (1 + 2 * length payload) ≤ length l → Put l at (payload_text payload) l at
unfolding payload_text
payload_none l at [] none room = put_none (omega arith)
payload_none l at (b ∷ payload) none room = absurd (omega arith)

pub payload_some : {l m n : List ℕ} {at p q : ℕ} (payload : List ℕ) → (length payload ≡ 0 → ⊥) → Put l at (ascii " ") m p → Put m p (digits_of 16 2 payload) n q → Put l at (payload_text payload) n q
unfolding payload_text
payload_some [] some first second = absurd (some refl)
payload_some (b ∷ payload) some first second = put_then first second

pub line_put : {l m n o : List ℕ} {at p q r : ℕ} (header payload : List ℕ) → Put l at (header_text header) m p → Put m p (payload_text payload) n q → Put n q (ascii "\n") o r
    → Put l at (text_line header payload) o r
unfolding text_line
line_put header payload first second third = put_three first second third
