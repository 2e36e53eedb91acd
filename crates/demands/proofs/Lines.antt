-- RECORDS AS LINES OF TEXT, AND BACK. What `unpack` writes of some records, `pack` makes these records again, however both come in pieces.
-- Assumes nothing.
use mathlib.Core.Path.{◌≡◌, sym, ap, ◌∙◌}
use mathlib.Core.List.{List, [], ◌++◌, append-nil, flatten}
use Prim.Native.Nat.{ℕ}
use Rattle.walk.specs.Walks.{Closed}
use Rattle.unpacking.specs.Unpacking.{scan_of, streamed_of as unpackStreamed}
use Rattle.unpacking.proofs.Streaming.{whole_unpacking}
use Rattle.packing.specs.Pieces.{LastLine, whole_packed, streamed_of as packStreamed}
use Rattle.packing.proofs.Letters.{AreBytes}
use Rattle.packing.proofs.WholeBack.{packed_back}
use Rattle.packing.proofs.Streaming.{whole_packing}

-- an input in pieces, and its lines in others; what is left after the last whole record has no line
module _ (input lines : List (List ℕ)) (are : AreBytes (flatten input)) (is : flatten lines ≡ unpackStreamed input) where
  pub lines_back : (packStreamed lines).text ++ (scan_of (flatten input)).rest ≡ flatten input
  lines_back =
      ap (λ (l : List ℕ). l ++ (scan_of (flatten input)).rest) (ap (λ (c : Closed LastLine). c.text) (whole_packing lines ∙ ap whole_packed (is ∙ whole_unpacking input))) ∙ packed_back (flatten input) are

  -- so of records, with nothing after them, the same bytes come back
  pub records_back : (scan_of (flatten input)).rest ≡ [] → (packStreamed lines).text ≡ flatten input
  records_back none = sym (append-nil (packStreamed lines).text) ∙ sym (ap (λ (l : List ℕ). (packStreamed lines).text ++ l) none) ∙ lines_back
