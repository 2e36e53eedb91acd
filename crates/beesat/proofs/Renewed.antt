-- A number put into a row of a frame, and the error field worked out afresh: which rows change, and that the frame then agrees with its error field.
-- Assumes nothing.
use mathlib.Core.Path.{◌≡◌, refl, sym, ap, ◌∙◌}
use mathlib.Core.List.{List}
use Prim.Native.Nat.{ℕ, ◌+◌, ◌*◌, ◌^◌, ◌≤◌, ◌<◌}
use native.Mathlib.Omega.{arith}
use lib.ListN.{length, get_or, take, drop, length-take, length-drop}
use lib.Seq.{ext_get_or, get_or-take, get_or-drop}
use Rattle.crc.specs.Crc.{crc16_of}
use Rattle.crc.proofs.Width.{crc16_lt}
use Rattle.layout.specs.Bits.{byte_bits, bit_at, AreBytes}
use Rattle.layout.specs.Rows.{row_in, Outside}
use Rattle.layout.proofs.Values.{before_outside, put_length, put_bytes, put_outside, put_byte}
use Rattle.layout.proofs.Tables.{reads_back, others_stay, same_put}
use Rattle.beesat.specs.Tables.{frame_bytes, rows, error_at}
use Rattle.beesat.specs.Reading.{field_in, summed_to, error_of}
use Rattle.beesat.specs.Writing.{with_row, renewed}
use Rattle.beesat.specs.Inside.{width_of}
use Rattle.beesat.proofs.Soundness.{frame_sound, row_within, error_width}

-- a number in row k
module _ (frame : List ℕ) (long : length frame ≡ frame_bytes) (k v : ℕ) (there : k ≤ error_at) where
  pub with_long : length (with_row k v frame) ≡ frame_bytes
  with_long = put_length (row_in rows k) v frame ∙ long

  pub with_back : v < 2 ^ width_of k → field_in (with_row k v frame) k ≡ v
  unfolding field_in
  with_back small = reads_back rows frame (frame_sound frame long) k v (row_within k there) small

  pub with_other : (j : ℕ) → j ≤ error_at → (j ≡ k → ⊥) → field_in (with_row k v frame) j ≡ field_in frame j
  unfolding field_in
  with_other j h other = others_stay rows frame (frame_sound frame long) j k v (row_within j h) (row_within k there) other

pub with_same : (frame : List ℕ) → length frame ≡ frame_bytes → AreBytes frame → (k : ℕ) → k ≤ error_at → with_row k (field_in frame k) frame ≡ frame
unfolding field_in
with_same frame long bytes k there = same_put rows frame (frame_sound frame long) bytes k (row_within k there)

-- the error field stands after the bytes that are summed
error_start : (row_in rows error_at).start ≡ byte_bits * summed_to
unfolding rows
error_start = refl

module _ (frame : List ℕ) (long : length frame ≡ frame_bytes) (bytes : AreBytes frame) (v : ℕ) where
  summed_byte : (b : ℕ) → b < summed_to → get_or (with_row error_at v frame) b 0 ≡ get_or frame b 0
  summed_byte b h =
      put_byte (row_in rows error_at) v frame bytes b
      (λ t l. before_outside (row_in rows error_at) (8 * b + t) (rw error_start (omega arith)))

  -- so it is not in its own sum
  pub error_unseen : error_of (with_row error_at v frame) ≡ error_of frame
  unfolding error_of
  error_unseen =
      ap crc16_of
      (ext_get_or 0 (take 138 (drop 4 (with_row error_at v frame))) (take 138 (drop 4 frame))
      (simp (length-take, length-drop, put_length))
      (λ i h.
      let small : i < 138 = omega (arith, simp length-take at h) in
      get_or-take 138 (drop 4 (with_row error_at v frame)) i 0 small ∙ get_or-drop 4 (with_row error_at v frame) i 0 ∙ summed_byte (4 + i) (omega arith)
      ∙ sym (get_or-take 138 (drop 4 frame) i 0 small ∙ get_or-drop 4 frame i 0)))

error_lt : (frame : List ℕ) → error_of frame < 2 ^ width_of error_at
unfolding error_of
error_lt frame = rw error_width (crc16_lt _)

-- the error field worked out afresh
module _ (frame : List ℕ) (long : length frame ≡ frame_bytes) (bytes : AreBytes frame) where
  pub renewed_long : length (renewed frame) ≡ frame_bytes
  unfolding renewed
  renewed_long = with_long frame long error_at (error_of frame) (omega arith)

  pub renewed_bytes : AreBytes (renewed frame)
  unfolding renewed
  renewed_bytes = put_bytes (row_in rows error_at) (error_of frame) frame

  pub renewed_summed : field_in (renewed frame) error_at ≡ error_of (renewed frame)
  unfolding renewed
  renewed_summed =
      with_back frame long error_at (error_of frame) (omega arith) (error_lt frame) ∙ sym (error_unseen frame long bytes (error_of frame))

  pub renewed_other : (j : ℕ) → j < error_at → field_in (renewed frame) j ≡ field_in frame j
  unfolding renewed
  renewed_other j h = with_other frame long error_at (error_of frame) (omega arith) j (omega arith) (λ (e : j ≡ error_at). omega arith)

  pub renewed_outside : (i : ℕ) → Outside (row_in rows error_at) i → bit_at (renewed frame) i ≡ bit_at frame i
  unfolding renewed
  renewed_outside i out = put_outside (row_in rows error_at) (error_of frame) frame i out

  -- changes nothing where it agrees
  pub renewed_same : field_in frame error_at ≡ error_of frame → renewed frame ≡ frame
  unfolding renewed
  renewed_same e = rw (← e) (with_same frame long bytes error_at (omega arith))
