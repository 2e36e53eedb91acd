-- What `split` lends, and how much there is of it.
-- Assumes nothing.
use mathlib.Core.Path.{◌≡◌, sym, ap, ◌∙◌}
use mathlib.Core.List.{List}
use Prim.Native.Nat.{ℕ, ◌+◌, ◌-◌, ◌≤◌}
use native.Mathlib.Omega.{arith}
use lib.ListN.{length, take, drop, length-drop}
use lib.Seq.{length-take-le, take-length}
use Rattle.std.specs.Borrow.{Bor}
use Rattle.air.specs.Air.{air_bits}
use Rattle.record.specs.declared.Cut.TheVariants.{Record}
use Rattle.record.specs.declared.Parts.{Parts}
use Rattle.record.specs.Records.{length_bytes, air_in, payload_start, record_size, cut_of}
use Rattle.record.specs.Parts.{PartsIn}
use Rattle.record.proofs.Cuts.{whole_at}

-- a whole record is all there
pub all_there : (l : List ℕ) {n : ℕ} → Record n ≡ cut_of l → record_size n ≤ length l
all_there l {n} e = (whole_at l n (sym e)).there

module _ (l : List ℕ) (n : ℕ) (there : record_size n ≤ length l) where
  pub splits : (header payload rest : Bor (List ℕ)) → header.now ≡ air_in l → payload.now ≡ take (record_size n - payload_start) (drop payload_start l)
      → rest.now ≡ take (length l - record_size n) (drop (record_size n) l) → PartsIn n l (record { header = header; payload = payload; rest = rest })
  splits header payload rest head body behind =
      let size : record_size n - payload_start ≡ n = omega arith in
      record {
        header_is = head;
        payload_is = rw size at body;
        payload_size = ap length body ∙ rw size (length-take-le n (drop payload_start l) (omega (arith, length-drop payload_start l)));
        rest_is = behind ∙ rw (← length-drop (record_size n) l) (take-length (drop (record_size n) l));
      }

-- a header has all of its bytes
pub header_size : (l : List ℕ) {n : ℕ} → Record n ≡ cut_of l → {parts : Parts} → PartsIn n l parts → length parts.header.now ≡ air_bits
header_size l e is = ap length is.header_is ∙ length-take-le air_bits (drop length_bytes l) (omega (arith, length-drop length_bytes l, all_there l e))
