-- REQUEST e. "Without them a frame is judged as before; under the corrected edition they aren't looked at."
-- Assumes nothing.
use mathlib.Core.Path.{◌≡◌, refl}
use mathlib.Core.List.{List}
use Prim.Native.Nat.{ℕ}
use Rattle.base.specs.declared.Edition.{Edition}
use Rattle.base.specs.declared.Edition.TheVariants.{Corrected}
use Rattle.base.specs.Checks.{first}
use Rattle.header.specs.declared.Rules.{Rules}
use Rattle.header_reader.specs.Reading.{signal, signed, repaired_answer, read_header_of, header_read}
use Rattle.frame.specs.Frames.{frame, signed_frame, frame_of, frame_read}
use Rattle.sheet.specs.Sheets.{Sheet}
use Rattle.sheet.specs.Sheets.{offer_answer, offer_of}
use Rattle.demands.specs.Unsigned.{header_checks_before, frame_checks_before}

-- "Without them a frame is judged as before": by the rows without 23 and 24
pub header_as_before : (rules : Rules) (air : List ℕ) → read_header_of (signal rules air) ≡ first (repaired_answer (signal rules air)) (header_checks_before (signal rules air))
unfolding read_header_of
header_as_before rules air = refl

pub frame_as_before : (rules : Rules) (air payload : List ℕ) → frame_of (frame rules air payload) ≡ first (repaired_answer (signal rules air)) (frame_checks_before (frame rules air payload))
unfolding frame_of
frame_as_before rules air payload = refl

-- "under the corrected edition they aren't looked at": what is read with them is what is read without them, on a sheet of either edition too
module _ (rules : Rules) (corrected : rules.edition ≡ Corrected) (call air : List ℕ) where
  pub header_corrected : header_read (signed rules call air) ≡ header_read (signal rules air)
  unfolding header_read read_header_of
  header_corrected = rw corrected

  module _ (payload : List ℕ) where
    pub frame_corrected : frame_read (signed_frame rules call air payload) ≡ frame_read (frame rules air payload)
    unfolding frame_read frame_of
    frame_corrected = rw corrected

    pub offer_corrected : (own : Edition) (sheet : Sheet) → offer_of own sheet (signed_frame rules call air payload) ≡ offer_of own sheet (frame rules air payload)
    unfolding offer_answer
    offer_corrected own sheet = rw corrected
