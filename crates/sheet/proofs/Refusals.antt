-- What any sheet answers: each refusal exactly when its row applies, and a refused call leaves every frame record as it was.
-- Assumes nothing.
use mathlib.Core.Path.{◌≡◌, refl, sym, ap, ◌∙◌}
use Rattle.base.specs.declared.Refusal.{Refusal}
use Rattle.base.specs.declared.Edition.{Edition}
use Rattle.base.specs.Checks.{Exactly}
use Rattle.base.proofs.Exactly.{exactly}
use Rattle.base.proofs.Numbers.{numbers}
use Rattle.header.specs.Answers.{Answer, refused}
use Rattle.header_reader.specs.Reading.{repaired_answer}
use Rattle.header_reader.proofs.GoesOn.{not_refused}
use Rattle.frame.specs.Frames.{Frame, whole_order}
use Rattle.frame.proofs.Bounds.{number_in}
use Rattle.sheet.specs.Sheets.{Sheet}
use Rattle.sheet.specs.Sheets.{counted_of, offer_checks, offer_answer, offer_of}
use Rattle.sheet.proofs.Offering.{offered_answer}

-- the whole order: 17, 22, and then the frame's
pub offer_numbered : (own : Edition) (sheet : Sheet) (f : Frame) → numbers number_in (offer_checks own sheet f) ≡ whole_order
offer_numbered own sheet f = refl

module _ (own : Edition) (sheet : Sheet) (f : Frame) where
  -- "Given exactly when", 17 and 22 among them
  answered_exactly : (why : Refusal) → Exactly (offer_answer own sheet f) (refused why) (offer_checks own sheet f)
  unfolding offer_answer
  answered_exactly why = exactly (repaired_answer f.head) (refused why) (offer_checks own sheet f) (not_refused f.head why)

  pub offered_exactly : (why : Refusal) → Exactly (offer_of own sheet f).read.answer (refused why) (offer_checks own sheet f)
  offered_exactly why = rw (offered_answer own sheet f) (answered_exactly why)

  -- a refused frame "touches no frame record"
  pub refused_keeps : (why : Refusal) → (offer_of own sheet f).read.answer ≡ refused why → (offer_of own sheet f).sheet.sources ≡ sheet.sources
  refused_keeps why e = ap (λ (a : Answer). (counted_of sheet a).sources) (sym (offered_answer own sheet f) ∙ e)
