-- The two sums of a sheet that has room: an accepted frame adds one to the accepted, a refused one adds one to the refused.
-- Assumes nothing.
use mathlib.Core.Path.{◌≡◌, refl, sym, ap, ◌∙◌}
use mathlib.Core.List.{List, [], ◌∷◌, ◌++◌}
use Prim.Native.Nat.{ℕ, ◌+◌, ◌<◌, min}
use native.Mathlib.Omega.{arith}
use lib.ListN.{length}
use Rattle.base.specs.declared.Edition.{Edition}
use Rattle.base.specs.declared.Refusal.{Refusal}
use Rattle.header.specs.declared.Header.{Header}
use Rattle.header.specs.Answers.{Answer, accepted, refused}
use Rattle.frame.specs.Frames.{Frame, frame_of}
use Rattle.sheet.specs.Sheets.{Sheet}
use Rattle.sheet.specs.Sheets.{Offered}
use Rattle.sheet.specs.Sheets.{new_sheet, accept_of, counted_of, accepted_of, refused_of, heard_of, full_sheet, edition_of, offer_of}
use Rattle.sheet.specs.Histories.{run_of, sheet_of, of_edition}
use Rattle.sheet.proofs.Offering.{frame_countable, answers_frame, offered_answer}
use Rattle.sheet.proofs.Refusals.{refused_keeps}
use Rattle.sheet.proofs.Counted.{counted_heard}
use Rattle.sheet.proofs.Running.{AllOwn, all_of_edition, history_grown}
use Rattle.sheet.proofs.History.{taken_before}

-- a sheet after some frames and one more
pub run_one_more : (own : Edition) (fs : List Frame) (sheet : Sheet) (f : Frame) → run_of own sheet (fs ++ f ∷ []) ≡ (offer_of own (run_of own sheet fs) f).sheet
run_one_more own [] sheet f = refl
run_one_more own (g ∷ fs) sheet f = run_one_more own fs (offer_of own sheet g).sheet f

-- an accepted frame leaves the refused as they are
accept_keeps : (sheet : Sheet) (h : Header) (flips : ℕ) → refused_of (accept_of sheet h flips) ≡ refused_of sheet
unfolding accept_of refused_of
accept_keeps sheet h flips = refl

-- where the records are the same, so are the accepted
same_accepted : (own : Edition) (s t : Sheet) → s.sources ≡ t.sources → accepted_of own s ≡ accepted_of own t
unfolding accepted_of
same_accepted own s t e = rw e

-- frames of the sheet's edition, and one more of it
module _ (own : Edition) (history : List Frame) (all : AllOwn own history) (room : length history < full_sheet) (f : Frame) (mine : edition_of f ≡ own) where
  taken : length (of_edition own history) < full_sheet
  taken = rw (all_of_edition own history all) room

  -- the sheet after the frame has counted its answer
  counts : (a : Answer) → frame_of f ≡ a → sheet_of own (history ++ f ∷ []) ≡ counted_of (sheet_of own history) a
  counts a is = run_one_more own history (new_sheet own) f ∙ ap (λ (o : Offered). o.sheet) (taken_before own history taken f mine) ∙ ap (counted_of (sheet_of own history)) is

  has_room : heard_of own (sheet_of own history) < full_sheet
  has_room = omega (arith, taken, (history_grown own history).heard_is)

  one_more : heard_of own (sheet_of own (history ++ f ∷ [])) ≡ heard_of own (sheet_of own history) + 1
  one_more =
      let so = history_grown own history in
      let few : min full_sheet (length (of_edition own history)) < full_sheet = omega (arith, taken) in
      ap (heard_of own) (counts (frame_of f) refl)
      ∙ counted_heard own (min full_sheet (length (of_edition own history))) (sheet_of own history) so few (frame_of f) (frame_countable own f mine)
      ∙ ap (λ (n : ℕ). n + 1) (sym so.heard_is)

  module _ (h : Header) (flips : ℕ) (is : frame_of f ≡ accepted h flips) where
    pub accepted_keeps_refused : refused_of (sheet_of own (history ++ f ∷ [])) ≡ refused_of (sheet_of own history)
    accepted_keeps_refused = ap refused_of (counts (accepted h flips) is) ∙ accept_keeps (sheet_of own history) h flips

    pub accepted_adds_one : accepted_of own (sheet_of own (history ++ f ∷ [])) ≡ accepted_of own (sheet_of own history) + 1
    accepted_adds_one = omega (arith, one_more, accepted_keeps_refused)

  module _ (why : Refusal) (is : frame_of f ≡ refused why) where
    pub refused_keeps_accepted : accepted_of own (sheet_of own (history ++ f ∷ [])) ≡ accepted_of own (sheet_of own history)
    refused_keeps_accepted =
        ap (accepted_of own) (run_one_more own history (new_sheet own) f)
        ∙ same_accepted own (offer_of own (sheet_of own history) f).sheet (sheet_of own history)
        (refused_keeps own (sheet_of own history) f why (offered_answer own (sheet_of own history) f ∙ answers_frame own (sheet_of own history) f has_room mine ∙ is))

    pub refused_adds_one : refused_of (sheet_of own (history ++ f ∷ [])) ≡ refused_of (sheet_of own history) + 1
    refused_adds_one = omega (arith, one_more, refused_keeps_accepted)
