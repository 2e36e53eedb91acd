-- THE RULE OF HISTORIES: what the sheet of a history says of the frames that it was offered.
-- Assumes nothing.
use mathlib.Core.Path.{◌≡◌, refl, sym, ap, ap₂, ◌∙◌}
use mathlib.Core.Bool.{Bool, true, false, cond}
use mathlib.Core.List.{List, [], ◌∷◌, ◌++◌}
use Prim.Native.Nat.{ℕ, ◌+◌, ◌≤◌, ◌<◌, min}
use native.Mathlib.Omega.{arith}
use lib.ListN.{length, take, replicate}
use lib.Seq.{take-append-le}
use Rattle.base.specs.declared.Edition.{Edition}
use Rattle.base.specs.Checks.{refusal}
use Rattle.header.specs.Answers.{refused}
use Rattle.frame.specs.Frames.{frame_of, Frame}
use Rattle.source.specs.declared.Lane.{Lane}
use Rattle.source.specs.Lanes.{Role, as_caller, as_responder}
use Rattle.source.specs.Counts.{slot_of}
use Rattle.source.specs.Records.{replay_from, replay_of}
use Rattle.sheet.specs.Sheets.{Sheet}
use Rattle.sheet.specs.Sheets.{new_sheet, source_at, lane_at, refusals_at, accepted_of, refused_of, full_sheet, same_edition, edition_of, taken_of, offer_of}
use Rattle.sheet.specs.Histories.{sheet_of, count_all, of_edition, taken_from, own_of, refused_with, Unfilled}
use Rattle.source.proofs.Counts.{HasSlot}
use Rattle.sheet.proofs.Counted.{refusals_le}
use Rattle.sheet.proofs.Running.{taken_own, new_lane, new_refusals, new_grown, history_taken, history_few, history_grown}
use Rattle.sheet.proofs.Replay.{all_own, all_refused}
use Rattle.sheet.proofs.Offering.{full_refuses, other_refuses, room_takes}
use Rattle.header_reader.specs.Reading.{patterns_of}
use Rattle.air.specs.Air.{word_count}

of_edition_append : (own : Edition) (fs gs : List Frame) → of_edition own (fs ++ gs) ≡ of_edition own fs ++ of_edition own gs
of_edition_append own [] gs = refl
of_edition_append own (f ∷ fs) gs = by (same_edition (edition_of f) own) (of_edition_append own fs gs)
  where
    by : (b : Bool) → of_edition own (fs ++ gs) ≡ of_edition own fs ++ of_edition own gs
        → cond b (f ∷ of_edition own (fs ++ gs)) (of_edition own (fs ++ gs)) ≡ cond b (f ∷ of_edition own fs) (of_edition own fs) ++ of_edition own gs
    by true e = ap (λ (l : List Frame). f ∷ l) e
    by false e = e

module _ (own : Edition) (history : List Frame) where
  -- "Frames offered, counted from the history, equal accepted over all sources plus refused over all numbers."
  pub offered_counted : min full_sheet (length (of_edition own history)) ≡ accepted_of own (sheet_of own history) + refused_of (sheet_of own history)
  offered_counted = sym (history_grown own history).heard_is

  -- a lane is the replay of its own accepted frames
  pub own_lane : (k : ℕ) (role : Role) → lane_at (sheet_of own history) k role ≡ replay_of (own_of k role (taken_from own history))
  own_lane k role =
      ap (λ (t : Sheet). lane_at t k role) (history_taken own history)
      ∙ all_own own k role (taken_from own history) (taken_own own history) 0 (new_sheet own) (new_grown own) (history_few own history)
      ∙ ap (λ (l : Lane). replay_from l (own_of k role (taken_from own history))) (new_lane own k role)

  -- and a source's record is its two lanes
  pub own_record : (k : ℕ) → source_at (sheet_of own history) k ≡ record { caller = replay_of (own_of k as_caller (taken_from own history)); responder = replay_of (own_of k as_responder (taken_from own history)) }
  own_record k = ap₂ (λ (called responded : Lane). record { caller = called; responder = responded }) (own_lane k as_caller) (own_lane k as_responder)

  -- a refusal's count is the number of frames refused so
  pub own_refusals : (number : ℕ) → HasSlot number → refusals_at (sheet_of own history) (slot_of number) ≡ refused_with number (taken_from own history)
  own_refusals number known =
      ap (λ (t : Sheet). refusals_at t (slot_of number)) (history_taken own history)
      ∙ all_refused own number known (taken_from own history) (taken_own own history) 0 (new_sheet own) (new_grown own) (history_few own history)
      ∙ omega (arith, new_refusals own (slot_of number))

  -- "a count that would pass 4,294,967,295 stays there, which never happens to a sheet grown from a new one"
  pub never_filled : Unfilled (sheet_of own history)
  never_filled =
      let so = history_grown own history in
      record {
        frames = λ k role. omega (arith, so.within k role);
        repaired = λ k role. omega (arith, so.within k role);
        missed = λ k role. omega (arith, so.within k role);
        repeats = λ k role. omega (arith, so.within k role);
        refusals = λ k h. omega (arith, refusals_le own (min full_sheet (length (of_edition own history))) (sheet_of own history) so k h);
      }

  -- "After 65,535 offered frames the sheet is full": before that the sheet takes a frame,
  pub taken_before : length (of_edition own history) < full_sheet → (f : Frame) → edition_of f ≡ own → offer_of own (sheet_of own history) f ≡ taken_of (sheet_of own history) (patterns_of f.head) (frame_of f)
  taken_before few f mine = room_takes own (sheet_of own history) f (omega (arith, (history_grown own history).heard_is)) mine

  -- and a frame of the other edition is refused with 22, "sheet unchanged"
  pub other_before : length (of_edition own history) < full_sheet → (f : Frame) → same_edition (edition_of f) own ≡ false
      → offer_of own (sheet_of own history) f ≡ record { read = record { answer = refused (refusal 22 0); patterns = replicate word_count 0 }; sheet = sheet_of own history }
  other_before few f other = other_refuses own (sheet_of own history) f (omega (arith, (history_grown own history).heard_is)) other

  module _ (many : full_sheet ≤ length (of_edition own history)) where
    -- and from then on every frame is refused with 17
    pub refused_after : (f : Frame) → offer_of own (sheet_of own history) f ≡ record { read = record { answer = refused (refusal 17 full_sheet); patterns = replicate word_count 0 }; sheet = sheet_of own history }
    refused_after f = full_refuses own (sheet_of own history) f (omega (arith, (history_grown own history).heard_is))

    -- and the sheet is the same after whatever follows
    pub same_after : (later : List Frame) → sheet_of own (history ++ later) ≡ sheet_of own history
    same_after later =
        history_taken own (history ++ later)
        ∙ ap (λ (fs : List Frame). count_all (new_sheet own) (take full_sheet fs)) (of_edition_append own history later)
        ∙ ap (count_all (new_sheet own)) (take-append-le full_sheet (of_edition own history) (of_edition own later) many)
        ∙ sym (history_taken own history)
