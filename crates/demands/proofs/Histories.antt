-- THE RULE OF HISTORIES: what a sheet grown from a new one says of the frames that it was offered, in a sheet of either edition.
-- `sheet_of own history` (crates/sheet/specs/Histories.antt) is the sheet after these calls of `offer`, one after the other (`after_one_more`).
-- "a sheet that handles its first frame and afterwards copies itself" is shut out by each statement below.
-- Assumes nothing.
use mathlib.Core.Path.{◌≡◌}
use mathlib.Core.Bool.{false}
use mathlib.Core.List.{List, [], ◌∷◌, ◌++◌}
use Prim.Native.Nat.{ℕ, ◌+◌, ◌≤◌, ◌<◌, min}
use lib.ListN.{length, replicate}
use Rattle.base.specs.declared.Edition.{Edition}
use Rattle.base.specs.Checks.{refusal}
use Rattle.air.specs.Air.{word_count}
use Rattle.header.specs.Answers.{refused}
use Rattle.header_reader.specs.Reading.{patterns_of}
use Rattle.frame.specs.Frames.{Frame, frame_of}
use Rattle.source.specs.Lanes.{Role, as_caller, as_responder}
use Rattle.source.specs.Counts.{refusal_counts, slot_of}
use Rattle.source.specs.Records.{replay_of}
use Rattle.sheet.specs.Sheets.{new_sheet, source_at, lane_at, refusals_at, accepted_of, refused_of, full_sheet, same_edition, edition_of, taken_of, offer_of}
use Rattle.sheet.specs.Histories.{sheet_of, of_edition, taken_from, own_of, refused_with, Unfilled}
use Rattle.sheet.proofs.Tallies.{run_one_more}
use Rattle.sheet.proofs.History.{offered_counted, own_lane, own_record, own_refusals, never_filled, taken_before, other_before, refused_after, same_after}

module _ (own : Edition) (history : List Frame) where
  -- one call more makes the history one frame longer
  pub after_one_more : (f : Frame) → sheet_of own (history ++ f ∷ []) ≡ (offer_of own (sheet_of own history) f).sheet
  after_one_more = run_one_more own history (new_sheet own)

  -- "Frames offered, counted from the history, equal accepted over all sources plus refused over all numbers."
  pub history_counted : min full_sheet (length (of_edition own history)) ≡ accepted_of own (sheet_of own history) + refused_of (sheet_of own history)
  history_counted = offered_counted own history

  -- a lane's "frames accepted, bits repaired, missed, repeats, last FrCntTx if any" are those of its own accepted frames, heard one by one
  pub history_lane : (k : ℕ) (role : Role) → lane_at (sheet_of own history) k role ≡ replay_of (own_of k role (taken_from own history))
  history_lane = own_lane own history

  pub history_record : (k : ℕ) → source_at (sheet_of own history) k ≡ record { caller = replay_of (own_of k as_caller (taken_from own history)); responder = replay_of (own_of k as_responder (taken_from own history)) }
  history_record = own_record own history

  -- "and a count for each of the refusals": as many as there are frames refused so
  pub history_refusals : (number : ℕ) → slot_of number < refusal_counts → refusals_at (sheet_of own history) (slot_of number) ≡ refused_with number (taken_from own history)
  history_refusals = own_refusals own history

  -- "a count that would pass 4,294,967,295 stays there, which never happens to a sheet grown from a new one"
  pub history_unfilled : Unfilled (sheet_of own history)
  history_unfilled = never_filled own history

  -- "After 65,535 offered frames the sheet is full": before that a frame of its edition gets its own answer and is counted,
  pub history_takes : length (of_edition own history) < full_sheet → (f : Frame) → edition_of f ≡ own → offer_of own (sheet_of own history) f ≡ taken_of (sheet_of own history) (patterns_of f.head) (frame_of f)
  history_takes = taken_before own history

  -- one of the other edition is refused with 22, "sheet unchanged, and the frame isn't in its total";
  pub history_other : length (of_edition own history) < full_sheet → (f : Frame) → same_edition (edition_of f) own ≡ false
      → offer_of own (sheet_of own history) f ≡ record { read = record { answer = refused (refusal 22 0); patterns = replicate word_count 0 }; sheet = sheet_of own history }
  history_other = other_before own history

  -- and from then on every frame is refused with 17: "a call refused with 17 offers nothing"
  module _ (many : full_sheet ≤ length (of_edition own history)) where
    pub history_full : (f : Frame) → offer_of own (sheet_of own history) f ≡ record { read = record { answer = refused (refusal 17 full_sheet); patterns = replicate word_count 0 }; sheet = sheet_of own history }
    history_full = refused_after own history many

    -- "A new sheet is the only reset": it is the same sheet after whatever follows
    pub history_stays : (later : List Frame) → sheet_of own (history ++ later) ≡ sheet_of own history
    history_stays = same_after own history many
