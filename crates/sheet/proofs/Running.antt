-- A sheet over a history: it takes frames while it has room, and a full one stays as it is.
-- Assumes nothing.
use mathlib.Core.Path.{◌≡◌, refl, ap, ap₂, ◌∙◌}
use mathlib.Core.Bool.{Bool, true, false, cond}
use mathlib.Core.List.{List, [], ◌∷◌, ◌++◌}
use Prim.Native.Nat.{ℕ, zero, suc, ◌+◌, ◌≤◌, ◌<◌, min}
use native.Mathlib.Nat.{zero-add}
use native.Mathlib.Omega.{arith}
use lib.ListN.{length, take, length-take, length-replicate}
use Rattle.base.specs.declared.Edition.{Edition}
use Rattle.source.specs.declared.Source.{Source}
use Rattle.source.specs.Records.{silent_lane}
use Rattle.source.specs.Lanes.{Role, as_caller, as_responder, silent, frames_of}
use Rattle.source.specs.Counts.{refusal_counts}
use Rattle.sheet.specs.Sheets.{Sheet}
use Rattle.sheet.specs.Sheets.{Offered}
use Rattle.sheet.specs.Sheets.{records_of, new_sheet, source_at, lane_at, refusals_at, counted_of, accepted_of, refused_of, heard_of, full_sheet, same_edition, edition_of}
use Rattle.sheet.specs.Histories.{run_of, sheet_of, count_all, of_edition, taken_from}
use Rattle.sheet.proofs.Offering.{frame_countable, same_is, same_self, full_refuses, room_takes, other_stays}
use Rattle.sheet.proofs.Counted.{Grown, counted_grown}
use Rattle.base.proofs.OneMore.{sum_zeros}
use Rattle.base.proofs.Tabulate.{read_replicated}
use Rattle.frame.specs.Frames.{Frame, frame_of}

module _ (own : Edition) where
  -- a new sheet has heard no source and counted no refusal
  new_silent : (k : ℕ) → source_at (new_sheet own) k ≡ silent
  new_silent k = read_replicated (records_of own) k silent

  pub new_lane : (k : ℕ) (role : Role) → lane_at (new_sheet own) k role ≡ silent_lane
  new_lane k as_caller = ap (λ (s : Source). s.caller) (new_silent k)
  new_lane k as_responder = ap (λ (s : Source). s.responder) (new_silent k)

  pub new_refusals : (k : ℕ) → refusals_at (new_sheet own) k ≡ 0
  new_refusals k = read_replicated refusal_counts k 0

  new_heard : heard_of own (new_sheet own) ≡ 0
  unfolding accepted_of refused_of
  new_heard =
      ap₂ (λ (x y : ℕ). x + y) (sum_zeros (records_of own) (λ k. frames_of (source_at (new_sheet own) k)) (λ k. ap frames_of (new_silent k)))
      (sum_zeros refusal_counts (refusals_at (new_sheet own)) new_refusals)

  pub new_grown : Grown own 0 (new_sheet own)
  new_grown = record {
    sources_long = length-replicate (records_of own) silent;
    refusals_long = refl;
    heard_is = new_heard;
    within = λ k role. rw (new_lane k role) (omega arith);
  }

-- frames that are all of the sheet's edition
abbrev pub AllOwn : Edition → List Frame → Type 0
AllOwn own [] = Unit {0}
AllOwn own (f ∷ fs) = (edition_of f ≡ own) × AllOwn own fs

take_own : (own : Edition) (m : ℕ) (fs : List Frame) → AllOwn own fs → AllOwn own (take m fs)
take_own own zero fs all = tt
take_own own (suc m) [] all = tt
take_own own (suc m) (f ∷ fs) all = (all.0, take_own own m fs all.1)

of_edition_own : (own : Edition) (fs : List Frame) → AllOwn own (of_edition own fs)
of_edition_own own [] = tt
of_edition_own own (f ∷ fs) = by (same_edition (edition_of f) own) refl (of_edition_own own fs)
  where
    by : (b : Bool) → same_edition (edition_of f) own ≡ b → AllOwn own (of_edition own fs) → AllOwn own (cond b (f ∷ of_edition own fs) (of_edition own fs))
    by true e rest = (same_is (edition_of f) own e, rest)
    by false e rest = rest

-- of these none is left out
pub all_of_edition : (own : Edition) (fs : List Frame) → AllOwn own fs → of_edition own fs ≡ fs
all_of_edition own [] all = refl
all_of_edition own (f ∷ fs) all =
    let same : same_edition (edition_of f) own ≡ true = rw all.0 (same_self own) in
    rw same (ap (λ (l : List Frame). f ∷ l) (all_of_edition own fs all.1))

pub own_append : (own : Edition) (fs gs : List Frame) → AllOwn own fs → AllOwn own gs → AllOwn own (fs ++ gs)
own_append own [] gs all more = more
own_append own (f ∷ fs) gs all more = (all.0, own_append own fs gs all.1 more)

pub taken_own : (own : Edition) (history : List Frame) → AllOwn own (taken_from own history)
taken_own own history = take_own own full_sheet (of_edition own history) (of_edition_own own history)

module _ (own : Edition) where
  -- it has taken one frame more after each
  pub one_grown : (n : ℕ) (sheet : Sheet) → Grown own n sheet → n < full_sheet → (f : Frame) → edition_of f ≡ own → Grown own (n + 1) (counted_of sheet (frame_of f))
  one_grown n sheet so room f mine = counted_grown own n sheet so room (frame_of f) (frame_countable own f mine)

  -- and as many as there are after all
  all_grown : (fs : List Frame) → AllOwn own fs → (n : ℕ) (sheet : Sheet) → Grown own n sheet → n + length fs ≤ full_sheet → Grown own (n + length fs) (count_all sheet fs)
  all_grown [] mine n sheet so room = let same : n + 0 ≡ n = omega arith in rw same so
  all_grown (f ∷ fs) mine n sheet so room =
      let shift : n + suc (length fs) ≡ n + 1 + length fs = omega arith in
      rw shift (all_grown fs mine.1 (n + 1) (counted_of sheet (frame_of f)) (one_grown n sheet so (omega arith) f mine.0) (omega arith))

  -- a full sheet stays as it is
  pub full_stays : (sheet : Sheet) → full_sheet ≤ heard_of own sheet → (fs : List Frame) → run_of own sheet fs ≡ sheet
  full_stays sheet many [] = refl
  full_stays sheet many (f ∷ fs) =
      ap (λ (o : Offered). run_of own o.sheet fs) (full_refuses own sheet f many) ∙ full_stays sheet many fs

  -- so a sheet with room for m frames takes m frames, those of its edition
  run_takes : (fs : List Frame) (m n : ℕ) (sheet : Sheet) → n + m ≡ full_sheet → Grown own n sheet → run_of own sheet fs ≡ count_all sheet (take m (of_edition own fs))
  run_takes fs zero n sheet e so = full_stays sheet (omega (arith, so.heard_is)) fs
  run_takes [] (suc m) n sheet e so = refl
  run_takes (f ∷ fs) (suc m) n sheet e so =
      by (same_edition (edition_of f) own) refl (λ next grown. run_takes fs m (n + 1) next (omega arith) grown) (run_takes fs (suc m) n sheet e so)
    where
      by : (b : Bool) → same_edition (edition_of f) own ≡ b
          → ((next : Sheet) → Grown own (n + 1) next → run_of own next fs ≡ count_all next (take m (of_edition own fs)))
          → run_of own sheet fs ≡ count_all sheet (take (suc m) (of_edition own fs))
          → run_of own sheet (f ∷ fs) ≡ count_all sheet (take (suc m) (cond b (f ∷ of_edition own fs) (of_edition own fs)))
      by true same taken left =
          let mine : edition_of f ≡ own = same_is (edition_of f) own same in
          let next : Sheet = counted_of sheet (frame_of f) in
          ap (λ (o : Offered). run_of own o.sheet fs) (room_takes own sheet f (omega (arith, so.heard_is)) mine)
          ∙ taken next (one_grown n sheet so (omega arith) f mine)
      by false other taken left = ap (λ (s : Sheet). run_of own s fs) (other_stays own sheet f other) ∙ left

  -- and a new sheet the first 65,535
  pub history_taken : (history : List Frame) → sheet_of own history ≡ count_all (new_sheet own) (taken_from own history)
  history_taken history = run_takes history full_sheet 0 (new_sheet own) refl (new_grown own)

  -- which are no more than 65,535
  pub history_few : (history : List Frame) → 0 + length (taken_from own history) ≤ full_sheet
  history_few history = omega (arith, length-take full_sheet (of_edition own history))

  -- so it has taken as many as there are, or 65,535
  pub history_grown : (history : List Frame) → Grown own (min full_sheet (length (of_edition own history))) (sheet_of own history)
  history_grown history =
      rw (history_taken history, ← length-take full_sheet (of_edition own history), ← zero-add (length (taken_from own history)))
      (all_grown (taken_from own history) (taken_own own history) 0 (new_sheet own) (new_grown own) (history_few history))
