-- A frame offered to a sheet: what changes there, the place that its answer has, refusals 17 and 22, and what is left to the frame.
-- Assumes nothing.
use mathlib.Core.Path.{◌≡◌, refl, sym, ap, ap₂, ◌∙◌}
use mathlib.Core.Bool.{Bool, true, false, true≢false}
use mathlib.Core.Logic.{⊎_elim}
use mathlib.Core.List.{List}
use Prim.Native.Nat.{ℕ, ◌*◌, ◌^◌, ◌≤◌, ◌<◌}
use native.Mathlib.Omega.{arith}
use lib.Dec.{leb}
use lib.ListN.{set, replicate}
use borrow.Author.Tests.{le-leb, lt-leb, leb-true, leb-false}
use Rattle.std.specs.Prelude.{Ok, Err}
use Rattle.base.specs.declared.Refusal.{Refusal}
use Rattle.base.specs.declared.Edition.{Edition}
use Rattle.base.specs.declared.Edition.TheVariants.{Flown, Corrected}
use Rattle.base.specs.Checks.{refusal}
use Rattle.base.specs.Lists.{lowest}
use Rattle.base.proofs.Tests.{lt_or_ge}
use Rattle.air.specs.Air.{word_count}
use Rattle.air.specs.Flips.{most_flips}
use Rattle.sign.specs.Calls.{Call}
use Rattle.header.specs.declared.Header.{Header}
use Rattle.header.specs.declared.Read.{Read}
use Rattle.header.specs.declared.Rules.{Rules}
use Rattle.header.specs.declared.Accepted.{Accepted}
use Rattle.header.specs.Answers.{Answer, refused}
use Rattle.header.specs.Patterns.{beside}
use Rattle.header_reader.specs.Reading.{patterns_of}
use Rattle.header.proofs.Beside.{beside_answer}
use Rattle.frame.specs.Frames.{Frame, frame_with, frame_numbers, frame_of, frame_read}
use Rattle.frame.proofs.Bounds.{frame_source, frame_number, frame_flips}
use Rattle.frame.proofs.Rules.{frame_first, frame_read_is, frame_answer}
use Rattle.source.specs.declared.Source.{Source}
use Rattle.source.specs.declared.Display.{Display}
use Rattle.source.specs.Records.{count_limit}
use Rattle.source.specs.Lanes.{lanes, accepted_in, silent, source_in, record_of, hear_of, summed_of, display_in}
use Rattle.source.proofs.Lanes.{shows, shows_none}
use Rattle.source.specs.Counts.{total_in, refusal_counts, counts_after}
use Rattle.source.proofs.Counts.{HasSlot, have_slots, stays_17, stays_22}
use Rattle.sheet.specs.declared.Sheet.{Sheet as SheetOf}
use Rattle.sheet.specs.declared.Offered.{Offered as OfferedOf}
use Rattle.sheet.specs.Sheets.{Sheet, held, sized, sized_offered, edition_with, OfEdition, display_of}
use Rattle.sheet.specs.Sheets.{Offered}
use Rattle.sheet.specs.Sheets.{records_of, new_sheet, source_at, accept_of, counted_of, accepted_of, refused_of, heard_of, full_sheet, full_of, same_edition, edition_of, offer_answer, taken_of, offer_of}

-- a sheet that was offered nothing
pub starts_new : (own : Edition) (s : Source) → s ≡ silent → record { sources = replicate (records_of own) s; refusals = replicate refusal_counts 0 } ≡ new_sheet own
starts_new own s none = rw none

-- the sheet with one record changed
pub accepts : (sheet : Sheet) (h : Header) (flips : ℕ) (changed : Source) → changed ≡ hear_of (source_at sheet (record_of h)) h flips → record { sources = set sheet.sources (record_of h) changed; refusals = sheet.refusals } ≡ accept_of sheet h flips
unfolding accept_of
accepts sheet h flips changed is = rw is

-- the two sums, and the test of both together
pub sums_accepted : (own : Edition) (sheet : Sheet) (sum : ℕ) → sum ≡ accepted_in (records_of own) sheet.sources → sum ≡ accepted_of own sheet
unfolding accepted_of
sums_accepted own sheet sum is = is

pub sums_refused : (sheet : Sheet) (sum : ℕ) → sum ≡ total_in sheet.refusals → sum ≡ refused_of sheet
unfolding refused_of
sums_refused sheet sum is = is

pub fills : (own : Edition) (sheet : Sheet) (sum : ℕ) → sum ≡ heard_of own sheet → leb full_sheet sum ≡ full_of own sheet
fills own sheet sum is = rw is

-- two editions are the same where the test says so
pub same_is : (a b : Edition) → same_edition a b ≡ true → a ≡ b
same_is Flown Flown e = refl
same_is Flown Corrected e = absurd (true≢false (sym e))
same_is Corrected Flown e = absurd (true≢false (sym e))
same_is Corrected Corrected e = refl

pub same_self : (a : Edition) → same_edition a a ≡ true
same_self Flown = refl
same_self Corrected = refl

-- the answers that have their place on a sheet
pub data Countable (own : Edition) : Answer → Type 0 where
  recorded : {a : Accepted} → record_of a.header < records_of own → a.flips ≤ most_flips → Countable own (Ok a)
  numbered : {why : Refusal} → HasSlot why.number → Countable own (Err why)

-- every answer to a frame of the sheet's edition has
pub frame_countable : (own : Edition) (f : Frame) → edition_of f ≡ own → Countable own (frame_of f)
unfolding lowest
frame_countable own f same = by (frame_of f) refl
  where
    by : (a : Answer) → frame_of f ≡ a → Countable own a
    by (Ok a) is = recorded {a = a} (omega (arith, rw same at (frame_source f a.header a.flips is))) (frame_flips f a.header a.flips is)
    by (Err why) is = numbered (have_slots frame_numbers why.number refl (frame_number f why is))

-- a full sheet gives 17, one of the other edition 22, and any other the frame's answer
module _ (own : Edition) (sheet : Sheet) (f : Frame) where
  answers_17 : full_sheet ≤ heard_of own sheet → offer_answer own sheet f ≡ refused (refusal 17 full_sheet)
  unfolding offer_answer
  answers_17 many = rw (le-leb full_sheet (heard_of own sheet) many)

  answers_22 : heard_of own sheet < full_sheet → same_edition (edition_of f) own ≡ false → offer_answer own sheet f ≡ refused (refusal 22 0)
  unfolding offer_answer
  answers_22 room other = rw (lt-leb full_sheet (heard_of own sheet) room, other)

  pub answers_frame : heard_of own sheet < full_sheet → edition_of f ≡ own → offer_answer own sheet f ≡ frame_of f
  unfolding offer_answer
  answers_frame room same =
      let tested : same_edition (edition_of f) own ≡ true = rw same (same_self own) in
      rw (lt-leb full_sheet (heard_of own sheet) room, tested) (sym (frame_first f))

module _ (own : Edition) (sheet : Sheet) (f : Frame) where
  pub full_refuses : full_sheet ≤ heard_of own sheet → offer_of own sheet f ≡ record { read = record { answer = refused (refusal 17 full_sheet); patterns = replicate word_count 0 }; sheet = sheet }
  full_refuses many = rw (answers_17 own sheet f many, stays_17 sheet.refusals)

  pub other_refuses : heard_of own sheet < full_sheet → same_edition (edition_of f) own ≡ false
      → offer_of own sheet f ≡ record { read = record { answer = refused (refusal 22 0); patterns = replicate word_count 0 }; sheet = sheet }
  other_refuses room other = rw (answers_22 own sheet f room other, stays_22 sheet.refusals)

  -- a sheet with room takes a frame of its edition
  pub room_takes : heard_of own sheet < full_sheet → edition_of f ≡ own → offer_of own sheet f ≡ taken_of sheet (patterns_of f.head) (frame_of f)
  room_takes room same = ap (taken_of sheet (patterns_of f.head)) (answers_frame own sheet f room same)

  -- and stays as it is at any other
  pub other_stays : same_edition (edition_of f) own ≡ false → (offer_of own sheet f).sheet ≡ sheet
  other_stays other =
      ⊎_elim (λ (room : heard_of own sheet < full_sheet). ap (λ (o : Offered). o.sheet) (other_refuses room other))
      (λ (many : full_sheet ≤ heard_of own sheet). ap (λ (o : Offered). o.sheet) (full_refuses many))
      (lt_or_ge (heard_of own sheet) full_sheet)

  -- the patterns leave the answer as it is
  pub offered_answer : (offer_of own sheet f).read.answer ≡ offer_answer own sheet f
  offered_answer = beside_answer (patterns_of f.head) (offer_answer own sheet f)

pub has_room : {S : Type 0} (own : Edition) (held : S → Sheet) (sheet : S) (full : Bool) → full ≡ full_of own (held sheet) → full ≡ false → heard_of own (held sheet) < full_sheet
has_room own held sheet full tested left = leb-false full_sheet (heard_of own (held sheet)) (sym tested ∙ left)

-- THE SAME, as either sheet finds it: what it holds, and what is made of an offered frame's answer and sheet
module _ {S R : Type 0} (own : Edition) (held : S → Sheet) (from : Offered → R) (sheet : S) (rules : Rules) (call : Call) (air payload : List ℕ) where
  abbrev f : Frame
  f = frame_with rules call air payload

  pub gives_17 : (read : Read) → read ≡ beside (replicate word_count 0) (refused (refusal 17 full_sheet)) → (full : Bool) → full ≡ full_of own (held sheet) → full ≡ true
      → from (record { read = read; sheet = held sheet }) ≡ from (offer_of own (held sheet) (frame_with rules call air payload))
  gives_17 read is full tested taken =
      ap from (rw is (sym (full_refuses own (held sheet) f (leb-true full_sheet (heard_of own (held sheet)) (sym tested ∙ taken)))))

  module _ (full : Bool) (tested : full ≡ full_of own (held sheet)) (left : full ≡ false) where
    pub gives_22 : (same : Bool) → same ≡ same_edition rules.edition own → same ≡ false → (read : Read) → read ≡ beside (replicate word_count 0) (refused (refusal 22 0))
        → from (record { read = read; sheet = held sheet }) ≡ from (offer_of own (held sheet) (frame_with rules call air payload))
    gives_22 same compared other read is = ap from (rw is (sym (other_refuses own (held sheet) f (has_room own held sheet full tested left) (sym compared ∙ other))))

  module _ (read : Read) (is : read ≡ frame_read (frame_with rules call air payload)) (mine : rules.edition ≡ own) where
    pub has_record : (told : Accepted) → read.answer ≡ Ok told → record_of told.header < records_of own
    has_record told e = omega (arith, rw mine at (frame_source f told.header told.flips (sym (frame_answer f read is) ∙ e)))

    pub takes : heard_of own (held sheet) < full_sheet → (a : Answer) → read.answer ≡ a → (after : Sheet) → after ≡ counted_of (held sheet) a
        → from (record { read = read; sheet = after }) ≡ from (offer_of own (held sheet) (frame_with rules call air payload))
    takes room a e after counts =
        let same : a ≡ frame_of f = sym e ∙ frame_answer f read is in
        ap from
        (ap₂ (λ (x : Read) (y : Sheet). record { read = x; sheet = y }) (is ∙ frame_read_is f) (counts ∙ ap (counted_of (held sheet)) same)
        ∙ sym (room_takes own (held sheet) f room mine))

    pub takes_refusal : heard_of own (held sheet) < full_sheet → (why : Refusal) → read.answer ≡ refused why → (changed : List ℕ) → changed ≡ counts_after (held sheet).refusals why.number
        → from (record { read = read; sheet = record { sources = (held sheet).sources; refusals = changed } }) ≡ from (offer_of own (held sheet) (frame_with rules call air payload))
    takes_refusal room why e changed is = takes room (refused why) e (record { sources = (held sheet).sources; refusals = changed }) (rw is)

-- A SHEET OF n RECORDS, as many as its edition has
module _ (n : ℕ) (of : OfEdition n) where
  -- a sheet that was offered nothing
  pub starts : (s : Source) → s ≡ silent → ◌≡◌ {A = SheetOf n} (record { sources = replicate n s; refusals = replicate refusal_counts 0 }) (sized n (new_sheet (edition_with n)))
  starts s none = ap (λ (m : ℕ). sized n (record { sources = replicate m s; refusals = replicate refusal_counts 0 })) of ∙ ap (sized n) (starts_new (edition_with n) s none)

  -- so few sums have room in 64 bits
  pub few_records : n * (lanes * count_limit) < 2 ^ 64
  few_records = by (edition_with n) of
    where
      by : (own : Edition) → n ≡ records_of own → n * (lanes * count_limit) < 2 ^ 64
      by Flown e = omega arith
      by Corrected e = omega arith

  module _ (sheet : SheetOf n) where
    -- the numbers of a source with a record, and of one without
    module _ (k : ℕ) (found : Source) (shown : Display) (is : shown ≡ summed_of found) where
      pub shows_own : k < n → found ≡ source_in sheet.sources k → shown ≡ display_of (edition_with n) (held sheet) k
      shows_own below there = shows n k sheet.sources found shown is below there ∙ ap (λ (m : ℕ). display_in m sheet.sources k) of

      pub shows_own_none : n ≤ k → found ≡ silent → shown ≡ display_of (edition_with n) (held sheet) k
      shows_own_none past none = shows_none n k sheet.sources found shown is past none ∙ ap (λ (m : ℕ). display_in m sheet.sources k) of

    -- the sum of the accepted
    pub sums_own : (sum : ℕ) → sum ≡ accepted_in n sheet.sources → sum ≡ accepted_of (edition_with n) (held sheet)
    sums_own sum is = sums_accepted (edition_with n) (held sheet) sum (is ∙ ap (λ (m : ℕ). accepted_in m sheet.sources) of)

-- with one record changed
pub accepts_sized : (n : ℕ) (sheet : SheetOf n) (h : Header) (flips : ℕ) (changed : Source) → changed ≡ hear_of (source_in sheet.sources (record_of h)) h flips
    → ◌≡◌ {A = SheetOf n} (record { sources = set sheet.sources (record_of h) changed; refusals = sheet.refusals }) (sized n (accept_of (held sheet) h flips))
accepts_sized n sheet h flips changed is = ap (sized n) (accepts (held sheet) h flips changed is)

-- and with an answer counted
module _ (n : ℕ) (sheet : SheetOf n) (rules : Rules) (call : Call) (air payload : List ℕ) (read : Read) (is : read ≡ frame_read (frame_with rules call air payload)) (own : rules.edition ≡ edition_with n) where
  pub takes_sized : heard_of (edition_with n) (held sheet) < full_sheet → (told : Accepted) → read.answer ≡ Ok told → (after : SheetOf n) → after ≡ sized n (accept_of (held sheet) told.header told.flips)
      → ◌≡◌ {A = OfferedOf n} (record { read = read; sheet = after }) (sized_offered n (offer_of (edition_with n) (held sheet) (frame_with rules call air payload)))
  takes_sized room told e after counts =
      ap (λ (w : SheetOf n). record { read = read; sheet = w }) counts
      ∙ takes (edition_with n) held (sized_offered n) sheet rules call air payload read is own room (Ok told) e (accept_of (held sheet) told.header told.flips) refl

  pub has_record_sized : OfEdition n → (told : Accepted) → read.answer ≡ Ok told → record_of told.header < n
  has_record_sized of told e = omega (arith, of, has_record (edition_with n) held (sized_offered n) sheet rules call air payload read is own told e)

-- the edition that was found to be the sheet's
pub mine : (own edition : Edition) (same : Bool) → same ≡ same_edition edition own → same ≡ true → edition ≡ own
mine own edition same compared taken = same_is edition own (sym compared ∙ taken)
