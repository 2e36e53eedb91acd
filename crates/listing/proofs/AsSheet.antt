-- Record by record: the tally is that of the sheet which was offered the frames so far, and a line is that of the sheet's answer.
-- Assumes nothing.
use mathlib.Core.Path.{◌≡◌, refl, sym, ap, ap₂, ◌∙◌}
use mathlib.Core.Bool.{true, false}
use mathlib.Core.List.{List, [], ◌∷◌, ◌++◌, append-nil, append_assoc}
use Prim.Native.Nat.{ℕ, ◌+◌, ◌≤◌, ◌<◌}
use native.Mathlib.Omega.{arith}
use lib.Dec.{ltb, lit≤}
use lib.ListN.{length, drop, length-append, length-drop}
use lib.Seq.{length-take-le}
use borrow.Author.Tests.{lt-ltb, le-ltb, leb-true, leb-false}
use Rattle.std.specs.Prelude.{Ok, Err}
use Rattle.base.specs.declared.Edition.{Edition}
use Rattle.header.specs.declared.Rules.{Rules}
use Rattle.header.specs.Answers.{Answer}
use Rattle.frame.specs.Frames.{Frame, frame_of, frame_read}
use Rattle.frame.proofs.Rules.{frame_read_is}
use Rattle.record.specs.declared.Ending.{Ending}
use Rattle.record.specs.declared.Ending.TheVariants.{Full, TooLong as LongLength}
use Rattle.record.specs.declared.Cut.TheVariants.{Record}
use Rattle.record.specs.Records.{air_in, payload_in, record_size, cut_of}
use Rattle.record.proofs.Cuts.{whole_at}
use Rattle.record.proofs.Walking.{front_whole, Halts, filled, long, early, halts}
use Rattle.walk.specs.Walks.{whole, Ended, waiting, stopped, Walked, halt, behind, walk_of}
use Rattle.walk.proofs.Walking.{Stopped, walk_stops, walk_takes, by_items}
use Rattle.sheet.specs.Sheets.{Sheet}
use Rattle.sheet.specs.Sheets.{Offered}
use Rattle.sheet.specs.Sheets.{new_sheet, heard_of, full_sheet, full_of, edition_of, offer_of}
use Rattle.sheet.specs.Histories.{sheet_of, of_edition}
use Rattle.sheet.proofs.History.{offered_counted, taken_before, same_after}
use Rattle.sheet.proofs.Running.{AllOwn, all_of_edition, own_append}
use Rattle.sheet.proofs.Tallies.{run_one_more, accepted_keeps_refused, accepted_adds_one, refused_keeps_accepted, refused_adds_one}
use Rattle.lines.specs.declared.Tally.{Tally}
use Rattle.lines.specs.Tallies.{nothing_heard, total_of, tally_after}
use Rattle.lines.specs.Lines.{line_of}
use Rattle.frame.specs.Recorded.{frame_in}
use Rattle.listing.specs.Listing.{full_at, tally_in, line_in, list_reading, list_walk}
use Rattle.listing.specs.Offers.{frames_in, lines_by, tally_by, whole_ahead}
use Rattle.listing.proofs.Streaming.{list_sound}
use Rattle.listing.proofs.Frames.{frames_more, frames_long, frames_short}

-- after some frames: what became of bytes whose frames are fs is what the sheet makes of these
pub record AsSheet (own : Edition) (before fs : List Frame) (s : Walked Tally Ending) : Type 0 where
  pub lines : s.text ≡ lines_by own (sheet_of own before) fs
  pub tally : s.state ≡ tally_by own (sheet_of own (before ++ fs))
  pub cut : whole_ahead s.rest ≡ ltb full_sheet (length before + length fs)

as_same : (own : Edition) (before fs gs : List Frame) (s t : Walked Tally Ending) → fs ≡ gs → s ≡ t → AsSheet own before gs t → AsSheet own before fs s
as_same own before fs gs s t frames scans so = rw (frames, scans) so

-- frames of one edition count, all of them
as_many : (own : Edition) (before : List Frame) → AllOwn own before → length (of_edition own before) ≡ length before
as_many own before all = ap length (all_of_edition own before all)

module _ (own : Edition) (before : List Frame) (all : AllOwn own before) (few : length before ≤ full_sheet) where
  -- the bytes have no record at their front
  as_none : (l : List ℕ) (ended : Ended Ending) → whole_ahead l ≡ false → AsSheet own before [] (halt (tally_by own (sheet_of own before)) l ended)
  as_none l ended none = record {
    lines = refl;
    tally = ap (λ (h : List Frame). tally_by own (sheet_of own h)) (sym (append-nil before));
    cut = none ∙ sym (le-ltb full_sheet (length before + 0) (omega arith));
  }

  -- they have one, and the sheet is full
  as_full : full_of own (sheet_of own before) ≡ true → (f : Frame) (fs : List Frame) (l : List ℕ) → whole_ahead l ≡ true → AsSheet own before (f ∷ fs) (halt (tally_by own (sheet_of own before)) l (stopped Full))
  as_full is_full f fs l ahead =
      let many : full_sheet ≤ length (of_edition own before) = omega (arith, leb-true full_sheet (heard_of own (sheet_of own before)) is_full, offered_counted own before) in
      record {
        lines = rw is_full;
        tally = ap (tally_by own) (sym (same_after own before many (f ∷ fs)));
        cut = ahead ∙ sym (lt-ltb full_sheet (length before + length (f ∷ fs)) (omega (arith, many, as_many own before all)));
      }

-- they have one, and the sheet has room
module _ (own : Edition) (before : List Frame) (all : AllOwn own before) (open' : full_of own (sheet_of own before) ≡ false) (f : Frame) (mine : edition_of f ≡ own) where
  room : length before < full_sheet
  room = omega (arith, leb-false full_sheet (heard_of own (sheet_of own before)) open', offered_counted own before, as_many own before all)

  -- the tally after its frame is the sheet's
  tally_after_lem : tally_after (tally_by own (sheet_of own before)) (frame_of f) ≡ tally_by own (sheet_of own (before ++ f ∷ []))
  tally_after_lem = by (frame_of f) refl
    where
      by : (a : Answer) → frame_of f ≡ a → tally_after (tally_by own (sheet_of own before)) a ≡ tally_by own (sheet_of own (before ++ f ∷ []))
      by (Ok got) is = ap₂ (λ (a r : ℕ). record { accepted = a; refused = r }) (sym (accepted_adds_one own before all room f mine got.header got.flips is)) (sym (accepted_keeps_refused own before all room f mine got.header got.flips is))
      by (Err why) is = ap₂ (λ (a r : ℕ). record { accepted = a; refused = r }) (sym (refused_keeps_accepted own before all room f mine why is)) (sym (refused_adds_one own before all room f mine why is))

  -- what is read of the frame is what the sheet reads
  read_same : frame_read f ≡ (offer_of own (sheet_of own before) f).read
  read_same = frame_read_is f ∙ ap (λ (o : Offered). o.read) (sym (taken_before own before (rw (all_of_edition own before all) room) f mine))

  as_taken : (fs : List Frame) (s : Walked Tally Ending) → AsSheet own (before ++ f ∷ []) fs s → AsSheet own before (f ∷ fs) (behind (line_of own (heard_of own (sheet_of own before)) (length f.payload) (frame_read f)) s)
  as_taken fs s so =
      let so-many : length (before ++ f ∷ []) + length fs ≡ length before + length (f ∷ fs) = omega (arith, length-append before (f ∷ [])) in
      record {
        lines =
            rw open'
            (ap₂ (λ (line more : List ℕ). line ++ more)
            (ap (line_of own (heard_of own (sheet_of own before)) (length f.payload)) read_same)
            (so.lines ∙ ap (λ (t : Sheet). lines_by own t fs) (run_one_more own before (new_sheet own) f)));
        tally = so.tally ∙ ap (λ (h : List Frame). tally_by own (sheet_of own h)) (append_assoc before (f ∷ []) fs);
        cut = so.cut ∙ ap (ltb full_sheet) so-many;
      }

module _ (rules : Rules) where
  -- the tally is that of the frames before
  abbrev own : Edition
  own = rules.edition

  abbrev Own : Tally → List ℕ → Type 0
  Own tally l =
      (before : List Frame) → AllOwn own before → tally ≡ tally_by own (sheet_of own before) → length before ≤ full_sheet
      → AsSheet own before (frames_in rules l) (walk_of (list_walk rules) tally l)

  stops : (tally : Tally) (l : List ℕ) (ended : Ended Ending) → Stopped (list_walk rules) tally l ended → Own tally l
  stops tally l ended over = by ended over (halts (list_reading rules) tally l ended over)
    where
      halted_at : (ended : Ended Ending) → Stopped (list_walk rules) tally l ended → (t : Tally) → tally ≡ t → walk_of (list_walk rules) tally l ≡ halt t l ended
      halted_at ended over t is = walk_stops (list_walk rules) (list_sound rules) tally l ended over ∙ ap (λ (x : Tally). halt x l ended) is

      by : (ended : Ended Ending) → Stopped (list_walk rules) tally l ended → Halts (full_at tally) l ended → Own tally l
      by ended over (filled {n} e g) before all is few =
          as_same own before _ _ _ _ (frames_more rules l n e) (halted_at (stopped Full) over (tally_by own (sheet_of own before)) is)
          (as_full own before all few (sym (ap full_at is) ∙ g) (frame_in rules n l) (frames_in rules (drop (record_size n) l)) l (rw e))
      by ended over (long e) before all is few =
          as_same own before _ _ _ _ (frames_long rules l e) (halted_at (stopped LongLength) over (tally_by own (sheet_of own before)) is) (as_none own before all few l (stopped LongLength) (rw e))
      by ended over (early e) before all is few =
          as_same own before _ _ _ _ (frames_short rules l e) (halted_at waiting over (tally_by own (sheet_of own before)) is) (as_none own before all few l waiting (rw e))

  takes : (tally : Tally) (l : List ℕ) (n : ℕ) → (list_walk rules).cut tally l ≡ whole n → Own (tally_in rules tally (air_in l) (payload_in n l)) (drop (record_size n) l) → Own tally l
  takes tally l n item more before all is few =
      let f : Frame = frame_in rules n l in
      let m : List ℕ = drop (record_size n) l in
      let e : cut_of l ≡ Record n = (front_whole (full_at tally) l n item).0 in
      let open' : full_of own (sheet_of own before) ≡ false = sym (ap full_at is) ∙ (front_whole (full_at tally) l n item).1 in
      let after : Walked Tally Ending = walk_of (list_walk rules) (tally_in rules tally (air_in l) (payload_in n l)) m in
      let line : line_in rules tally (air_in l) (payload_in n l) ≡ line_of own (heard_of own (sheet_of own before)) (length (payload_in n l)) (frame_read f) =
      ap (λ (k : ℕ). line_of own k (length (payload_in n l)) (frame_read f)) (ap total_of is) in
      as_same own before _ _ _ _ (frames_more rules l n e)
      (walk_takes (list_walk rules) (list_sound rules) tally l n item ∙ ap (λ (text : List ℕ). behind text after) line)
      (as_taken own before all open' f refl (frames_in rules m) after
      (more (before ++ f ∷ []) (own_append own before (f ∷ []) all (refl, tt)) (ap (λ (t : Tally). tally_after t (frame_of f)) is ∙ tally_after_lem own before all open' f refl)
      (omega (arith, room own before all open' f refl, length-append before (f ∷ [])))))

  -- so it is from the first record on
  new_tally : nothing_heard ≡ tally_by own (sheet_of own [])
  new_tally = ap₂ (λ (a r : ℕ). record { accepted = a; refused = r }) (omega (arith, offered_counted own [])) (omega (arith, offered_counted own []))

  pub as_sheet : (input : List ℕ) → AsSheet rules.edition [] (frames_in rules input) (walk_of (list_walk rules) nothing_heard input)
  as_sheet input = by_items (list_walk rules) (list_sound rules) Own stops takes nothing_heard input [] tt new_tally (lit≤ tt)
