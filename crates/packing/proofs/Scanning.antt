-- The loop of `pack_lines`: the lines before the rest are packed, and their records are put.
-- Assumes nothing.
use Rattle.std.specs.Prelude.{Ok, Err}
use Rattle.std.proofs.Common.{◌≡◌, ℕ, ◌+◌, ◌-◌, ◌*◌, ◌^◌, ◌<◌, ◌≤◌, Bool, true, false, List, [], length, take, drop, sym, refl, ap, ◌∙◌, true≢false, arith, length-drop, length-take-le, w64, Fits}
use lib.Seq.{take-length}
use Rattle.text.specs.Text.{Put}
use Rattle.walk.specs.Walks.{whole, stops, stopped, waiting}
use Rattle.walk.specs.Scans.{Scanned}
use Rattle.walk.proofs.Walking.{halted, short}
use Rattle.walk.proofs.Scanning as scan
use Rattle.packing.specs.declared.Fault.TheVariants.{LongLine}
use Rattle.packing.specs.declared.Front.{Front}
use Rattle.packing.specs.declared.Front.TheVariants.{Line, TooLong, Unended}
use Rattle.packing.specs.declared.Packed.{Packed}
use Rattle.packing.specs.Lines.{Judged, fine, wrong, longest_line, judged_of, packed_by, packed_parts, pack_letters, pack_of, letters_in, passed_over, header_in, digits_in, record_of}
use Rattle.packing.specs.Packing.{wrong_of, front_of, lines_after, judged_front, line_front, pack_walk, judged_ends}
use Rattle.packing.specs.Promises.{Packs}
use Rattle.packing.proofs.Fronts.{LineAt, line_at}
use Rattle.packing.proofs.Streaming.{pack_sound}

abbrev pub Scanning : ℕ → List ℕ → List ℕ → ℕ → List ℕ → ℕ → List ℕ → ℕ → Type 0
Scanning = scan.Scanning pack_walk pack_sound 2

pub starts : (lines : ℕ) (l before : List ℕ) (at : ℕ) → at + 2 * length l ≤ length before → Scanning lines l before at before lines l at
starts = scan.starts pack_walk pack_sound 2

pub fine_is : (j : Judged) → wrong_of j ≡ false → j ≡ fine
fine_is (Ok u) e = refl
fine_is (Err why) e = absurd (true≢false e)

wrong_stops : (n : ℕ) (j : Judged) → wrong_of j ≡ true → judged_ends j ≡ stopped j
wrong_stops n (Ok u) e = absurd (true≢false (sym e))
wrong_stops n (Err why) e = refl

wrong_front : (n : ℕ) (j : Judged) → wrong_of j ≡ true → judged_front n j ≡ stops j
wrong_front n (Ok u) e = absurd (true≢false (sym e))
wrong_front n (Err why) e = refl

-- a wrong line has no bytes
by_none : (j : Judged) (bytes : List ℕ) → wrong_of (packed_by j bytes).judged ≡ true → (packed_by j bytes).bytes ≡ []
by_none (Ok u) bytes e = absurd (let z : ◌≡◌ {A = ℕ} 0 1 = cc in omega arith)
by_none (Err why) bytes e = refl

pub wrong_none : (line : List ℕ) → wrong_of (pack_of line).judged ≡ true → (pack_of line).bytes ≡ []
unfolding pack_of packed_parts
wrong_none line e = by (passed_over (letters_in line)) refl e
  where
    by : (b : Bool) → passed_over (letters_in line) ≡ b → wrong_of (pack_letters (letters_in line)).judged ≡ true → (pack_letters (letters_in line)).bytes ≡ []
    by true p e = rw p (by_none fine [] (rw p at e))
    by false p e =
        rw p (by_none (judged_of (header_in (letters_in line)) (digits_in (letters_in line))) (record_of (header_in (letters_in line)) (digits_in (letters_in line))) (rw p at e))

module _ (start : ℕ) (l before : List ℕ) (at : ℕ) (out : List ℕ) (lines : ℕ) (rest : List ℕ) (to : ℕ) (so : Scanning start l before at out lines rest to) (f : Front) (is : f ≡ front_of rest) where
  front : (e : Front) → f ≡ e → pack_walk.cut lines rest ≡ line_front rest e
  front e same = ap (line_front rest) (sym is ∙ same)

  pub stops_long : f ≡ TooLong → Scanned pack_walk 2 start l before at out lines (length rest) to (judged_ends (wrong LongLine (longest_line + 1)))
  stops_long e = scan.scan_ends pack_walk pack_sound 2 start l before at out lines rest to so (stopped (wrong LongLine (longest_line + 1))) (halted (front TooLong e))

  pub stops_open : f ≡ Unended → Scanned pack_walk 2 start l before at out lines (length rest) to (judged_ends fine)
  stops_open e = scan.scan_ends pack_walk pack_sound 2 start l before at out lines rest to so waiting (short (front Unended e))

  module _ (n : ℕ) (e : f ≡ Line n) where
    there : LineAt rest n
    there = line_at rest n (sym is ∙ e)

    -- the line is there, is short, and its record has room
    pub line_inside : n + 1 ≤ length rest
    line_inside = omega (arith, there.there)

    pub end_inside : n ≤ length rest
    end_inside = omega (arith, line_inside)

    pub size_fits : length l < 2 ^ 64 → Fits w64 (n + 1)
    size_fits few = record { fits = omega (arith, line_inside, so.ahead, so.lines.place) }

    line_size : length (take n rest) ≡ n
    line_size = length-take-le n rest (omega (arith, line_inside))

    pub line_short : length (take n rest) ≤ longest_line
    line_short = omega (arith, line_size, there.within)

    pub has_room : to + 2 * length (take n rest) ≤ length out
    has_room = omega (arith, line_size, line_inside, so.room, so.ahead, so.lines.kept)

    module _ (out' : List ℕ) (r : Packed) (packs₀ : Packs (take n rest) out to out' r) (b : Bool) (tells : b ≡ wrong_of r.judged) where
      pub stops_wrong : b ≡ true → Scanned pack_walk 2 start l before at out' lines (length rest) r.to (judged_ends r.judged)
      stops_wrong g =
          let bad : wrong_of (pack_of (take n rest)).judged ≡ true = sym (ap wrong_of packs₀.judged_is) ∙ sym tells ∙ g in
          let nothing : Put out to [] out' r.to = rw (wrong_none (take n rest) bad) at packs₀.put in
          rw (packs₀.judged_is, wrong_stops n (pack_of (take n rest)).judged bad)
          (scan.scan_ends pack_walk pack_sound 2 start l before at out' lines rest r.to (scan.puts_nothing pack_walk pack_sound 2 start l before at out lines rest to so out' r.to nothing)
          (stopped (pack_of (take n rest)).judged) (halted (front (Line n) e ∙ wrong_front n (pack_of (take n rest)).judged bad)))

      module _ (well : b ≡ false) where
        item : pack_walk.cut lines rest ≡ whole n
        item = front (Line n) e ∙ ap (judged_front n) (fine_is (pack_of (take n rest)).judged (sym (ap wrong_of packs₀.judged_is) ∙ sym tells ∙ well))

        module _ (next : List ℕ) (behind : next ≡ take (length rest - (n + 1)) (drop (n + 1) rest)) where
          is_rest : next ≡ drop (n + 1) rest
          is_rest = behind ∙ rw (← length-drop (n + 1) rest) (take-length (drop (n + 1) rest))

          pub less : length next < length rest
          less = rw is_rest (scan.less pack_walk pack_sound 2 start l before at out lines rest to so n item)

          pub goes_on : (more : ℕ) → more ≡ lines_after lines 1 → Scanning start l before at out' more next r.to
          goes_on more counted =
              rw is_rest (scan.goes_on pack_walk pack_sound 2 start l before at out lines rest to so n item (2 * (n + 1)) (omega arith) more counted out' r.to packs₀.put (omega (arith, packs₀.short, line_size)))
