-- That all turns together search a recording: each takes what can be taken of the bytes that were read.
-- Assumes nothing.
use Rattle.std.specs.Prelude.{Option, None, Some, is_some, IfSome}
use Rattle.std.proofs.lemmas.Option.{IfSome_then, none-some, same_Some}
use mathlib.Core.Path.{◌≡◌, refl, sym, ap, ◌∙◌}
use mathlib.Core.Bool.{Bool, true, false, true≢false}
use mathlib.Core.List.{List, [], ◌++◌}
use Prim.Native.Nat.{ℕ, ◌≤◌, zero-le}
use native.Mathlib.Omega.{arith}
use lib.ListN.{length, take}
use Rattle.base.specs.declared.Edition.{Edition}
use Rattle.text.specs.Text.{Put}
use Rattle.text.proofs.Sizes.{part_size}
use Rattle.lines.specs.declared.Tally.{Tally}
use Rattle.lines.specs.Tallies.{nothing_heard, total_of}
use Rattle.lines.specs.Recordings.{Stop, ending_of}
use Rattle.streams.specs.declared.Filled.{Filled}
use Rattle.streams.specs.declared.Next.{Next}
use Rattle.streams.specs.declared.Next.TheVariants.{More, Done, Failed}
use Rattle.streams.specs.Turns.{ReadOn, read_on, ended_of}
use Rattle.marks.specs.declared.State.{State}
use Rattle.marks.specs.Marked.{marks_of}
use Rattle.marks.specs.Pieces.{fresh_state, moved_on, grown, marks_at}
use Rattle.marks.proofs.Cuts.{starts, grows, grown_total, marks_grow, none_marked}
use Rattle.reporting.specs.declared.Taking.{Taking}
use Rattle.reporting.specs.Texts.{tally_over}
use Rattle.reporting.specs.Takings.{why_no_more, taken_bits, taking_of}
use Rattle.reporting.proofs.Telling.{tally_append, tally_none}
use Rattle.reporting.proofs.Fronts.{taken_front, taken_state, taken_stop, taken_total}
use Rattle.night.specs.declared.Turned.{Turned}
use Rattle.night.specs.Turns.{AllTold, Moves, MovesOn, Heard, Goes, Whole, Closing}

-- what a function gives where it gives something
went_well : {A : Type 0} (P : A → Type 0) (r : Option A) → IfSome r P → (so : A) → r ≡ Some so → P so
went_well P r ends so went = rw went at ends

-- a search that has not stopped
no_stop : (stop : Stop) → is_some stop ≡ false → stop ≡ None
no_stop None on = refl
no_stop (Some why) on = absurd (true≢false on)

-- where there is more to read, the turns have ended just where the search stopped
more_ended : (stopped : Bool) → ended_of (read_on More stopped) ≡ Some stopped
more_ended false = refl
more_ended true = refl

-- BITS, after what is taken of them
module _ (edition : Edition) (s : State) (tally : Tally) (bits : List ℕ) (t : Taking) (is : t ≡ taking_of s bits) (r : Option Tally)
    (ends : IfSome r (AllTold edition s (take t.n bits) tally)) (so : Tally) (went : r ≡ Some so) where
  told : AllTold edition s (take t.n bits) tally so
  told = went_well (AllTold edition s (take t.n bits) tally) r ends so went

  moves : (over : Bool) → (over ≡ false → t.stop ≡ None) → Moves edition s tally bits (record { state = t.state; tally = so; stop = t.stop; end = length bits; over = over })
  moves over on = record {
    end_is = refl;
    few = omega (arith, told.few, taken_total s bits t is);
    state_is = taken_state s bits t is;
    stop_is = taken_stop s bits t is;
    on = on;
    counted = rw (← (taken_front s bits t is)) told.counted;
  }

  pub moves_more : (over : Bool) → over ≡ is_some t.stop → Moves edition s tally bits (record { state = t.state; tally = so; stop = t.stop; end = length bits; over = over })
  moves_more over on = moves over (λ e. no_stop t.stop (sym on ∙ e))

  pub moves_done : Moves edition s tally bits (record { state = t.state; tally = so; stop = t.stop; end = length bits; over = true })
  moves_done = moves true (λ e. absurd (true≢false e))

  -- whichever way the read went
  moves_by : (read : Next) (over : Bool) → Some over ≡ ended_of (read_on read (is_some t.stop))
      → Moves edition s tally bits (record { state = t.state; tally = so; stop = t.stop; end = length bits; over = over })
  moves_by More over e = moves_more over (same_Some over (is_some t.stop) (e ∙ more_ended (is_some t.stop)))
  moves_by Done over e = rw (same_Some over true e) moves_done
  moves_by Failed over e = absurd (none-some over (sym e))

  pub moves_on : (read next : Next) (stopped : Bool) → stopped ≡ is_some t.stop → next ≡ read_on read stopped → (ended : Option Bool) → ended ≡ ended_of next
      → (over : Bool) → ended ≡ Some over → MovesOn edition s tally read bits (record { state = t.state; tally = so; stop = t.stop; end = length bits; over = over })
  moves_on read next stopped stop_is next_is ended ended_is over over_is =
      let on : Some over ≡ ended_of (read_on read (is_some t.stop)) =
      sym over_is ∙ ended_is ∙ ap ended_of (next_is ∙ ap (read_on read) stop_is) in
      record { moves = moves_by read over on; over_is = on }

-- A TURN
heard_on : (edition : Edition) (recording : List ℕ) (s : State) (tally : Tally) → Heard edition recording s tally → (piece : List ℕ) (s' : State) (tally' : Tally)
    → s' ≡ moved_on s piece → tally' ≡ tally_over edition tally (marks_at s piece 0) → Heard edition (recording ++ piece) s' tally'
heard_on edition recording s tally so piece s' tally' state counted =
    let before : s ≡ grown recording = so.state_is in
    record {
      state_is = state ∙ ap (λ (x : State). moved_on x piece) before ∙ grows recording piece;
      tally_is =
          counted
          ∙ ap (λ (x : State). tally_over edition tally (marks_at x piece 0)) before
          ∙ ap (λ (t : Tally). tally_over edition t (marks_at (grown recording) piece 0)) so.tally_is
          ∙ sym (tally_append edition nothing_heard (marks_of recording) (marks_at (grown recording) piece 0))
          ∙ ap (tally_over edition nothing_heard) (sym (marks_grow recording piece));
    }

pub read_size : (buf : List ℕ) (kept : ℕ) (r : Filled) (buf' : List ℕ) → ReadOn buf kept r → length buf' ≡ length buf → r.end ≡ length (take r.end buf')
read_size buf kept r buf' read same = part_size buf' r.end (omega (arith, read.inside, same))

turn_goes : (edition : Edition) (s : State) (tally : Tally) (buf : List ℕ) (filled : Filled) (buf' : List ℕ) → ReadOn buf 0 filled → length buf' ≡ length buf
    → (r : Turned) → Moves edition s tally (take filled.end buf') r → Goes edition s tally buf' r
turn_goes edition s tally buf filled buf' read same r moved =
    let bits : List ℕ = take filled.end buf' in
    let end : r.end ≡ filled.end = moved.end_is ∙ sym (read_size buf 0 filled buf' read same) in
    record {
      inside = omega (arith, end, read.inside, same);
      few = moved.few;
      stop_is = rw end moved.stop_is;
      on = moved.on;
      heard = λ recording so.
          rw end (heard_on edition recording s tally so (taken_bits s.total bits) r.state r.tally moved.state_is moved.counted);
    }

pub turn_goes_if : (edition : Edition) (s : State) (tally : Tally) (buf : List ℕ) (filled : Filled) (buf' : List ℕ) → ReadOn buf 0 filled → length buf' ≡ length buf
    → (r : Option Turned) → IfSome r (Moves edition s tally (take filled.end buf')) → IfSome r (Goes edition s tally buf')
turn_goes_if edition s tally buf filled buf' read same r moved = IfSome_then r moved (turn_goes edition s tally buf filled buf' read same)

pub turn_goes_on_if : (edition : Edition) (s : State) (tally : Tally) (buf : List ℕ) (filled : Filled) (buf' : List ℕ) → ReadOn buf 0 filled → length buf' ≡ length buf
    → (r : Option Turned) → IfSome r (MovesOn edition s tally filled.next (take filled.end buf')) → IfSome r (Goes edition s tally buf')
turn_goes_on_if edition s tally buf filled buf' read same r moved =
    turn_goes_if edition s tally buf filled buf' read same r (IfSome_then r moved (λ so on. on.moves))

-- ALL TURNS: the buffers keep their lengths, no more headers are counted than bits were taken, and these are the bits and headers of a recording
pub record Ready (edition : Edition) (size : ℕ) (buf out : List ℕ) (s : State) (tally : Tally) : Type 0 where
  pub input : length buf ≡ size
  pub output : length out ≡ size
  pub few : total_of tally ≤ s.total
  pub recording : List ℕ
  pub heard : Heard edition recording s tally

pub ready_starts : (edition : Edition) (size : ℕ) (buf out : List ℕ) (s : State) (tally : Tally) → s ≡ fresh_state → tally ≡ nothing_heard → length buf ≡ size → length out ≡ size
    → Ready edition size buf out s tally
ready_starts edition size buf out s tally fresh none input output = record {
  input = input;
  output = output;
  few = rw none zero-le;
  recording = [];
  heard = record { state_is = fresh ∙ starts; tally_is = none ∙ tally_none edition nothing_heard ∙ ap (tally_over edition nothing_heard) (sym none_marked) };
}

module _ (edition : Edition) (size : ℕ) (buf out : List ℕ) (s : State) (tally : Tally) (so : Ready edition size buf out s tally) (buf' out' : List ℕ) (t : Option Turned)
    (turned : IfSome t (Goes edition s tally buf')) (r : Turned) (went : t ≡ Some r) where
  goes : Goes edition s tally buf' r
  goes = went_well (Goes edition s tally buf') t turned r went

  pub ready_goes_on : length buf' ≡ length buf → length out' ≡ length out → Ready edition size buf' out' r.state r.tally
  ready_goes_on input output = record {
    input = input ∙ so.input;
    output = output ∙ so.output;
    few = goes.few;
    recording = so.recording ++ taken_bits s.total (take r.end buf');
    heard = goes.heard so.recording so.heard;
  }

  pub ready_ends : Whole edition buf' r
  ready_ends =
      let total : s.total ≡ length so.recording = ap (λ (x : State). x.total) so.heard.state_is ∙ grown_total so.recording in
      record {
        before = so.recording;
        stop_is = rw total at goes.stop_is;
        heard = rw total at (goes.heard so.recording so.heard);
      }

-- THE LAST LINE is that of the whole search: the bits and the headers of what was taken, after why no more was
pub last_line : (edition : Edition) (buf : List ℕ) (r : Turned) (out out' : List ℕ) → (all : Whole edition buf r) (closing : Closing r out out') (recording : List ℕ)
    → recording ≡ all.before ++ taken_bits (length all.before) (take r.end buf)
    → Put out 0 (ending_of (length recording) (tally_over edition nothing_heard (marks_of recording)) (why_no_more (length all.before) (take r.end buf))) out' closing.to
last_line edition buf r out out' all closing recording is =
    let heard : Heard edition recording r.state r.tally = rw is all.heard in
    let bits : r.state.total ≡ length recording = ap (λ (s : State). s.total) heard.state_is ∙ grown_total recording in
    rw (← bits, ← heard.tally_is, ← all.stop_is) closing.text
