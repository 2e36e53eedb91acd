-- AN INPUT IN PIECES: however it is cut, what is told of the pieces is what is told of the whole.
-- Assumes nothing.
use mathlib.Core.Path.{◌≡◌, refl, sym, ap, ◌∙◌}
use mathlib.Core.List.{List, [], ◌∷◌, ◌++◌, append_assoc, append-nil, flatten}
use Prim.Native.Nat.{ℕ}
use lib.ListN.{drop}
use lib.Seq.{drop-append-le}
use Rattle.walk.specs.Walks.{whole, stops, Walk, Ended, waiting, stopped, Walked, Closed, preceded, halt, behind, told_of, goes_on, walk_of, fed_of}
use Rattle.walk.proofs.Walking.{Sound, Stopped, halted, short, walk_stops, walk_takes, by_items, walk_stopped}

module _ {S I R : Type 0} (walk : Walk S I R) (sound : Sound walk) where
  -- what becomes of some bytes and of those that follow, from what became of the former
  abbrev resumed : Walked S R → List ℕ → Ended R → Walked S R
  resumed w f (stopped why) = record { state = w.state; text = w.text; rest = w.rest ++ f; ended = stopped why }
  resumed w f waiting = behind w.text (walk_of walk w.state (w.rest ++ f))

  resumed_behind : (text : List ℕ) (w : Walked S R) (f : List ℕ) (ended : Ended R) → behind text (resumed w f ended) ≡ resumed (behind text w) f ended
  resumed_behind text w f (stopped why) = refl
  resumed_behind text w f waiting = rw append_assoc

  walk_append : (f : List ℕ) (s : S) (l : List ℕ) → walk_of walk s (l ++ f) ≡ resumed (walk_of walk s l) f (walk_of walk s l).ended
  walk_append f = by_items walk sound (λ s l. walk_of walk s (l ++ f) ≡ resumed (walk_of walk s l) f (walk_of walk s l).ended) stopping taking
    where
      stopping : (s : S) (l : List ℕ) (ended : Ended R) → Stopped walk s l ended → walk_of walk s (l ++ f) ≡ resumed (walk_of walk s l) f (walk_of walk s l).ended
      stopping s l ended (halted {why} e) = walk_stops walk sound s (l ++ f) (stopped why) (halted (sound.stop_stays s l f why e)) ∙ rw (walk_stops walk sound s l (stopped why) (halted e))
      stopping s l ended (short e) = rw (walk_stops walk sound s l waiting (short e))

      taking : (s : S) (l : List ℕ) (i : I) → walk.cut s l ≡ whole i
          → walk_of walk (walk.next s i l) (drop (walk.size i) l ++ f)
          ≡ resumed (walk_of walk (walk.next s i l) (drop (walk.size i) l)) f (walk_of walk (walk.next s i l) (drop (walk.size i) l)).ended
          → walk_of walk s (l ++ f) ≡ resumed (walk_of walk s l) f (walk_of walk s l).ended
      taking s l i e more =
          let w : Walked S R = walk_of walk (walk.next s i l) (drop (walk.size i) l) in
          walk_takes walk sound s (l ++ f) i (sound.whole_stays s l f i e)
          ∙ rw (sound.next_stays s l f i e, sound.text_stays s l f i e, drop-append-le (walk.size i) l f (sound.there s l i e), more, walk_takes walk sound s l i e)
          (resumed_behind (walk.text s i l) w f w.ended)

  -- what closes a walk that stopped is the same, whatever follows
  module _ {T : Type 0} (closing : S → Ended R → List ℕ → Closed T)
      (settled : (s : S) (l f : List ℕ) (why : R) → walk.cut s l ≡ stops why → closing s (stopped why) l ≡ closing s (stopped why) (l ++ f)) where
    -- a piece, and what follows
    one_piece : (w : Walked S R) (f : List ℕ) (next : S → List ℕ → Closed T) (ended : Ended R) → Stopped walk w.state w.rest ended
        → (ended ≡ waiting → next w.state w.rest ≡ told_of closing (walk_of walk w.state (w.rest ++ f)))
        → goes_on closing w next ended ≡ told_of closing (resumed w f ended)
    one_piece w f next (stopped why) (halted e) more = ap (preceded w.text) (settled w.state w.rest f why e)
    one_piece w f next waiting (short e) more = rw (more refl, append_assoc)

    fed_is : (pieces : List (List ℕ)) (s : S) (kept : List ℕ) → walk_of walk s kept ≡ halt s kept waiting
        → fed_of walk closing s kept pieces ≡ told_of closing (walk_of walk s (kept ++ flatten pieces))
    unfolding flatten
    fed_is [] s kept idle = rw (append-nil, idle)
    fed_is (piece ∷ pieces) s kept idle =
        let w : Walked S R = walk_of walk s (kept ++ piece) in
        one_piece w (flatten pieces) (λ t k. fed_of walk closing t k pieces) w.ended (walk_stopped walk sound s (kept ++ piece))
        (λ e. fed_is pieces w.state w.rest (walk_stops walk sound w.state w.rest w.ended (walk_stopped walk sound s (kept ++ piece)) ∙ ap (halt w.state w.rest) e))
        ∙ ap (told_of closing) (sym (walk_append (flatten pieces) s (kept ++ piece)) ∙ ap (walk_of walk s) (append_assoc kept piece (flatten pieces)))

    -- however the input is cut into pieces
    pub fed_whole : (s : S) (pieces : List (List ℕ)) → fed_of walk closing s [] pieces ≡ told_of closing (walk_of walk s (flatten pieces))
    fed_whole s pieces = fed_is pieces s [] (walk_stops walk sound s [] waiting (short (sound.none s)))
