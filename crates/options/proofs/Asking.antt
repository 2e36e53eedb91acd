-- What words ask for, one by one, and those that were read so far.
-- Assumes nothing.
use mathlib.Core.Path.{◌≡◌, refl, sym, ap, ◌∙◌}
use Rattle.std.specs.Prelude.{Result, Ok, Err}
use mathlib.Core.List.{List, [], ◌∷◌, ◌++◌}
use Prim.Native.Nat.{ℕ}
use Rattle.text.specs.Text.{ascii}
use Rattle.options.specs.declared.Options.{Options}
use Rattle.options.specs.declared.Request.{Request}
use Rattle.options.specs.declared.Word.{Word}
use Rattle.options.specs.declared.Word.TheVariants.{Strict, NamesEdition, SaysFlown, SaysCorrected, Other}
use Rattle.options.proofs.Comparing.{differ}
use Rattle.options.specs.Words.{word_of, one_after, after_all, nothing_asked, all_of, Asked}

-- which word some bytes are
module _ (l : List ℕ) where
  pub is_strict : l ≡ ascii "--strict" → Strict ≡ word_of l
  unfolding word_of
  is_strict e = rw e

  pub is_edition : l ≡ ascii "--edition" → NamesEdition ≡ word_of l
  unfolding word_of
  is_edition e = rw e

  pub is_flown : l ≡ ascii "flown" → SaysFlown ≡ word_of l
  unfolding word_of
  is_flown e = rw e

  pub is_corrected : l ≡ ascii "corrected" → SaysCorrected ≡ word_of l
  unfolding word_of
  is_corrected e = rw e

  pub is_other : (l ≡ ascii "--strict" → ⊥) → (l ≡ ascii "--edition" → ⊥) → (l ≡ ascii "flown" → ⊥) → (l ≡ ascii "corrected" → ⊥) → Other ≡ word_of l
  unfolding word_of
  is_other a b c d = rw (differ l (ascii "--strict") a, differ l (ascii "--edition") b, differ l (ascii "flown") c, differ l (ascii "corrected") d)

pub record Asking (asked : Result Request Request) : Type 0 where
  pub words : List Word
  pub is : asked ≡ after_all (Ok nothing_asked) words

pub starts : Asking (Ok nothing_asked)
starts = record { words = []; is = refl }

one_more : (o : Result Request Request) (ws : List Word) (w : Word) → after_all o (ws ++ w ∷ []) ≡ one_after (after_all o ws) w
one_more o [] w = refl
one_more o (v ∷ ws) w = one_more (one_after o v) ws w

pub goes_on : (asked : Result Request Request) → Asking asked → (w : Word) (r : Result Request Request) → r ≡ one_after asked w → Asking r
goes_on asked so w r is = record {
  words = so.words ++ w ∷ [];
  is = is ∙ ap (λ (o : Result Request Request). one_after o w) so.is ∙ sym (one_more (Ok nothing_asked) so.words w);
}

pub ends : (asked : Result Request Request) → Asking asked → (r : Result Options Options) → r ≡ all_of asked → Asked r
ends asked so r is = record { words = so.words; is = is ∙ ap all_of so.is }
