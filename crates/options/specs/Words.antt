-- The words that programs know, and what is asked for by words one after another.
-- Assumes nothing.
use Rattle.std.specs.Prelude.{◌≡◌, Bool, true, false, cond, List, [], ◌∷◌, ℕ, eqb, Option, None, Some, Result, Ok, Err}
use Rattle.base.specs.Checks.{check, first}
use Rattle.base.specs.declared.Edition.{Edition}
use Rattle.base.specs.declared.Edition.TheVariants.{Flown, Corrected}
use Rattle.text.specs.Text.{ascii}
use Rattle.options.specs.declared.Options.{Options}
use Rattle.options.specs.declared.Request.{Request}
use Rattle.options.specs.declared.Request.TheVariants.{Complete, LacksEdition}
use Rattle.options.specs.declared.Word.{Word}
use Rattle.options.specs.declared.Word.TheVariants.{Strict, NamesEdition, SaysFlown, SaysCorrected, Other}

-- whether two lists are the same
abbrev pub same_of : List ℕ → List ℕ → Bool
same_of [] [] = true
same_of [] (y ∷ b) = false
same_of (x ∷ a) [] = false
same_of (x ∷ a) (y ∷ b) = cond (eqb x y) (same_of a b) false

unfoldable pub word_of : List ℕ → Word
word_of l =
    first Other
    (check (same_of l (ascii "--strict")) Strict
    ∷ check (same_of l (ascii "--edition")) NamesEdition
    ∷ check (same_of l (ascii "flown")) SaysFlown
    ∷ check (same_of l (ascii "corrected")) SaysCorrected
    ∷ [])

-- a word that the system hands over is one of these, as its bytes say
pub record Given (r : Word) : Type 0 where
  pub bytes : List ℕ
  pub is : r ≡ word_of bytes

-- the edition that a word says, if it says one
abbrev pub edition_said : Word → Option Edition
edition_said SaysFlown = Some Flown
edition_said SaysCorrected = Some Corrected
edition_said Strict = None
edition_said NamesEdition = None
edition_said Other = None

-- after `--edition`
abbrev pub settled_of : Options → Option Edition → Result Request Request
settled_of o None = Err (Complete o)
settled_of o (Some edition) = Ok (Complete (record { strict = o.strict; edition = edition }))

-- elsewhere
abbrev pub option_by : Options → Word → Result Request Request
option_by o NamesEdition = Ok (LacksEdition o)
option_by o Strict = Ok (Complete (record { strict = true; edition = o.edition }))
option_by o SaysFlown = Err (Complete o)
option_by o SaysCorrected = Err (Complete o)
option_by o Other = Err (Complete o)

-- what is asked for with one more word; where that is wrong there, what was asked for without it
abbrev pub after_of : Request → Word → Result Request Request
after_of (LacksEdition o) w = settled_of o (edition_said w)
after_of (Complete o) w = option_by o w

-- a word was wrong, and stays so
abbrev pub wrongly : {A : Type 0} → Result A A → Result A A
wrongly (Ok asked) = Err asked
wrongly (Err asked) = Err asked

-- words one after another
abbrev pub one_after : Result Request Request → Word → Result Request Request
one_after (Ok asked) w = after_of asked w
one_after (Err asked) w = wrongly (after_of asked w)

abbrev pub after_all : Result Request Request → List Word → Result Request Request
after_all asked [] = asked
after_all asked (w ∷ ws) = after_all (one_after asked w) ws

-- where nothing is asked for: the flown edition
abbrev pub nothing_asked : Request
nothing_asked = Complete (record { strict = false; edition = Flown })

-- one that is still to come after `--edition` is missing
abbrev pub in_all : Request → Result Options Options
in_all (Complete o) = Ok o
in_all (LacksEdition o) = Err o

abbrev pub all_of : Result Request Request → Result Options Options
all_of (Ok asked) = in_all asked
all_of (Err asked) = wrongly (in_all asked)

-- what is asked for by the words that the system hands over
pub record Asked (r : Result Options Options) : Type 0 where
  pub words : List Word
  pub is : r ≡ all_of (after_all (Ok nothing_asked) words)
