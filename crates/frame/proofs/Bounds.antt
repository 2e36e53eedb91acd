-- What an answer to a frame keeps within: the source and the flips of an accepted one, the number of a refusal.
-- Assumes nothing.
use mathlib.Core.Path.{◌≡◌, refl}
use Prim.Native.Nat.{ℕ, ◌≤◌}
use lib.ListN.{get_or}
use Rattle.std.specs.Prelude.{Ok, Err}
use Rattle.base.specs.declared.Refusal.{Refusal}
use Rattle.base.proofs.Numbers.{Among, numbers, first_number}
use Rattle.base.proofs.Sums.{sum_le}
use Rattle.word.specs.Words.{flip_count}
use Rattle.word.specs.Repairs.{radius}
use Rattle.air.specs.Air.{word_count}
use Rattle.air.proofs.Answers.{patterns_few}
use Rattle.air.specs.Flips.{most_flips}
use Rattle.header.specs.declared.Header.{Header}
use Rattle.header.specs.Answers.{Answer, accepted, refused}
use Rattle.header.specs.Fields.{last_source_of}
use Rattle.header_reader.specs.Reading.{arrived, repaired_answer, patterns_of}
use Rattle.header_reader.proofs.GoesOn.{not_refused}
use Rattle.frame.specs.Frames.{Frame, frame_checks, frame_numbers, frame_of}
use Rattle.frame.proofs.Rules.{answer_then_rules}

module _ (f : Frame) (h : Header) (k : ℕ) (e : frame_of f ≡ accepted h k) where
  pub frame_source : h.«fields».src_id ≤ last_source_of f.head.rules.edition
  frame_source = (answer_then_rules f h k e).head.known_source

  -- three flips in each of fourteen words
  pub frame_flips : k ≤ most_flips
  frame_flips =
      let so = answer_then_rules f h k e in
      rw so.head.counted (sum_le radius word_count (λ j. flip_count (get_or (patterns_of f.head) j 0)) (λ j below. patterns_few (arrived f.head) j))

-- the number of a refusal; 0 where there is none
abbrev pub number_in : Answer → ℕ
number_in (Ok a) = 0
number_in (Err why) = why.number

-- the numbers are those of the rows, in their order
pub rows_numbered : (f : Frame) → numbers number_in (frame_checks f) ≡ frame_numbers
rows_numbered f = refl

pub frame_number : (f : Frame) (why : Refusal) → frame_of f ≡ refused why → Among why.number frame_numbers
unfolding frame_of
frame_number f why e = first_number number_in (repaired_answer f.head) (refused why) (frame_checks f) (not_refused f.head why) e
