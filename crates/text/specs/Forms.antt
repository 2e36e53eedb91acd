-- A line as a form: a text with holes. "%" is the next of some numbers, in decimal; "#" is the next of them, as one byte;
-- "&" is a piece of text. No line of any listing has one of these three letters.
-- Assumes nothing.
use Rattle.std.specs.Prelude.{cond, List, [], ◌∷◌, ◌++◌, ℕ, ◌+◌, ◌%◌, eqb, length, get_or, drop}
use Rattle.text.specs.Text.{decimal_of, most_digits}

-- the ASCII codes of "%", "#" and "&"
abbrev pub number_hole : ℕ
number_hole = 37

abbrev pub letter_hole : ℕ
letter_hole = 35

abbrev pub piece_hole : ℕ
piece_hole = 38

-- a letter of a form: what it puts, how many numbers it takes, and the most bytes that it puts
abbrev pub part_of : ℕ → List ℕ → List ℕ → List ℕ
part_of x numbers piece =
    cond (eqb x number_hole) (decimal_of (get_or numbers 0 0)) (cond (eqb x letter_hole) (get_or numbers 0 0 % 256 ∷ []) (cond (eqb x piece_hole) piece (x ∷ [])))

abbrev pub taken_by : ℕ → ℕ
taken_by x = cond (eqb x number_hole) 1 (cond (eqb x letter_hole) 1 0)

abbrev pub room_for : ℕ → List ℕ → ℕ
room_for x piece = cond (eqb x number_hole) most_digits (cond (eqb x piece_hole) (length piece) 1)

-- a form with its numbers and its piece: `form_of (ascii "% refused % %\n") (3 ∷ 4 ∷ 6 ∷ []) []` is `3 refused 4 6`
unfoldable pub form_of : List ℕ → List ℕ → List ℕ → List ℕ
form_of [] numbers piece = []
form_of (x ∷ form) numbers piece = part_of x numbers piece ++ form_of form (drop (taken_by x) numbers) piece

-- how many numbers a form takes
abbrev pub taken_in : List ℕ → ℕ
taken_in [] = 0
taken_in (x ∷ form) = taken_by x + taken_in form

-- the most bytes that it puts
abbrev pub room_of : List ℕ → List ℕ → ℕ
room_of [] piece = 0
room_of (x ∷ form) piece = room_for x piece + room_of form piece
