-- A line's letters and their two parts.
-- Assumes nothing.
use Rattle.std.proofs.Common.{◌≡◌, ℕ, ◌+◌, ◌-◌, ◌*◌, ◌<◌, ◌≤◌, Bool, true, false, cond, eqb, ltb, List, [], ◌∷◌, length, get_or, take, drop, sym, refl, ap, ◌∙◌, arith, length-drop, length-take-le, le-ltb, lt-ltb, eq-eqb, ne_eqb}
use lib.Seq.{take-length}
use Rattle.base.specs.Lists.{place_in}
use Rattle.text.proofs.Laid.{put_none}
use Rattle.packing.specs.declared.Packed.{Packed}
use Rattle.packing.specs.Lines.{fine, longest_line, end_in, passed_over, header_in, digits_from, digits_in, pack_of}
use Rattle.packing.specs.Promises.{PacksParts, Packs}
use Rattle.packing.proofs.Digits.{place_inside}

-- where the letters end
pub end_none : (l : List ℕ) → length l ≡ 0 → 0 ≡ end_in l
unfolding end_in
end_none [] none = refl
end_none (x ∷ l) none = absurd (omega arith)

module _ (l : List ℕ) (some : length l ≡ 0 → ⊥) where
  pub end_return : get_or l (length l - 1) 0 ≡ 13 → length l - 1 ≡ end_in l
  unfolding end_in
  end_return is = rw (eq-eqb (get_or l (length l - 1) 0) 13 is)

  pub end_other : (get_or l (length l - 1) 0 ≡ 13 → ⊥) → length l ≡ end_in l
  unfolding end_in
  end_other other = rw (ne_eqb (get_or l (length l - 1) 0) 13 other)

-- whether they are passed over
pub passed_none : (l : List ℕ) → length l ≡ 0 → true ≡ passed_over l
unfolding passed_over
passed_none [] none = refl
passed_none (x ∷ l) none = absurd (omega arith)

pub passed_some : (l : List ℕ) → (length l ≡ 0 → ⊥) → eqb (get_or l 0 0) 35 ≡ passed_over l
unfolding passed_over
passed_some [] some = absurd (some refl)
passed_some (x ∷ l) some = refl

-- where the payload starts
module _ (l : List ℕ) (space : ℕ) (is : space ≡ place_in l 32) where
  pub from_space : space < length l → space + 1 ≡ digits_from l
  unfolding digits_from
  from_space h = rw (← is, lt-ltb space (length l) h)

  pub from_end : length l ≤ space → space ≡ digits_from l
  unfolding digits_from
  from_end h = rw (← is, le-ltb space (length l) h)

  pub end_inside : space ≤ length l
  end_inside = rw is (place_inside l 32)

space_before : (l : List ℕ) → place_in l 32 ≤ digits_from l
unfolding digits_from
space_before l = by (ltb (place_in l 32) (length l))
  where
    by : (b : Bool) → place_in l 32 ≤ cond b (place_in l 32 + 1) (place_in l 32)
    by true = omega arith
    by false = omega arith

-- A LINE: its letters `l` are those before `end`
module _ (line : List ℕ) (end : ℕ) (is : end ≡ end_in line) (inside : end ≤ length line) where
  size : length (take end line) ≡ end
  size = length-take-le end line inside

  pub line_passed : (before : List ℕ) (at : ℕ) → at + 2 * length line ≤ length before → (b : Bool) → b ≡ passed_over (take end line) → b ≡ true
      → Packs line before at before (record { judged = fine; to = at })
  unfolding pack_of
  line_passed before at room b passed e =
      let yes : passed_over (take (end_in line) line) ≡ true = rw (← is) (sym passed ∙ e) in
      record { judged_is = rw yes; put = rw yes (put_none (omega arith)); short = omega arith }

  module _ (space : ℕ) (at-space : space ≡ place_in (take end line) 32) (from : ℕ) (after-space : from ≡ digits_from (take end line)) (behind : from ≤ length (take end line)) where
    abbrev first_part : List ℕ
    first_part = take space (take end line)

    abbrev last_part : List ℕ
    last_part = take (length (take end line) - from) (drop from (take end line))

    first_size : length first_part ≡ space
    first_size = length-take-le space (take end line) (end_inside (take end line) space at-space)

    last_is : last_part ≡ drop from (take end line)
    last_is = rw (← length-drop from (take end line)) (take-length (drop from (take end line)))

    pub space_inside : space ≤ length (take end line)
    space_inside = end_inside (take end line) space at-space

    pub first_few : length line ≤ longest_line → length first_part ≤ longest_line
    first_few few = omega (arith, first_size, space_inside, size)

    last_size : length last_part + from ≡ end
    last_size = omega (arith, ap length last_is, length-drop from (take end line), size)

    space_from : space ≤ from
    space_from = rw (at-space, after-space) (space_before (take end line))

    pub parts_few : length first_part + length last_part ≤ length line
    parts_few = omega (arith, first_size, last_size, space_from)

    pub parts_fit : (at room : ℕ) → at + 2 * length line ≤ room → at + 2 * (length first_part + length last_part) ≤ room
    parts_fit at room h = omega (arith, parts_few)

    pub line_packed : (before : List ℕ) (at : ℕ) (after : List ℕ) (r : Packed) (b : Bool) → b ≡ passed_over (take end line) → b ≡ false
        → PacksParts first_part last_part before at after r → Packs line before at after r
    unfolding pack_of
    line_packed before at after r b passed e parts₀ =
        let no' : passed_over (take (end_in line) line) ≡ false = rw (← is) (sym passed ∙ e) in
        let parts : PacksParts (header_in (take end line)) (digits_in (take end line)) before at after r = rw (last_is, at-space, after-space) at parts₀ in
        record {
          judged_is = rw (no', ← is) parts.judged_is;
          put = rw (no', ← is) parts.put;
          short = omega (arith, parts₀.short, parts_few);
        }
