-- Call sign bits that are given with a frame, or not.
-- Assumes nothing.
use Rattle.std.specs.Prelude.{◌≡◌, Bool, true, false, cond, not, Option, Some, None, List, ℕ, eqb, length, get_or}
use Rattle.std.specs.Borrow.{Bor}
use Rattle.base.specs.declared.Edition.{Edition}
use Rattle.base.specs.declared.Edition.TheVariants.{Flown, Corrected}
use Rattle.base.specs.Lists.{lowest}
use Rattle.air.specs.Air.{first_no_bit}
use Rattle.sign.specs.CallSigns.{sign_bit, sign_width, sign_of}

-- "Uploads often include the 48 call sign bits": what was given of them
pub data Call : Type 0 where
  absent : Call
  given : List ℕ → Call

abbrev pub call_of : Bool → List ℕ → Call
call_of true call = given call
call_of false call = absent

-- the same of lent bits that may be there
abbrev pub call_in : Option (Bor (List ℕ)) → Call
call_in (Some call) = given call.now
call_in None = absent

-- "When given under the flown edition"; "under the corrected edition they aren't looked at"
abbrev pub looks_at : Edition → Bool → Bool
looks_at Flown there = there
looks_at Corrected there = false

-- what is looked at of what was given
abbrev pub looked_at : Edition → Call → Call
looked_at edition absent = absent
looked_at edition (given call) = call_of (looks_at edition true) call

-- "not 48 elements or one above 1 .. (place: the length, or the first bad index)"; 48 where neither is so
abbrev pub fault_at : Call → ℕ
fault_at absent = sign_width
fault_at (given call) = cond (eqb (length call) sign_width) (first_no_bit call) (length call)

-- "no bit forgiven": the lowest that is not the satellite's; 48 where all are
unfoldable pub first_other : List ℕ → ℕ → ℕ
first_other call satellite = lowest sign_width (λ n. not (eqb (get_or call n 0) (sign_bit satellite n)))

abbrev pub other_at : Call → ℕ → ℕ
other_at absent satellite = sign_width
other_at (given call) satellite = first_other call satellite

-- "Where they are looked at, demands 2 and 3 then also need them to be 48 elements, each 0 or 1, that spell the call sign of the repaired
-- header's satellite."
abbrev pub Agrees : Call → ℕ → Type 0
Agrees absent satellite = Unit {0}
Agrees (given call) satellite = call ≡ sign_of satellite
