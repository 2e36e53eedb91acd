-- Call sign bits that agree with a satellite's: what the tests of rows 23 and 24 say, and the loop behind the second.
-- Assumes nothing.
use mathlib.Core.Path.{◌≡◌, refl, sym, ◌∙◌}
use mathlib.Core.Bool.{Bool, true, false, not}
use mathlib.Core.List.{List}
use Prim.Native.Nat.{ℕ, ◌≤◌, ◌<◌}
use native.Mathlib.Nat.{mod-lt}
use native.Mathlib.Omega.{arith}
use lib.Dec.{eqb, lit<}
use lib.ListN.{length, get_or, get_or-eq_default}
use borrow.Author.Tests.{eq-eqb, ne_eqb, eqb-true, eqb-false, not-false}
use Rattle.base.proofs.Tabulate.{tabulate_length, tabulate_at, tabulate_is, tabulate_all}
use Rattle.base.proofs.Lowest.{Passed, stops, ends, lowest_is, lowest_none}
use Rattle.air.proofs.Bits.{no_bit_none}
use Rattle.sign.specs.CallSigns.{sign_bit, sign_width, sign_of}
use Rattle.sign.specs.Calls.{Call, absent, given, fault_at, first_other, other_at, Agrees}

pub past_end : (call : List ℕ) (n : ℕ) → length call ≤ n → 0 ≡ get_or call n 0
past_end call n h = sym (get_or-eq_default call 0 {n = n} h)

module _ (call : List ℕ) (satellite : ℕ) where
  abbrev other : ℕ → Bool
  other n = not (eqb (get_or call n 0) (sign_bit satellite n))

  -- THE LOOP: the elements before n are the call sign's
  abbrev pub Same : ℕ → Type 0
  Same n = Passed sign_width other n

  module _ (n : ℕ) (so : Same n) (x bit : ℕ) (found : x ≡ get_or call n 0) (is : bit ≡ sign_bit satellite n) (h : n < sign_width) where
    pub same_stops : (x ≡ bit → ⊥) → n ≡ first_other call satellite
    unfolding first_other
    same_stops e = stops sign_width other n so h (rw (← found, ← is, ne_eqb x bit e))

  pub same_ends : (n : ℕ) → Same n → sign_width ≤ n → n ≡ first_other call satellite
  unfolding first_other
  same_ends n so h = ends sign_width other n so h

  -- no place differs: the elements are the call sign's
  none_differs : length call ≡ sign_width → sign_width ≤ first_other call satellite → call ≡ sign_of satellite
  unfolding first_other sign_of
  none_differs long h =
      sym
      (tabulate_is (sign_bit satellite) 0 sign_width call long
      (λ n below. sym (eqb-true (get_or call n 0) (sign_bit satellite n) (not-false (eqb (get_or call n 0) (sign_bit satellite n)) ((lowest_is other sign_width).before n (omega arith))))))

  agreeing : call ≡ sign_of satellite → first_other call satellite ≡ sign_width
  unfolding first_other sign_of
  agreeing is =
      lowest_none sign_width other
      (λ n below. let same : get_or call n 0 ≡ sign_bit satellite n = rw is (tabulate_at (sign_bit satellite) 0 sign_width n below) in rw (eq-eqb (get_or call n 0) (sign_bit satellite n) same))

-- a call sign has 48 elements, each 0 or 1
pub sign_long : (satellite : ℕ) → length (sign_of satellite) ≡ sign_width
unfolding sign_of
sign_long satellite = tabulate_length (sign_bit satellite) sign_width

pub sign_bits : (satellite k : ℕ) → get_or (sign_of satellite) k 0 < 2
unfolding sign_of sign_bit
sign_bits satellite k = tabulate_all (λ x. x < 2) (sign_bit satellite) sign_width (lit< tt) (λ n h. mod-lt _ (lit< tt)) k

-- WHAT THE TESTS OF ROWS 23 AND 24 SAY: together, that the call sign agrees where it is looked at
pub tests_agree : (call : Call) (satellite : ℕ) → fault_at call ≡ sign_width → sign_width ≤ other_at call satellite → Agrees call satellite
tests_agree absent satellite a b = tt
tests_agree (given call) satellite a b = by (eqb (length call) sign_width) refl
  where
    by : (b : Bool) → eqb (length call) sign_width ≡ b → call ≡ sign_of satellite
    by true e = none_differs call satellite (eqb-true (length call) sign_width e) b
    by false e = absurd (eqb-false (length call) sign_width e (rw e at a))

pub agrees_fault : (call : Call) (satellite : ℕ) → Agrees call satellite → fault_at call ≡ sign_width
agrees_fault absent satellite so = refl
agrees_fault (given call) satellite so =
    let long : length call ≡ sign_width = rw so (sign_long satellite) in
    rw (eq-eqb (length call) sign_width long) (no_bit_none call (rw so (sign_bits satellite)) ∙ long)

pub agrees_other : (call : Call) (satellite : ℕ) → Agrees call satellite → other_at call satellite ≡ sign_width
agrees_other absent satellite so = refl
agrees_other (given call) satellite so = agreeing call satellite so
