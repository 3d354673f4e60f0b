-- Equations that are read one after the other, with the numbers of those that run.
use Rattle.std.proofs.Common.{◌≡◌, ◌==◌, ◌||◌, ℕ, suc, ◌+◌, ◌-◌, ◌<◌, ◌≤◌, Bool, true, false, cond, List, [], ◌∷◌, ◌++◌, map, length, Option, Some, None, refl, sym, ap, ◌∙◌, inl, inr, arith}
use Rattle.std.specs.Prelude.{IsTrue}
use Rattle.std.specs.List.Sorted.{IsStrictlyIncreasing}
use Rattle.std.proofs.lemmas.Bool.{or_cases, or_left, or_right, eq-eqb, eqb-true}
use Rattle.std.proofs.lemmas.List.{length_push, map-append}
use Rattle.std.proofs.lemmas.List.Kept.{AllPairs-from_increasing}
use Rattle.flat_core.specs.declared.equation.Equation.{Equation}
use Rattle.flat_core.specs.Members.{is_in}
use Rattle.flat_core.proofs.Members.{Contains-in, all_at}
use Rattle.flat_core.proofs.Rising.{same_rising, in_push, push_old, push_new, increasing_push}
use Rattle.code_file.specs.declared.fault.CodeFault.{CodeFault}
use Rattle.code_file.specs.declared.fault.CodeFault.TheVariants as fault
use Rattle.code_file.specs.inner.Reading.{◌>>=◌, Read, entry_read, items_at, running_from}
use Rattle.code_reader.specs.inner.Gives.{Fails}
use Rattle.code_reader.specs.inner.Rising.{equations_at, equations_of}
use Rattle.code_reader.proofs.Loop.{ends, goes_on, is_done, with_front}
use Rattle.code_reader.proofs.TakenWhole.{running_low}

-- what is pushed after all others stands at the end
pub pushed_last : (xs new : List ℕ) (y : ℕ) → IsStrictlyIncreasing xs → IsStrictlyIncreasing new → ((x : ℕ) → IsTrue (is_in xs x) → x < y)
    → ((x : ℕ) → is_in new x ≡ ((y == x) || is_in xs x)) → new ≡ xs ++ y ∷ []
pushed_last xs new y up new_up low members =
    same_rising new (xs ++ y ∷ []) (AllPairs-from_increasing new new_up) (AllPairs-from_increasing (xs ++ y ∷ []) (increasing_push xs y up low))
    (λ x h. elim (or_cases (y == x) (is_in xs x) (sym (members x) ∙ h)) [
      | inl here ↦ push_new xs y x (eqb-true y x here)
      | inr old ↦ push_old xs y x old
    ])
    (λ x h. members x ∙ elim (in_push xs y x h) [
      | inl old ↦ or_right (y == x) (is_in xs x) old
      | inr same ↦ or_left (y == x) (is_in xs x) (eq-eqb y x same)
    ])

-- ---- the numbers of entries that run

one_more : (q p : Bool) (a n : ℕ) (ns : List ℕ) → cond q (a ∷ cond p (ns ++ n ∷ []) ns) (cond p (ns ++ n ∷ []) ns) ≡ cond p (cond q (a ∷ ns) ns ++ n ∷ []) (cond q (a ∷ ns) ns)
one_more true true a n ns = refl
one_more true false a n ns = refl
one_more false true a n ns = refl
one_more false false a n ns = refl

running_pushed : (front : List (Bool × Equation)) (a : ℕ) (p : Bool × Equation) → running_from a (front ++ p ∷ []) ≡ cond p.0 (running_from a front ++ (a + length front) ∷ []) (running_from a front)
running_pushed [] a p = let here : a ≡ a + 0 = omega arith in ap (λ (n : ℕ). cond p.0 (n ∷ []) []) here
running_pushed (q ∷ front) a p =
    let there : (a + 1) + length front ≡ a + suc (length front) = omega arith in
    let rest = running_pushed front (a + 1) p ∙ ap (λ (n : ℕ). cond p.0 (running_from (a + 1) front ++ n ∷ []) (running_from (a + 1) front)) there in
    ap (λ (ns : List ℕ). cond q.0 (a ∷ ns) ns) rest ∙ one_more q.0 p.0 a (a + suc (length front)) (running_from (a + 1) front)

-- ---- the loop

-- what was read before, as equations and as the numbers of those that run, and what is read of the rest
pub record AreEntered (number count : ℕ) (all : List Equation) (numbers : List ℕ) (rest bytes : List ℕ) : Type 0 where
  pub front : List (Bool × Equation)
  pub as_many : length front ≡ number
  pub all_are : all ≡ map (λ p. p.1) front
  pub numbers_are : numbers ≡ running_from 0 front
  pub left : with_front entry_read front (items_at entry_read (count - number) rest) ≡ items_at entry_read count bytes

pub none_entered : (count : ℕ) (all : List Equation) (numbers bytes : List ℕ) → all ≡ [] → numbers ≡ [] → AreEntered 0 count all numbers bytes bytes
none_entered count all numbers bytes no_equation no_number =
    let same : count - 0 ≡ count = omega arith in
    record {
      front = [];
      as_many = refl;
      all_are = no_equation;
      numbers_are = no_number;
      left = ap (λ (n : ℕ). with_front entry_read [] (items_at entry_read n bytes)) same ∙ as_read (items_at entry_read count bytes);
    }
  where
    as_read : (r : Read (List (Bool × Equation))) → with_front entry_read [] r ≡ r
    as_read (Some x) = refl
    as_read None = refl

module _ (number count : ℕ) (all : List Equation) (numbers rest bytes : List ℕ) (entered : AreEntered number count all numbers rest bytes) where
  -- the numbers of those that run are those of equations that are there
  pub numbers_low : (j : ℕ) → IsTrue (is_in numbers j) → j < number
  numbers_low j h =
      let as_many = entered.as_many in
      let low = all_at (λ i. i < length entered.front) (running_from 0 entered.front) (running_low (length entered.front) entered.front 0 (omega arith)) j
      (Contains-in (running_from 0 entered.front) j (ap (λ (ns : List ℕ). is_in ns j) (sym entered.numbers_are) ∙ h)) in
      omega (arith, low, as_many)

  pub one_entered : (p : Bool × Equation) (after : List ℕ) (more : List Equation) (more_numbers : List ℕ) → number < count
      → entry_read rest ≡ Some (p, after)
      → more ≡ all ++ p.1 ∷ []
      → more_numbers ≡ cond p.0 (numbers ++ number ∷ []) numbers
      → AreEntered (number + 1) count more more_numbers after bytes
  one_entered p after more more_numbers lt is more_is numbers_is =
      let as_many = entered.as_many in
      let one = length_push entered.front p in
      let here : number ≡ 0 + length entered.front = omega (arith, as_many) in
      record {
        front = entered.front ++ p ∷ [];
        as_many = omega (arith, as_many, one);
        all_are = more_is ∙ ap (λ (es : List Equation). es ++ p.1 ∷ []) entered.all_are ∙ sym (map-append (λ (q : Bool × Equation). q.1) entered.front (p ∷ []));
        numbers_are = numbers_is
            ∙ (λ k. cond p.0 (entered.numbers_are k ++ here k ∷ []) (entered.numbers_are k))
            ∙ sym (running_pushed entered.front 0 p);
        left = goes_on entry_read entered.front count number rest p after (items_at entry_read count bytes) lt is entered.left;
      }

  pub all_entered : count ≤ number → equations_at count bytes ≡ Some ((all, numbers), rest)
  all_entered le =
      ap (λ (r : Read (List (Bool × Equation))). r >>= λ es. Some (equations_of es.0, es.1)) (is_done entry_read entered.front count number rest (items_at entry_read count bytes) le entered.left)
      ∙ (λ k. Some ((sym entered.all_are k, sym entered.numbers_are k), rest))

  pub none_more : (e : CodeFault) → number < count → Fails e (entry_read rest) → Fails e (equations_at count bytes)
  none_more e lt none = fails_on e (items_at entry_read count bytes) (λ es. Some (equations_of es.0, es.1)) (ends entry_read e entered.front count number rest (items_at entry_read count bytes) lt none entered.left)
    where
      fails_on : {A B : Type 0} (e : CodeFault) (r : Option A) (f : A → Option B) → Fails e r → Fails e (r >>= f)
      fails_on fault.WrongForm r f none = ap (λ x. x >>= f) none
      fails_on fault.Memory r f none = tt
      fails_on _ r f none = absurd none
