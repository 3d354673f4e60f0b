-- What is read as code is spelled so.
use Rattle.std.proofs.Common.{◌≡◌, ℕ, zero, suc, ◌+◌, ◌^◌, ◌<◌, ◌≤◌, Bool, true, false, cond, eqb, ◌||◌, List, [], ◌∷◌, ◌++◌, map, length, Some, None, refl, sym, ap, subst, ◌∙◌, append_assoc, arith, inl, inr}
use Rattle.std.specs.Prelude.{IsTrue, nat_le, slice_get}
use Rattle.std.specs.List.{AllByRecursion, filter, flat_map, range_with_len}
use Rattle.std.specs.List.Sorted.{IsStrictlyIncreasing}
use Rattle.std.proofs.lemmas.Bool.{cases_Bool, cases_lt, eq-eqb, eqb-true, leb-true}
use Rattle.std.proofs.lemmas.List.{length-map}
use Rattle.std.proofs.lemmas.List.Concat.{flat_map-cons}
use Rattle.std.proofs.lemmas.List.Kept.{IsStrictlyIncreasing-filter}
use Rattle.std.proofs.lemmas.Option.{slice_get_within}
use Rattle.flat_core.specs.declared.equation.Equation.{Equation}
use Rattle.flat_core.specs.declared.equation.Output.{Output}
use Rattle.flat_core.specs.declared.limits.TheConstants.{MOST_EQUATIONS}
use Rattle.flat_core.specs.Members.{is_in}
use Rattle.flat_core.specs.System.{System, equation, numbers, runs}
use Rattle.register_code.specs.Code.{Code}
use Rattle.code_file.specs.Form.{IsSpelled, bare, bare_in, is_spelled}
use Rattle.code_file.specs.Spelling.{entry_at, entry_in, equations_bytes, list_bytes, number, output_bytes, outputs_bytes}
use Rattle.code_file.specs.inner.Reading.{◌>>=◌, code_at, code_of, count_at, entry_read, items_at, list_at, number_at, output_at, running_from}
use Rattle.code_file.proofs.Entries.{IsWhole}
use Rattle.code_reader.specs.inner.Whole.{after_mark}
use Rattle.code_reader.proofs.Taken.{AreTaken, Takes, Takes-then, bind_some, items_taken, list_taken, number_taken, passed_test, some_is}
use Rattle.code_reader.proofs.TakenEntries.{IsEntry, IsOutput, entry_spelled, entry_taken, output_taken}
use Rattle.code_file.proofs.Whole.{numbers_rise}

-- ---- what a system that is made of entries has

-- equation a and those after it are these entries
abbrev Stands : System → ℕ → List (Bool × Equation) → Type 0
Stands s a [] = Unit {0}
Stands s a (p ∷ es) = (equation s a ≡ Some p.1) × (runs s a ≡ p.0) × Stands s (a + 1) es

at_seam : (front : List (Bool × Equation)) (p : Bool × Equation) (es : List (Bool × Equation)) → slice_get (map (λ q. q.1) (front ++ p ∷ es)) (length front) ≡ Some p.1
at_seam [] p es = refl
at_seam (q ∷ front) p es = at_seam front p es

differ : (a b : ℕ) → a < b → eqb b a ≡ false
differ a b lt = elim (cases_Bool (eqb b a)) [
  | inl same ↦ let is = eqb-true b a same in absurd (omega arith)
  | inr other ↦ other
]

differ_up : (a b : ℕ) → b < a → eqb b a ≡ false
differ_up a b lt = elim (cases_Bool (eqb b a)) [
  | inl same ↦ let is = eqb-true b a same in absurd (omega arith)
  | inr other ↦ other
]

same_number : (a : ℕ) → eqb a a ≡ true
same_number a = eq-eqb a a refl

-- one number more in front, or not
in_kept : (b : Bool) (a : ℕ) (ns : List ℕ) (i : ℕ) (x : Bool) → eqb a i ≡ false → is_in ns i ≡ x → is_in (cond b (a ∷ ns) ns) i ≡ x
in_kept true a ns i x other is = (λ k. other k || is_in ns i) ∙ is
in_kept false a ns i x other is = is

none_below : (es : List (Bool × Equation)) (b i : ℕ) → i < b → is_in (running_from b es) i ≡ false
none_below [] b i low = refl
none_below (p ∷ es) b i low = in_kept p.0 b (running_from (b + 1) es) i false (differ i b low) (none_below es (b + 1) i (omega arith))

runs_first : (r : Bool) (a : ℕ) (ns : List ℕ) → is_in ns a ≡ false → is_in (cond r (a ∷ ns) ns) a ≡ r
runs_first true a ns none = λ k. same_number a k || is_in ns a
runs_first false a ns none = none

runs_at : (front : List (Bool × Equation)) (a : ℕ) (p : Bool × Equation) (es : List (Bool × Equation)) → is_in (running_from a (front ++ p ∷ es)) (a + length front) ≡ p.0
runs_at [] a p es =
    let here : a + 0 ≡ a = omega arith in
    ap (is_in (running_from a (p ∷ es))) here ∙ runs_first p.0 a (running_from (a + 1) es) (none_below es (a + 1) a (omega arith))
runs_at (q ∷ front) a p es =
    let there : a + suc (length front) ≡ (a + 1) + length front = omega arith in
    ap (is_in (running_from a (q ∷ (front ++ p ∷ es)))) there
    ∙ in_kept q.0 a (running_from (a + 1) (front ++ p ∷ es)) ((a + 1) + length front) p.0 (differ_up ((a + 1) + length front) a (omega arith)) (runs_at front (a + 1) p es)

stand : (s : System) (front es : List (Bool × Equation)) (a : ℕ) → a ≡ length front → s.equations ≡ map (λ q. q.1) (front ++ es) → s.running ≡ running_from 0 (front ++ es) → Stands s a es
stand s front [] a is equations running = tt
stand s front (p ∷ es) a is equations running =
    let whole : a ≡ 0 + length front = omega (arith, is) in
    let moved : front ++ p ∷ es ≡ (front ++ p ∷ []) ++ es = sym (append_assoc front (p ∷ []) es) in (
      (λ k. slice_get (equations k) (is k)) ∙ at_seam front p es,
      (λ k. is_in (running k) (whole k)) ∙ runs_at front 0 p es,
      stand s (front ++ p ∷ []) es (a + 1) (more front p a is) (equations ∙ ap (map (λ q. q.1)) moved) (running ∙ ap (running_from 0) moved),
    )
  where
    more : (front : List (Bool × Equation)) (p : Bool × Equation) (a : ℕ) → a ≡ length front → a + 1 ≡ length (front ++ p ∷ [])
    more [] p a is = omega (arith, is)
    more (q ∷ front) p zero is = absurd (omega (arith, is))
    more (q ∷ front) p (suc a) is = let rest = more front p a (omega (arith, is)) in omega (arith, rest)

module _ (s : System) where
  running_filtered : (es : List (Bool × Equation)) (a : ℕ) → Stands s a es → running_from a es ≡ filter (runs s) (range_with_len a (length es))
  running_filtered [] a st = refl
  running_filtered (p ∷ es) a st =
      let rest = running_filtered es (a + 1) st.2 in
      let back = sym st.1 in
      λ k. cond (back k) (a ∷ rest k) (rest k)

  entries_spelled : (es : List (Bool × Equation)) (a : ℕ) → Stands s a es → flat_map entry_spelled es ≡ flat_map (entry_at s) (range_with_len a (length es))
  entries_spelled [] a st = refl
  entries_spelled (p ∷ es) a st =
      let running = sym st.1 in
      let there = sym st.0 in
      let rest = entries_spelled es (a + 1) st.2 in
      flat_map-cons entry_spelled p es
      ∙ (λ k. entry_in (running k) (there k) ++ rest k)
      ∙ sym (flat_map-cons (entry_at s) a (range_with_len (a + 1) (length es)))

  entries_bare : (es : List (Bool × Equation)) (a : ℕ) → Stands s a es → AllByRecursion IsEntry es → map (λ i. bare_in (runs s i) (equation s i)) (range_with_len a (length es)) ≡ map (λ p. p.1) es
  entries_bare [] a st are = refl
  entries_bare (p ∷ es) a st are =
      let first : bare_in (runs s a) (equation s a) ≡ p.1 = (λ k. bare_in (st.1 k) (st.0 k)) ∙ are.0.1 in
      let rest = entries_bare es (a + 1) st.2 are.1 in
      λ k. first k ∷ rest k

  whole_first : (p : Bool × Equation) (a i : ℕ) (e : Equation) → equation s a ≡ Some p.1 → runs s a ≡ p.0 → IsEntry p → i ≡ a → equation s i ≡ Some e → IsTrue (is_spelled (runs s i) e.op) → IsWhole e
  whole_first p a i e there running entry same is spelled =
      let one : p.1 ≡ e = some_is p.1 e (sym there ∙ ap (equation s) (sym same) ∙ is) in
      let back : p.0 ≡ runs s i = sym running ∙ ap (runs s) (sym same) in
      subst IsWhole one (entry.0 ((λ k. is_spelled (back k) (one k).op) ∙ spelled))

  entries_whole : (es : List (Bool × Equation)) (a : ℕ) → Stands s a es → AllByRecursion IsEntry es
      → (i : ℕ) (e : Equation) → a ≤ i → i < a + length es → equation s i ≡ Some e → IsTrue (is_spelled (runs s i) e.op) → IsWhole e
  entries_whole [] a st are i e low high is spelled = absurd (omega arith)
  entries_whole (p ∷ es) a st are i e low high is spelled = elim (cases_lt a i) [
    | inl later ↦ entries_whole es (a + 1) st.2 are.1 i e (omega arith) (omega arith) is spelled
    | inr here ↦ whole_first p a i e st.0 st.1 are.0 (omega arith) is spelled
  ]

kept_low : (n : ℕ) (b : Bool) (a : ℕ) (ns : List ℕ) → a < n → AllByRecursion (λ i. i < n) ns → AllByRecursion (λ i. i < n) (cond b (a ∷ ns) ns)
kept_low n true a ns low all = (low, all)
kept_low n false a ns low all = all

pub running_low : (n : ℕ) (es : List (Bool × Equation)) (a : ℕ) → a + length es ≤ n → AllByRecursion (λ i. i < n) (running_from a es)
running_low n [] a few = tt
running_low n (p ∷ es) a few = kept_low n p.0 a (running_from (a + 1) es) (omega arith) (running_low n es (a + 1) (omega arith))

-- ---- code

-- what reading tells of code: all of its form, but for what its parts have to do with each other
pub record IsRead (c : Code) : Type 0 where
  pub few_equations : length c.system.equations ≤ MOST_EQUATIONS
  pub running : IsStrictlyIncreasing c.system.running
  pub running_there : AllByRecursion (λ i. i < length c.system.equations) c.system.running
  pub equations : (i : ℕ) (e : Equation) → IsSpelled c.system i e → IsWhole e
  pub outputs : AllByRecursion IsOutput c.system.outputs
  pub few_outputs : length c.system.outputs ≤ 2 ^ 31
  pub few_updates : length c.in_place < 2 ^ 32
  pub updates : AllByRecursion (λ x. x < 2 ^ 32) c.in_place
  pub few_steps : length c.order < 2 ^ 32
  pub steps : AllByRecursion (λ x. x < 2 ^ 32) c.order
  pub bare_is : bare c ≡ c

count_taken : (most : ℕ) → AreTaken number (λ n. (n < 2 ^ 32) × (n ≤ most)) (count_at most)
count_taken most bytes n rest fits e =
    let a = bind_some (number_at bytes) (λ m. cond (nat_le m.0 most) (Some m) None) (n, rest) e in
    let g = passed_test (nat_le a.0.0 most) a.0 (n, rest) a.2 in
    let t = number_taken bytes a.0.0 a.0.1 fits a.1 in
    subst (λ (p : ℕ × List ℕ). Takes bytes (number p.0) p.1 × ((p.0 < 2 ^ 32) × (p.0 ≤ most))) g.1 (t.0, (t.1, leb-true _ _ g.0))

-- after how many there are
counted : (bytes : List ℕ) (n : ℕ) (more front rest : List ℕ) (m : ℕ) → Takes bytes (number n) more → Takes more front rest → m ≡ n → Takes bytes (number m ++ front) rest
counted bytes n more front rest m first second size =
    subst (λ (k : ℕ). Takes bytes (number k ++ front) rest) (sym size) (Takes-then bytes (number n) more front rest first second)

module _ (entries : List (Bool × Equation)) (outputs : List Output) (in_place order : List ℕ) (are : AllByRecursion IsEntry entries) where
  abbrev made : Code
  made = code_of entries outputs in_place order

  abbrev s : System
  s = made.system

  size : length s.equations ≡ length entries
  size = length-map entries (λ p. p.1)

  st : Stands s 0 entries
  st = stand s [] entries 0 refl refl refl

  equations_spelled : number (length entries) ++ flat_map entry_spelled entries ≡ equations_bytes s
  equations_spelled = ap (λ x. number (length entries) ++ x) (entries_spelled s entries 0 st) ∙ ap (λ n. number n ++ flat_map (entry_at s) (range_with_len 0 n)) (sym size)

  made_bare : bare made ≡ made
  made_bare =
      let equations : map (λ i. bare_in (runs s i) (equation s i)) (numbers s) ≡ s.equations =
      ap (λ n. map (λ i. bare_in (runs s i) (equation s i)) (range_with_len 0 n)) size ∙ entries_bare s entries 0 st are in
      λ k. record { system = record { equations = equations k; outputs = outputs; running = s.running }; in_place = in_place; order = order }

  made_rises : IsStrictlyIncreasing s.running
  made_rises = subst IsStrictlyIncreasing (sym (running_filtered s entries 0 st)) (IsStrictlyIncreasing-filter (runs s) (range_with_len 0 (length entries)) (numbers_rise (length entries)))

  made_low : AllByRecursion (λ i. i < length s.equations) s.running
  made_low = running_low (length s.equations) entries 0 (omega (arith, size))

  made_whole : (i : ℕ) (e : Equation) → IsSpelled s i e → IsWhole e
  made_whole i e it =
      let there = slice_get_within s.equations i e it.is in
      entries_whole s entries 0 st are i e (omega arith) (omega (arith, there, size)) it.is it.spelled

pub code_taken : AreTaken after_mark IsRead code_at
unfolding code_at
code_taken bytes x rest fits e =
    let a = bind_some (count_at MOST_EQUATIONS bytes) (λ n. items_at entry_read n.0 n.1 >>= λ es. count_at 0x8000_0000 es.1 >>= λ m. items_at output_at m.0 m.1 >>= λ os. list_at os.1 >>= λ p. list_at p.1 >>= λ q. Some (code_of es.0 os.0 p.0 q.0, q.1)) (x, rest) e in
    let es = bind_some (items_at entry_read a.0.0 a.0.1) (λ es. count_at 0x8000_0000 es.1 >>= λ m. items_at output_at m.0 m.1 >>= λ os. list_at os.1 >>= λ p. list_at p.1 >>= λ q. Some (code_of es.0 os.0 p.0 q.0, q.1)) (x, rest) a.2 in
    let m = bind_some (count_at 0x8000_0000 es.0.1) (λ m. items_at output_at m.0 m.1 >>= λ os. list_at os.1 >>= λ p. list_at p.1 >>= λ q. Some (code_of es.0.0 os.0 p.0 q.0, q.1)) (x, rest) es.2 in
    let os = bind_some (items_at output_at m.0.0 m.0.1) (λ os. list_at os.1 >>= λ p. list_at p.1 >>= λ q. Some (code_of es.0.0 os.0 p.0 q.0, q.1)) (x, rest) m.2 in
    let p = bind_some (list_at os.0.1) (λ p. list_at p.1 >>= λ q. Some (code_of es.0.0 os.0.0 p.0 q.0, q.1)) (x, rest) os.2 in
    let q = bind_some (list_at p.0.1) (λ q. Some (code_of es.0.0 os.0.0 p.0.0 q.0, q.1)) (x, rest) p.2 in
    let first = count_taken MOST_EQUATIONS bytes a.0.0 a.0.1 fits a.1 in
    let second = items_taken entry_spelled IsEntry entry_read entry_taken a.0.0 a.0.1 es.0.0 es.0.1 first.0.rest_fits es.1 in
    let third = count_taken 0x8000_0000 es.0.1 m.0.0 m.0.1 second.0.rest_fits m.1 in
    let fourth = items_taken output_bytes IsOutput output_at output_taken m.0.0 m.0.1 os.0.0 os.0.1 third.0.rest_fits os.1 in
    let fifth = list_taken os.0.1 p.0.0 p.0.1 fourth.0.rest_fits p.1 in
    let sixth = list_taken p.0.1 q.0.0 q.0.1 fifth.0.rest_fits q.1 in
    let c = made es.0.0 os.0.0 p.0.0 q.0.0 second.1.1 in
    let front = counted bytes a.0.0 a.0.1 (flat_map entry_spelled es.0.0) es.0.1 (length es.0.0) first.0 second.0 second.1.0 in
    let middle = counted es.0.1 m.0.0 m.0.1 (flat_map output_bytes os.0.0) os.0.1 (length os.0.0) third.0 fourth.0 fourth.1.0 in
    let plan = Takes-then os.0.1 (list_bytes p.0.0) p.0.1 (list_bytes q.0.0) q.0.1 fifth.0 sixth.0 in
    let equations = subst (λ (t : List ℕ). Takes bytes t es.0.1) (equations_spelled es.0.0 os.0.0 p.0.0 q.0.0 second.1.1) front in
    let all = Takes-then bytes (equations_bytes c.system) es.0.1 (outputs_bytes os.0.0 ++ (list_bytes p.0.0 ++ list_bytes q.0.0)) q.0.1 equations
    (Takes-then es.0.1 (outputs_bytes os.0.0) os.0.1 (list_bytes p.0.0 ++ list_bytes q.0.0) q.0.1 middle plan) in
    let few = first.1.1 in
    let as_many = second.1.0 in
    let same = size es.0.0 os.0.0 p.0.0 q.0.0 second.1.1 in
    let few_outputs = third.1.1 in
    let outputs_many = fourth.1.0 in
    subst (λ (y : Code × List ℕ). Takes bytes (after_mark y.0) y.1 × IsRead y.0) (some_is (c, q.0.1) (x, rest) q.2) (
      all,
      record {
        few_equations = omega (arith, few, as_many, same);
        running = made_rises es.0.0 os.0.0 p.0.0 q.0.0 second.1.1;
        running_there = made_low es.0.0 os.0.0 p.0.0 q.0.0 second.1.1;
        equations = made_whole es.0.0 os.0.0 p.0.0 q.0.0 second.1.1;
        outputs = fourth.1.1;
        few_outputs = omega (arith, few_outputs, outputs_many);
        few_updates = fifth.1.0;
        updates = fifth.1.1;
        few_steps = sixth.1.0;
        steps = sixth.1.1;
        bare_is = made_bare es.0.0 os.0.0 p.0.0 q.0.0 second.1.1;
      },
    )
