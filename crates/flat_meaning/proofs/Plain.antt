-- The equations of a system without their names: walks, operations and cases do not look at these.
use Rattle.std.proofs.Common.{◌≡◌, ℕ, zero, suc, ◌+◌, ◌<◌, List, [], ◌∷◌, ◌++◌, map, length, Option, Some, None, refl, ap, sym, subst, ◌∙◌, arith}
use Rattle.std.specs.Prelude.{slice_get, IsTrue}
use Rattle.std.specs.Option.{option_map}
use Rattle.std.specs.List.{AllByRecursion, Contains}
use Rattle.std.proofs.lemmas.Option.{slice_get-map, same_Some, none-some}
use Rattle.flat_core.specs.declared.equation.Equation.{Equation}
use Rattle.flat_core.specs.Case.{Streams, case_of, root_fault}
use Rattle.flat_core.specs.Events.{Inputs}
use Rattle.translation_order.specs.Graph.{Path, edge, step, Walk, stay, onward}
use Rattle.flat_core.specs.Needed.{HasArgument}
use Rattle.flat_core.specs.System.{System, runs, equation, IsProper}
use Rattle.flat_core.specs.WellFormed.{unguarded_of, Needs, IsWellFormed}
use Rattle.flat_core.proofs.Members.{all_at}
use Rattle.translation_order.proofs.PathLemmas.{walk_keeps}
use Rattle.flat_core.proofs.WellFormedRank.{rank_of, rank_falls}
use Rattle.stream_constructs.specs.Agree.{StandsAt}
use Rattle.spec_meaning.specs.Flat.{named}
use Rattle.tsl_value.proofs.Lists.{all_by_place, get_left, get_right}

abbrev pub unnamed : Equation → Equation
unnamed e = record e { name = None }

abbrev pub plain : System → System
plain s = record s { equations = map unnamed s.equations }

-- equations stand in a system from number n on, but for their names
abbrev pub Within : System → ℕ → List Equation → Type 0
Within s n made = (k : ℕ) (e : Equation) → slice_get made k ≡ Some e → slice_get (plain s).equations (n + k) ≡ Some (unnamed e)

-- the equations of a system, from number 0 on
pub all_within : (s : System) (made : List Equation) → s.equations ≡ made → Within s 0 made
all_within s made are = subst (Within s 0) are (λ k e is. let same : 0 + k ≡ k = omega arith in ap (slice_get (plain s).equations) same ∙ slice_get-map unnamed s.equations k ∙ ap (option_map unnamed) is)

pub within_left : (s : System) (n : ℕ) (xs ys : List Equation) → Within s n (xs ++ ys) → Within s n xs
within_left s n xs ys all k e is = all k e (get_left xs ys k e is)

pub within_right : (s : System) (n : ℕ) (xs ys : List Equation) → Within s n (xs ++ ys) → Within s (n + length xs) ys
within_right s n xs ys all k e is =
    let same : n + (length xs + k) ≡ n + length xs + k = omega arith in
    subst (λ i. slice_get (plain s).equations i ≡ Some (unnamed e)) same (all (length xs + k) e (get_right xs ys k ∙ is))

named_get : (x : List ℕ) (xs : List Equation) (k : ℕ) (e : Equation) → slice_get xs k ≡ Some e → (f : Equation) × (slice_get (named x xs) k ≡ Some f) × (unnamed f ≡ unnamed e)
named_get x [] k e is = absurd (none-some e is)
named_get x (d ∷ []) zero e is = (record d { name = Some x }, refl, ap unnamed (same_Some d e is))
named_get x (d ∷ []) (suc k) e is = absurd (none-some e is)
named_get x (d ∷ c ∷ xs) zero e is = (d, refl, ap unnamed (same_Some d e is))
named_get x (d ∷ c ∷ xs) (suc k) e is = named_get x (c ∷ xs) k e is

pub within_named : (s : System) (n : ℕ) (x : List ℕ) (xs : List Equation) → Within s n (named x xs) → Within s n xs
within_named s n x xs all k e is = let found = named_get x xs k e is in all k found.0 found.1 ∙ ap Some found.2

pub named_length : (x : List ℕ) (xs : List Equation) → length (named x xs) ≡ length xs
named_length x [] = refl
named_length x (d ∷ []) = refl
named_length x (d ∷ c ∷ xs) = ap suc (named_length x (c ∷ xs))

-- an equation that has no name
pub record IsNameless (e : Equation) : Type 0 where
  pub nameless : e.name ≡ None

pub stands : (s : System) (n : ℕ) (own : List Equation) → Within s n own → AllByRecursion IsNameless own → StandsAt (plain s).equations n own
stands s n own all none k e is =
    let without = (all_by_place IsNameless own none k e is).nameless in
    let same : unnamed e ≡ e = λ i. record e { name = sym without i } in
    all k e is ∙ ap Some same

module _ (s : System) where
  -- the equation itself
  pub original : (i : ℕ) (e : Equation) → slice_get (plain s).equations i ≡ Some e → (f : Equation) × (equation s i ≡ Some f) × (unnamed f ≡ e)
  original i e is = found (equation s i) refl
    where
      found : (o : Option Equation) → equation s i ≡ o → (f : Equation) × (equation s i ≡ Some f) × (unnamed f ≡ e)
      found None be = absurd (none-some e (sym (ap (option_map unnamed) be) ∙ sym (slice_get-map unnamed s.equations i) ∙ is))
      found (Some f) be = (f, be, same_Some (unnamed f) e (sym (ap (option_map unnamed) be) ∙ sym (slice_get-map unnamed s.equations i) ∙ is))

  pub argument_named : (i j : ℕ) → HasArgument (plain s).equations i j → HasArgument s.equations i j
  argument_named i j has = let found = original i has.at has.is in record { at = found.0; is = found.1; argument = subst (λ e. Contains e.args j) (sym found.2) has.argument }

  pub walk_named : {i j : ℕ} → Walk (HasArgument (plain s).equations) i j → Walk (HasArgument s.equations) i j
  walk_named stay = stay
  walk_named (onward {a} {b} e w) = onward (argument_named a b e) (walk_named w)

  needs_named : (i j : ℕ) → Needs (plain s) i j → Needs s i j
  needs_named i j has = let found = original i has.at has.is in record { at = found.0; is = found.1; argument = subst (λ e. Contains (unguarded_of e.op e.args) j) (sym found.2) has.argument }

  pub case_named : (inputs : Inputs) (z : Streams) (i t : ℕ) (e f : Equation) → unnamed f ≡ e → case_of inputs z i f t ≡ case_of inputs z i e t
  case_named inputs z i t e f same = ap (λ g. case_of inputs z i g t) same

  pub root_named : (inputs : Inputs) (z : Streams) (i t : ℕ) (e f : Equation) → unnamed f ≡ e → root_fault inputs z i f t ≡ root_fault inputs z i e t
  root_named inputs z i t e f same = ap (λ g. root_fault inputs z i g t) same

  -- what a running equation walks to runs
  pub walk_runs : IsProper s → {i j : ℕ} → Walk (HasArgument s.equations) i j → IsTrue (runs s i) → IsTrue (runs s j)
  walk_runs proper w run = walk_keeps (λ i. IsTrue (runs s i)) along w run
    where
      along : (a b : ℕ) → HasArgument s.equations a b → IsTrue (runs s a) → IsTrue (runs s b)
      along a b has run =
          let found = proper.runs_all a run in
          let same : found.0 ≡ has.at = same_Some found.0 has.at (sym found.1 ∙ has.is) in
          all_at (λ i. IsTrue (runs s i)) has.at.args (subst (λ e. AllByRecursion (λ i. IsTrue (runs s i)) e.args) same found.2) b has.argument

  -- the rank falls
  module _ (good : IsWellFormed s) where
    needs_lower : (i j : ℕ) → Needs s i j → rank_of s good j < rank_of s good i
    needs_lower i j has = all_at (λ a. rank_of s good a < rank_of s good i) (unguarded_of has.at.op has.at.args) (rank_falls s good i has.at has.is) j has.argument

    pub path_lower : {i j : ℕ} → Path (Needs (plain s)) i j → rank_of s good j < rank_of s good i
    path_lower (edge {a} {b} e) = needs_lower a b (needs_named a b e)
    path_lower (step {a} {b} {c} e p) = let first = needs_lower a b (needs_named a b e) in let rest = path_lower p in omega arith
