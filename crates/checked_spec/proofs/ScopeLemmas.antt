-- What the names of a scope stand for.
use Rattle.std.proofs.Common.{◌≡◌, ℕ, suc, ◌+◌, Bool, true, false, cond, not, ◌&&◌, if◌then◌else◌, List, [], ◌∷◌, Option, Some, refl, ap, subst, ◌∙◌, inl, inr, arith}
use Rattle.std.specs.Prelude.{slice_get}
use Rattle.std.specs.Option.{option_map}
use Rattle.std.specs.List.{AllByRecursion, find, list_any, list_all, flat_map}
use Rattle.std.specs.Str.{bytes_eq}
use Rattle.std.proofs.lemmas.Option.{same_Some}
use Rattle.std.proofs.lemmas.Bool.{and_cases, and_from, or_left, or_right, not_from_false}
use Rattle.tsl_value.specs.declared.place.Place.{Place}
use Rattle.syntax_tree.specs.Tree as tree
use Rattle.syntax_tree.specs.Tree.{TypeName}
use Rattle.name_check.specs.declared.declaration.Declaration.{Declaration}
use Rattle.name_check.specs.declared.declaration.Declaration.TheVariants as declaration
use Rattle.name_check.specs.Scope.{Scope, meaning, is_events, declared_as, declared_from, top, parameters_from, locals_from, is_function, are_values, functions_of, inside, in_block}
use Rattle.name_check.specs.Parts.{Part, Operand, Function}
use Rattle.form_check.specs.Declared.{are_mixed, mixed_in_item}
use Rattle.syntax_tree.specs.Tree.{params_of}
use Rattle.expr_types.specs.Bodies.{may_have_braces}
use Rattle.definition_cycles.specs.Mentions.{declared}
use Rattle.spec_meaning.specs.Occurrence.{body_of, block_of}
use Rattle.checked_spec.specs.inner.Formed.{is_input, is_stream, IsDeclared}
use Rattle.flat_core.proofs.Members.{all_append}
use Rattle.tsl_value.proofs.Lists.{append_empty, none_all}
use Rattle.checked_spec.proofs.WrittenLemmas.{Has}
use Rattle.checked_spec.proofs.BlockLemmas.{nth, ArePlain}

-- ---- parameters
-- where not all are streams, one is none
one_is_none : (ps : List tree.Param) → list_all (λ q. is_events q.of) ps ≡ false → list_any (λ q. not (is_events q.of)) ps ≡ true
one_is_none [] h = absurd (cc)
one_is_none (p ∷ ps) h = elim (and_cases (is_events p.of) (list_all (λ q. is_events q.of) ps) h) [
  | inl this ↦ or_left (not (is_events p.of)) (list_any (λ q. not (is_events q.of)) ps) (not_from_false (is_events p.of) this)
  | inr rest ↦ or_right (not (is_events p.of)) (list_any (λ q. not (is_events q.of)) ps) (one_is_none ps rest)
]

-- ---- what is seen in an item
module _ (items : List tree.Item) where
  -- a name stands for what it says, in the definition of an item
  abbrev pub IsSeen : Option tree.Item → Declaration → Type 0
  IsSeen o (declaration.Parameter k) = Has (slice_get (params_of o) k)
  IsSeen o (declaration.Local k) = Has (nth k (block_of (body_of o)))
  IsSeen o (declaration.Mixed i) = ⊥
  IsSeen o d = IsDeclared items d

  abbrev AreSeen : Option tree.Item → Scope → Type 0
  AreSeen o scope = AllByRecursion (λ e. IsSeen o e.is) scope

  several_seen : (o : Option tree.Item) (i : ℕ) (p q : Place) (n : List ℕ) (a : tree.Param) (ps : List tree.Param) (w : Option TypeName) (b : tree.Body) → slice_get items i ≡ Some (tree.Defined p (tree.Define q n (a ∷ ps) w b)) → are_mixed (a ∷ ps) ≡ false → (s t : Bool) → list_all (λ v. is_events v.of) (a ∷ ps) ≡ s → list_any (λ v. is_events v.of) (a ∷ ps) ≡ t → IsSeen o (if s then declaration.Macro i else if t then declaration.Mixed i else declaration.Function i)
  several_seen o i p q n a ps w b is unmixed true t h k = ap (λ x. may_have_braces (params_of x)) is ∙ h
  several_seen o i p q n a ps w b is unmixed false true h k =
      let e : (list_any (λ (v : tree.Param). is_events v.of) (a ∷ ps) && list_any (λ (v : tree.Param). not (is_events v.of)) (a ∷ ps)) ≡ true = and_from (list_any (λ v. is_events v.of) (a ∷ ps)) (list_any (λ v. not (is_events v.of)) (a ∷ ps)) k (one_is_none (a ∷ ps) h) in
      absurd (cc)
  several_seen o i p q n a ps w b is unmixed false false h k = ap (λ x. are_values (params_of x)) is ∙ none_all (λ q. is_events q.of) (a ∷ ps) k

  definition_seen : (o : Option tree.Item) (i : ℕ) (p q : Place) (n : List ℕ) (ps : List tree.Param) (w : Option TypeName) (b : tree.Body) → slice_get items i ≡ Some (tree.Defined p (tree.Define q n ps w b)) → (if are_mixed ps then q ∷ [] else []) ≡ [] → IsSeen o (declared_as i ps)
  definition_seen o i p q n [] w b is none = ap is_stream is
  definition_seen o i p q n (a ∷ ps) w b is none = by (are_mixed (a ∷ ps)) refl none
    where
      by : (t : Bool) → are_mixed (a ∷ ps) ≡ t → (if t then q ∷ [] else []) ≡ [] → IsSeen o (declared_as i (a ∷ ps))
      by true e k = absurd (cc)
      by false e k = several_seen o i p q n a ps w b is e (list_all (λ v. is_events v.of) (a ∷ ps)) (list_any (λ v. is_events v.of) (a ∷ ps)) refl refl

  declared_seen : (o : Option tree.Item) (i : ℕ) (rest : List tree.Item) → ((k : ℕ) → slice_get items (i + k) ≡ slice_get rest k) → flat_map mixed_in_item rest ≡ [] → AreSeen o (declared_from i rest)
  declared_seen o i [] same none = tt
  declared_seen o i (item ∷ rest) same none =
      each item this (append_empty (mixed_in_item item) (flat_map mixed_in_item rest) none).0
      (declared_seen o (suc i) rest (λ k. let e : suc i + k ≡ i + suc k = omega arith in ap (slice_get items) e ∙ same (suc k)) (append_empty (mixed_in_item item) (flat_map mixed_in_item rest) none).1)
    where
      this : slice_get items i ≡ Some item
      this = let e : i ≡ i + 0 = omega arith in ap (slice_get items) e ∙ same 0

      each : (x : tree.Item) → slice_get items i ≡ Some x → mixed_in_item x ≡ [] → AreSeen o (declared_from (suc i) rest) → AreSeen o (declared_from i (x ∷ rest))
      each (tree.Input p q n y) is unmixed more = (ap is_input is, more)
      each (tree.Defined p (tree.Define q n ps w b)) is unmixed more = (definition_seen o i p q n ps w b is unmixed, more)
      each (tree.Output p q n) is unmixed more = more
      each (tree.OutputAs p e q n) is unmixed more = more

  parameters_seen : (o : Option tree.Item) (k : ℕ) (ps : List tree.Param) → ((m : ℕ) → slice_get (params_of o) (k + m) ≡ slice_get ps m) → AreSeen o (parameters_from k ps)
  parameters_seen o k [] same = tt
  parameters_seen o k (p ∷ ps) same =
      let e : k ≡ k + 0 = omega arith in (
        record { it = p; is = ap (slice_get (params_of o)) e ∙ same 0 },
        parameters_seen o (suc k) ps (λ m. let f : suc k + m ≡ k + suc m = omega arith in ap (slice_get (params_of o)) f ∙ same (suc m)),
      )

  locals_seen : (o : Option tree.Item) (k : ℕ) (ds : tree.Definitions) → ArePlain ds → ((m : ℕ) → nth (k + m) (block_of (body_of o)) ≡ nth m ds) → AreSeen o (locals_from k ds)
  locals_seen o k tree.no_definitions plain same = tt
  locals_seen o k (tree.more_definitions (tree.Define q n ps w (tree.Plain b)) ds) plain same =
      let e : k ≡ k + 0 = omega arith in
      let next : suc k ≡ suc k + 0 = omega arith in (
        record { it = tree.Define q n ps w (tree.Plain b); is = ap (λ j. nth j (block_of (body_of o))) e ∙ same 0 },
        subst (λ j. AreSeen o (locals_from j ds)) next
            (locals_seen o (suc k) ds plain (λ m. let f : suc k + m ≡ k + suc m = omega arith in ap (λ j. nth j (block_of (body_of o))) f ∙ same (suc m))),
      )
  locals_seen o k (tree.more_definitions (tree.Define q n ps w (tree.Block es b)) ds) plain same = absurd plain

  functions_seen : (o : Option tree.Item) (scope : Scope) → AreSeen o scope → AreSeen o (functions_of scope)
  functions_seen o [] all = tt
  functions_seen o (e ∷ scope) all = by (is_function e.is) (functions_seen o scope all.1)
    where
      by : (b : Bool) → AreSeen o (functions_of scope) → AreSeen o (cond b (e ∷ functions_of scope) (functions_of scope))
      by true more = (all.0, more)
      by false more = more

  -- what is seen in the definition of an item, or at the top
  abbrev pub scope_in : Option tree.Item → Scope
  scope_in o = in_block 0 (inside (top items) (params_of o)) (block_of (body_of o))

  top_seen : (o : Option tree.Item) → flat_map mixed_in_item items ≡ [] → AreSeen o (top items)
  top_seen o none = declared_seen o 0 items (λ k. let e : 0 + k ≡ k = omega arith in ap (slice_get items) e) none

  around_seen : (o : Option tree.Item) (b : Bool) → flat_map mixed_in_item items ≡ [] → AreSeen o (if b then functions_of (top items) else top items)
  around_seen o true none = functions_seen o (top items) (top_seen o none)
  around_seen o false none = top_seen o none

  scope_seen : (o : Option tree.Item) → flat_map mixed_in_item items ≡ [] → ArePlain (block_of (body_of o)) → AreSeen o (scope_in o)
  scope_seen o none plain =
      all_append (λ e. IsSeen o e.is) (locals_from 0 (block_of (body_of o))) (inside (top items) (params_of o))
      (locals_seen o 0 (block_of (body_of o)) plain (λ m. let e : 0 + m ≡ m = omega arith in ap (λ j. nth j (block_of (body_of o))) e))
      (all_append (λ e. IsSeen o e.is) (parameters_from 0 (params_of o)) (if are_values (params_of o) then functions_of (top items) else top items)
      (parameters_seen o 0 (params_of o) (λ m. let e : 0 + m ≡ m = omega arith in ap (slice_get (params_of o)) e))
      (around_seen o (are_values (params_of o)) none))

  found_seen : (o : Option tree.Item) (n : List ℕ) (scope : Scope) → AreSeen o scope → (d : Declaration) → meaning scope n ≡ Some d → IsSeen o d
  found_seen o n [] all d is = absurd (cc)
  found_seen o n (e ∷ scope) all d is = by (bytes_eq e.name n) is (λ more. found_seen o n scope all.1 d more)
    where
      by : (b : Bool) → option_map (λ x. x.is) (cond b (Some e) (find (λ x. bytes_eq x.name n) scope)) ≡ Some d → (meaning scope n ≡ Some d → IsSeen o d) → IsSeen o d
      by true h more = subst (IsSeen o) (same_Some e.is d h) all.0
      by false h more = more h

  -- what the name of a part stands for
  pub mentioned_seen : (o : Option tree.Item) → flat_map mixed_in_item items ≡ [] → ArePlain (block_of (body_of o)) → (p : Part) (d : Declaration) → declared (scope_in o) p ≡ Some d → IsSeen o d
  mentioned_seen o none plain (Operand (tree.Name p n)) d is = found_seen o n (scope_in o) (scope_seen o none plain) d is
  mentioned_seen o none plain (Operand (tree.Call p n es)) d is = found_seen o n (scope_in o) (scope_seen o none plain) d is
  mentioned_seen o none plain (Function (tree.Name p n)) d is = found_seen o n (scope_in o) (scope_seen o none plain) d is
  mentioned_seen o none plain (Function (tree.Call p n es)) d is = found_seen o n (scope_in o) (scope_seen o none plain) d is
  mentioned_seen o none plain p d is = absurd (cc)
