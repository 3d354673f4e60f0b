-- What names stand for in the bodies of items.
use Rattle.std.proofs.Common.{◌≡◌, ℕ, suc, ◌+◌, ◌<◌, Bool, true, false, cond, if◌then◌else◌, List, [], ◌∷◌, length, Some, subst, inl, inr, arith}
use Rattle.std.specs.Option.{option_map}
use Rattle.std.specs.List.{All, Contains, find, list_all, list_any}
use Rattle.std.specs.Str.{bytes_eq}
use Rattle.std.proofs.lemmas.List.Elements.{All-nil, All-cons, All-head, All-tail, All-append, All-filter, Contains-append_cases}
use Rattle.tsl_value.specs.declared.place.Place.{Place}
use Rattle.syntax_tree.specs.Tree as tree
use Rattle.tsl_value.proofs.Lists.{none_in_nil, cons_cases}
use Rattle.name_check.specs.declared.declaration.Declaration.{Declaration}
use Rattle.name_check.specs.declared.declaration.Declaration.TheVariants as declaration
use Rattle.name_check.specs.Scope.{Scope, meaning, is_events, declared_as, declared_from, parameters_from, count_in, locals_from, is_function, functions_of, are_values, inside, in_block, top}
use Rattle.name_check.specs.Bodies.{Seen, bodies, block_bodies, item_bodies}
use Rattle.name_check.specs.Parts.{Part, Operand, Function}
use Rattle.definition_cycles.specs.Nodes.{parameters_of}
use Rattle.definition_cycles.specs.Mentions.{declared}

-- ---- what holds of all that is declared in a scope
abbrev pub AreAll : (Declaration → Type 0) → Scope → Type 0
AreAll P scope = All (λ e. P e.is) scope

module _ (P : Declaration → Type 0) where
  meaning_all : (scope : Scope) → AreAll P scope → (m : List ℕ) (d : Declaration) → meaning scope m ≡ Some d → P d
  meaning_all [] h m d is = absurd (cc)
  meaning_all (e ∷ scope) h m d is = by (bytes_eq e.name m) (All-head (λ x. P x.is) e scope h) (meaning_all scope (All-tail (λ x. P x.is) e scope h) m d) is
    where
      by : (b : Bool) → P e.is → (meaning scope m ≡ Some d → P d) → option_map (λ x. x.is) (cond b (Some e) (find (λ x. bytes_eq x.name m) scope)) ≡ Some d → P d
      by true here rest k = let same : e.is ≡ d = cc in subst P same here
      by false here rest k = rest k

  pub declared_all : (scope : Scope) → AreAll P scope → (p : Part) (d : Declaration) → declared scope p ≡ Some d → P d
  declared_all scope h (Operand (tree.Name p m)) d is = meaning_all scope h m d is
  declared_all scope h (Operand (tree.Call p m es)) d is = meaning_all scope h m d is
  declared_all scope h (Operand e) d is = absurd (cc)
  declared_all scope h (Function (tree.Name p m)) d is = meaning_all scope h m d is
  declared_all scope h (Function (tree.Call p m es)) d is = meaning_all scope h m d is
  declared_all scope h (Function e) d is = absurd (cc)

  pub around_all : (scope : Scope) (ps : List tree.Param) → AreAll P scope → AreAll P (if are_values ps then functions_of scope else scope)
  around_all scope ps h = by (are_values ps)
    where
      by : (b : Bool) → AreAll P (if b then functions_of scope else scope)
      by true = All-filter (λ e. is_function e.is) (λ e. P e.is) scope h
      by false = h

-- ---- where it holds of parameters, and of definitions in blocks
module _ (P : Declaration → Type 0) (parameter : (k : ℕ) → P (declaration.Parameter k)) (local : (k : ℕ) → P (declaration.Local k)) where
  parameters_all : (k : ℕ) (ps : List tree.Param) → AreAll P (parameters_from k ps)
  parameters_all k [] = All-nil (λ e. P e.is)
  parameters_all k (p ∷ ps) = All-cons (λ e. P e.is) (record { name = p.name; is = declaration.Parameter k }) (parameters_from (suc k) ps) (parameter k) (parameters_all (suc k) ps)

  locals_all : (k : ℕ) (ds : tree.Definitions) → AreAll P (locals_from k ds)
  locals_all k tree.no_definitions = All-nil (λ e. P e.is)
  locals_all k (tree.more_definitions (tree.Define q x ps w b) ds) = All-cons (λ e. P e.is) (record { name = x; is = declaration.Local k }) (locals_from (suc k + count_in b) ds) (local k) (locals_all (suc k + count_in b) ds)

  inside_all : (scope : Scope) (ps : List tree.Param) → AreAll P (if are_values ps then functions_of scope else scope) → AreAll P (inside scope ps)
  inside_all scope ps h = All-append (λ e. P e.is) (parameters_from 0 ps) (if are_values ps then functions_of scope else scope) (parameters_all 0 ps) h

  block_all : (k : ℕ) (scope : Scope) (ds : tree.Definitions) → AreAll P scope → AreAll P (in_block k scope ds)
  block_all k scope ds h = All-append (λ e. P e.is) (locals_from k ds) scope (locals_all k ds) h

  mutual
    body_all : (k : ℕ) (scope : Scope) (b : tree.Body) → AreAll P scope → (s : Seen) → Contains (bodies k scope b) s → AreAll P s.scope
    body_all k scope (tree.Plain e) h s c = elim (cons_cases (record { scope = scope; expr = e }) s [] c) [ inl same ↦ subst (λ x. AreAll P x.scope) same h | inr past ↦ absurd (none_in_nil s past) ]
    body_all k scope (tree.Block ds e) h s c =
        let t = in_block k scope ds in
        let last : Seen = record { scope = t; expr = e } in
        elim (Contains-append_cases (block_bodies k t ds) (last ∷ []) s c) [ inl l ↦ definitions_all k t ds (block_all k scope ds h) s l | inr r ↦ elim (cons_cases last s [] r) [ inl same ↦ subst (λ x. AreAll P x.scope) same (block_all k scope ds h) | inr past ↦ absurd (none_in_nil s past) ] ]

    definitions_all : (k : ℕ) (scope : Scope) (ds : tree.Definitions) → AreAll P scope → (s : Seen) → Contains (block_bodies k scope ds) s → AreAll P s.scope
    definitions_all k scope tree.no_definitions h s c = absurd (none_in_nil s c)
    definitions_all k scope (tree.more_definitions (tree.Define q x ps w b) ds) h s c =
        elim (Contains-append_cases (bodies (suc k) scope b) (block_bodies (suc k + count_in b) scope ds) s c) [ inl l ↦ body_all (suc k) scope b h s l | inr r ↦ definitions_all (suc k + count_in b) scope ds h s r ]

  -- what is declared in an expression of a definition, where it holds of all that is seen around it
  pub declared_in_definition : (scope : Scope) (p : Place) (d : tree.Definition) (s : Seen) (q : Part) (e : Declaration) → AreAll P (if are_values (parameters_of d) then functions_of scope else scope) → Contains (item_bodies scope (tree.Defined p d)) s → declared s.scope q ≡ Some e → P e
  declared_in_definition scope p (tree.Define y x ps w b) s q e h c is = declared_all P s.scope (body_all 0 (inside scope ps) b (inside_all scope ps h) s c) q e is

-- ---- a value function is one of the first n items
abbrev IsBelow : ℕ → Declaration → Type 0
IsBelow n (declaration.Function j) = j < n
IsBelow n d = Unit {0}

declared_below : (n i : ℕ) (ps : List tree.Param) → i < n → IsBelow n (declared_as i ps)
declared_below n i [] h = tt
declared_below n i (p ∷ ps) h = by (list_all (λ q. is_events q.of) (p ∷ ps)) (list_any (λ q. is_events q.of) (p ∷ ps))
  where
    by : (a b : Bool) → IsBelow n (if a then declaration.Macro i else if b then declaration.Mixed i else declaration.Function i)
    by true b = tt
    by false true = tt
    by false false = h

items_below : (n i : ℕ) (items : List tree.Item) → i + length items ≡ n → AreAll (IsBelow n) (declared_from i items)
items_below n i [] h = All-nil (λ e. IsBelow n e.is)
items_below n i (tree.Input p q x y ∷ items) h = All-cons (λ e. IsBelow n e.is) (record { name = x; is = declaration.Input i }) (declared_from (suc i) items) tt (items_below n (suc i) items (omega arith))
items_below n i (tree.Defined p (tree.Define q x ps w b) ∷ items) h = All-cons (λ e. IsBelow n e.is) (record { name = x; is = declared_as i ps }) (declared_from (suc i) items) (declared_below n i ps (omega arith)) (items_below n (suc i) items (omega arith))
items_below n i (tree.Output p q x ∷ items) h = items_below n (suc i) items (omega arith)
items_below n i (tree.OutputAs p e q x ∷ items) h = items_below n (suc i) items (omega arith)

-- what is called in the definition of an item is an item
pub called_below : (items : List tree.Item) (p : Place) (d : tree.Definition) (s : Seen) (q : Part) (j : ℕ) → Contains (item_bodies (top items) (tree.Defined p d)) s → declared s.scope q ≡ Some (declaration.Function j) → j < length items
called_below items p d s q j =
    let n = length items in
    declared_in_definition (IsBelow n) (λ k. tt) (λ k. tt) (top items) p d s q (declaration.Function j) (around_all (IsBelow n) (top items) (parameters_of d) (items_below n 0 items (omega arith)))
