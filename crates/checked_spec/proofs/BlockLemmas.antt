-- The definitions of a block, by their order. Where each has an expression for its body, these are their numbers.
use Rattle.std.proofs.Common.{◌≡◌, ℕ, zero, suc, ◌+◌, if◌then◌else◌, List, [], ◌++◌, Option, Some, None, Contains, refl, sym, ap, subst, ◌∙◌, arith}
use Rattle.std.specs.Prelude.{slice_get, is_some}
use Rattle.std.specs.Option.{option_map, option_and_then}
use Rattle.std.proofs.lemmas.Bool.{ne_eqb, eq-eqb}
use Rattle.std.proofs.lemmas.List.Elements.{Contains-append_right}
use Rattle.tsl_value.proofs.Lists.{here, append_empty}
use Rattle.tsl_value.specs.declared.place.Place.{Place}
use Rattle.syntax_tree.specs.Tree as tree
use Rattle.syntax_tree.specs.Tree.{Expr, TypeName}
use Rattle.name_check.specs.Scope.{Scope, count_in}
use Rattle.name_check.specs.Bodies.{Seen, bodies, block_bodies}
use Rattle.name_check.specs.inner.Steps.{local_body}
use Rattle.form_check.specs.Types.{bad_stream, bad_in_body, bad_in_locals}
use Rattle.expr_types.specs.Around.{Around}
use Rattle.expr_types.specs.Bodies.{written_of, definition_kind, local_from, expr_wrongs, plain_wrongs, local_wrongs}
use Rattle.expr_types.specs.inner.BodySteps.{kind_of_local}
use Rattle.definition_cycles.specs.Nodes.{Node, block_nodes}
use Rattle.spec_meaning.specs.Occurrence.{local}

-- a definition of a block, by its number among all
abbrev pub nth : ℕ → tree.Definitions → Option tree.Definition
nth k tree.no_definitions = None
nth zero (tree.more_definitions d ds) = Some d
nth (suc k) (tree.more_definitions d ds) = nth k ds

-- each body is an expression
abbrev pub ArePlain : tree.Definitions → Type 0
ArePlain tree.no_definitions = Unit {0}
ArePlain (tree.more_definitions (tree.Define q n ps w (tree.Plain e)) ds) = ArePlain ds
ArePlain (tree.more_definitions (tree.Define q n ps w (tree.Block es e)) ds) = ⊥

pub are_plain : (at : Around) (ds : tree.Definitions) → local_wrongs at ds ≡ [] → ArePlain ds
are_plain at tree.no_definitions h = tt
are_plain at (tree.more_definitions (tree.Define q n ps w (tree.Plain e)) ds) h = are_plain at ds (append_empty (expr_wrongs at (written_of [] w) e) (local_wrongs at ds) h).1
are_plain at (tree.more_definitions (tree.Define q n ps w (tree.Block es e)) ds) h = absurd (cc)

-- a definition with an expression for its body
pub record PlainAt (k : ℕ) (ds : tree.Definitions) : Type 0 where
  pub place : Place
  pub name : List ℕ
  pub params : List tree.Param
  pub written : Option TypeName
  pub expr : Expr
  pub is : nth k ds ≡ Some (tree.Define place name params written (tree.Plain expr))

pub plain_at : (ds : tree.Definitions) (k : ℕ) (d : tree.Definition) → ArePlain ds → nth k ds ≡ Some d → PlainAt k ds
plain_at tree.no_definitions k d all h = absurd (cc)
plain_at (tree.more_definitions (tree.Define q n ps w (tree.Plain e)) ds) zero d all h = record { place = q; name = n; params = ps; written = w; expr = e; is = refl }
plain_at (tree.more_definitions (tree.Define q n ps w (tree.Plain e)) ds) (suc k) d all h =
    let p = plain_at ds k d all h in record { place = p.place; name = p.name; params = p.params; written = p.written; expr = p.expr; is = p.is }
plain_at (tree.more_definitions (tree.Define q n ps w (tree.Block es e)) ds) k d all h = absurd all

-- ---- what is said of all is said of each
pub nth_wrongs : (at : Around) (ds : tree.Definitions) (k : ℕ) (q : Place) (n : List ℕ) (ps : List tree.Param) (w : Option TypeName) (b : tree.Body) → local_wrongs at ds ≡ [] → nth k ds ≡ Some (tree.Define q n ps w b) → plain_wrongs at (written_of [] w) b ≡ []
nth_wrongs at tree.no_definitions k q n ps w b h is = absurd (cc)
nth_wrongs at (tree.more_definitions (tree.Define r m os v c) ds) zero q n ps w b h is =
    let this = (append_empty (plain_wrongs at (written_of [] v) c) (local_wrongs at ds) h).0 in
    let written : v ≡ w = cc in
    let body : c ≡ b = cc in
    ap (λ x. plain_wrongs at (written_of [] x) b) (sym written) ∙ ap (plain_wrongs at (written_of [] v)) (sym body) ∙ this
nth_wrongs at (tree.more_definitions (tree.Define r m os v c) ds) (suc k) q n ps w b h is =
    nth_wrongs at ds k q n ps w b (append_empty (plain_wrongs at (written_of [] v) c) (local_wrongs at ds) h).1 is

pub nth_types : (ds : tree.Definitions) (k : ℕ) (q : Place) (n : List ℕ) (ps : List tree.Param) (w : Option TypeName) (b : tree.Body) → bad_in_locals ds ≡ [] → nth k ds ≡ Some (tree.Define q n ps w b) → (bad_stream w ≡ []) × (bad_in_body b ≡ [])
nth_types tree.no_definitions k q n ps w b h is = absurd (cc)
nth_types (tree.more_definitions (tree.Define r m os v c) ds) zero q n ps w b h is =
    let this = (append_empty (bad_stream v ++ bad_in_body c) (bad_in_locals ds) h).0 in
    let both = append_empty (bad_stream v) (bad_in_body c) this in
    let written : v ≡ w = cc in
    let body : c ≡ b = cc in
    (ap bad_stream (sym written) ∙ both.0, ap bad_in_body (sym body) ∙ both.1)
nth_types (tree.more_definitions (tree.Define r m os v c) ds) (suc k) q n ps w b h is =
    nth_types ds k q n ps w b (append_empty (bad_stream v ++ bad_in_body c) (bad_in_locals ds) h).1 is

pub nth_body : (scope : Scope) (i : ℕ) (ds : tree.Definitions) (k : ℕ) (q : Place) (n : List ℕ) (ps : List tree.Param) (w : Option TypeName) (e : Expr) → nth k ds ≡ Some (tree.Define q n ps w (tree.Plain e)) → Contains (block_bodies i scope ds) (record { scope = scope; expr = e })
nth_body scope i tree.no_definitions k q n ps w e is = absurd (cc)
nth_body scope i (tree.more_definitions (tree.Define r m os v c) ds) zero q n ps w e is =
    let body : c ≡ tree.Plain e = cc in
    let seen : Seen = record { scope = scope; expr = e } in
    subst (λ x. Contains (bodies (suc i) scope x ++ block_bodies (suc i + count_in x) scope ds) seen) (sym body)
    (here seen (block_bodies (suc i + 0) scope ds))
nth_body scope i (tree.more_definitions (tree.Define r m os v c) ds) (suc k) q n ps w e is =
    Contains-append_right (bodies (suc i) scope c) (block_bodies (suc i + count_in c) scope ds) (record { scope = scope; expr = e })
    (nth_body scope (suc i + count_in c) ds k q n ps w e is)

pub local_is : (k : ℕ) (ds : tree.Definitions) → local k ds ≡ option_map local_body (nth k ds)
local_is k tree.no_definitions = refl
local_is zero (tree.more_definitions (tree.Define q n ps w b) ds) = refl
local_is (suc k) (tree.more_definitions d ds) = local_is k ds

-- ---- numbers
pub nth_kind : (at : Around) (i : ℕ) (ds : tree.Definitions) (k : ℕ) → ArePlain ds → local_from at (i + k) i ds ≡ option_and_then (kind_of_local at) (nth k ds)
nth_kind at i tree.no_definitions k all = refl
nth_kind at i (tree.more_definitions (tree.Define q n ps w (tree.Plain e)) ds) zero all =
    let same : i ≡ i + 0 = omega arith in
    ap (λ t. if t then definition_kind at [] w (tree.Plain e) else local_from at (i + 0) (suc i + 0) ds) (eq-eqb i (i + 0) same)
nth_kind at i (tree.more_definitions (tree.Define q n ps w (tree.Plain e)) ds) (suc k) all =
    let other : i ≡ i + suc k → ⊥ = omega arith in
    let number : i + suc k ≡ suc i + k = omega arith in
    let next : suc i + 0 ≡ suc i = omega arith in
    ap (λ t. if t then definition_kind at [] w (tree.Plain e) else local_from at (i + suc k) (suc i + 0) ds) (ne_eqb i (i + suc k) other)
    ∙ ap (λ j. local_from at j (suc i + 0) ds) number
    ∙ ap (λ j. local_from at (suc i + k) j ds) next
    ∙ nth_kind at (suc i) ds k all
nth_kind at i (tree.more_definitions (tree.Define q n ps w (tree.Block es e)) ds) k all = absurd all

-- the node of a definition in a block
abbrev pub plain_node : ℕ → Scope → tree.Definition → Option Node
plain_node i scope (tree.Define q n ps w (tree.Plain e)) = Some (record { item = i; place = q; is_written = is_some w; body = Some (record { scope = scope; expr = e }) })
plain_node i scope (tree.Define q n ps w (tree.Block es e)) = None

pub nth_node : (i j : ℕ) (scope : Scope) (ds : tree.Definitions) (k : ℕ) → ArePlain ds → slice_get (block_nodes i j scope ds) k ≡ option_and_then (plain_node i scope) (nth k ds)
nth_node i j scope tree.no_definitions k all = refl
nth_node i j scope (tree.more_definitions (tree.Define q n ps w (tree.Plain e)) ds) zero all = refl
nth_node i j scope (tree.more_definitions (tree.Define q n ps w (tree.Plain e)) ds) (suc k) all = nth_node i (suc j + 0) scope ds k all
nth_node i j scope (tree.more_definitions (tree.Define q n ps w (tree.Block es e)) ds) k all = absurd all
