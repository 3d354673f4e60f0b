-- What holds of the code at a place of a specification.
use Rattle.std.proofs.Common.{◌≡◌, ℕ, false, List, [], Option, Some, None, refl, ap, sym, subst, ◌∙◌}
use Rattle.std.specs.Prelude.{Ok, Err, if◌then◌else◌, slice_get}
use Rattle.std.specs.List.{Contains}
use Rattle.std.specs.Option.{option_and_then}
use Rattle.std.proofs.lemmas.List.{append-nil}
use Rattle.std.proofs.lemmas.Option.{same_Some, none-some}
use Rattle.tsl_value.specs.declared.place.Place.{Place}
use Rattle.tsl_value.specs.declared.scalar.ValueType.{ValueType}
use Rattle.flat_core.specs.System.{System}
use Rattle.flat_core.proofs.Members.{contains_head}
use Rattle.syntax_tree.specs.Tree as tree
use Rattle.syntax_tree.specs.Tree.{Expr}
use Rattle.name_check.specs.declared.declaration.Declaration.{Declaration}
use Rattle.name_check.specs.Builtin.{is_unit}
use Rattle.name_check.specs.Parts.{Operand, parts}
use Rattle.name_check.specs.Scope.{Agree, Scope, meaning, seen}
use Rattle.type_rules.specs.declared.rule.ExprType.{ExprType}
use Rattle.type_rules.specs.declared.rule.ExprType.TheVariants as expr_type
use Rattle.type_rules.specs.Asked.{inner, unit}
use Rattle.expr_types.specs.declared.stop.Stop.{Stop}
use Rattle.expr_types.specs.declared.stop.Stop.TheVariants as stop
use Rattle.expr_types.specs.declared.wrong.Wrong.{Wrong}
use Rattle.expr_types.specs.inner.Answers.{IsFound}
use Rattle.expr_types.specs.Around.{Around, declared_type}
use Rattle.expr_types.specs.Judge.{is_just, of_verdict, type_of}
use Rattle.expr_types.specs.inner.Shown.{around_of}
use Rattle.expr_types.proofs.AlikeLemmas.{names_alike, type_alike}
use Rattle.stream_constructs.specs.declared.construct.Stream.{Stream}
use Rattle.spec_meaning.specs.Makes as makes
use Rattle.spec_meaning.specs.Makes.{Stands}
use Rattle.checked_spec.specs.inner.Checked.{IsChecked}
use Rattle.checked_spec.specs.inner.Formed.{IsDeclared}
use Rattle.checked_spec.specs.inner.Inner.{StandsIn}
use Rattle.checked_spec.specs.inner.Matches.{IsTypedAt}
use Rattle.checked_spec.proofs.Inside.{name_typed}
use Rattle.checked_spec.proofs.Scopes.{meaning_declared}
use Rattle.checked_spec.specs.inner.Functions.{AreTypedFunctions}
use Rattle.checked_spec.proofs.WholeFunctions.{functions_are_typed}
use Rattle.equation_marks.proofs.CallMarks.{name_has_none}
use Rattle.macro_flatten.specs.declared.context.Context.{Context}
use Rattle.macro_flatten.specs.declared.context.Here.{Here}
use Rattle.macro_flatten.specs.inner.Answers.{CanMake, CanName, IsMadeAt, IsNamed, IsTypeOf, marks_called}
use Rattle.macro_flatten.specs.inner.Here.{IsHere, MayMakeAt, Site, stream_at}

-- ---- expressions that may be made
-- an expression stands in itself
pub itself_in : (e : Expr) → Contains (parts e) (Operand e)
itself_in (tree.If p c a b) = contains_head _ _
itself_in (tree.Chain p l e ls) = contains_head _ _
itself_in (tree.Compare p o a b) = contains_head _ _
itself_in (tree.Negate p e) = contains_head _ _
itself_in (tree.Not p e) = contains_head _ _
itself_in (tree.Number p n) = contains_head _ []
itself_in (tree.Negative p n) = contains_head _ []
itself_in (tree.Text p x) = contains_head _ []
itself_in (tree.Boolean p b) = contains_head _ []
itself_in (tree.Unit p) = contains_head _ []
itself_in (tree.Name p x) = contains_head _ []
itself_in (tree.Call p x es) = contains_head _ _
itself_in (tree.CallDotted p d es) = contains_head _ _
itself_in (tree.Nil p y) = contains_head _ []
itself_in (tree.None p y) = contains_head _ []
itself_in (tree.Empty p a) = contains_head _ []

-- ---- the types there
same_types : (at : Around) (scope : Scope) → Agree at.scope scope → (e : Expr) → type_of at e ≡ type_of (record at { scope = scope }) e
same_types at scope same e =
    type_alike at (record at { scope = scope }) e (names_alike at (record at { scope = scope }) e refl (λ n. record { stands = same.at n; types = λ d is. refl; calls = λ d is. refl }))

module _ (context : Context) (here : Here) (site : Site) where
  pub types_here : IsHere context here site → (e : Expr) → type_of (around_of here.around) e ≡ type_of site.at e
  types_here h e = same_types (around_of here.around) site.at.scope h.agrees e ∙ ap (λ at. type_of at e) h.around_is

module _ (site : Site) (deep : ℕ) (e : Expr) where
  -- it is a stream there
  pub typed_at : IsChecked site.items site.kinds → (may : MayMakeAt site deep e) → IsTypedAt site.items site.top site.at site.st e may.of.0
  typed_at checked may = record {
    matches = may.matches;
    functions = subst (AreTypedFunctions site.items) (sym may.kinds_are) (functions_are_typed site.items site.kinds checked);
    formed = may.of.1.formed e (itself_in e);
    is = may.of.1.is;
  }

  -- what stands in it and is a stream may be made there
  pub part_may : MayMakeAt site deep e → (f : Expr) (u : ValueType) → StandsIn (parts e) f → type_of site.at f ≡ Some (expr_type.Stream u) → MayMakeAt site deep f
  part_may may f u inside is = record {
    kinds_are = may.kinds_are;
    matches = may.matches;
    nests = may.nests;
    stands = λ part h. may.stands part (inside part h);
    of = (
      u,
      record {
        formed = λ part h. may.of.1.formed part (inside (Operand part) h);
        known = λ part h. may.of.1.known part (inside part h);
        is = is;
      },
    );
  }

-- ---- the type of its events
module _ (context : Context) (here : Here) (e : Expr) (ws : List Wrong) where
  none_untyped : CanMake context here e → IsFound ws (type_of (around_of here.around) e) (Ok None) → ⊥
  none_untyped can found = none-some (expr_type.Stream can.may.of.0) (found.1 ∙ types_here context here can.site can.is_here e ∙ can.may.of.1.is)

  pub never_nothing : CanMake context here e → (o : Option ExprType) → o ≡ None → IsFound ws (type_of (around_of here.around) e) (Ok o) → ⊥
  never_nothing can o none found = none_untyped can (subst (λ (x : Option ExprType). IsFound ws (type_of (around_of here.around) e) (Ok x)) none found)

  pub never_wrong : CanMake context here e → (s : Stop) (w : Wrong) → s ≡ stop.Wrong w → IsFound ws (type_of (around_of here.around) e) (Err s) → ⊥
  never_wrong can s w is found =
      let found_wrong = subst (λ (x : Stop). IsFound ws (type_of (around_of here.around) e) (Err x)) is found in
      none-some (expr_type.Stream can.may.of.0) (sym found_wrong.1 ∙ types_here context here can.site can.is_here e ∙ can.may.of.1.is)

  pub type_found : (o : Option ExprType) (t : ExprType) (of : ValueType) → o ≡ Some t → of ≡ inner t → IsFound ws (type_of (around_of here.around) e) (Ok o) → IsTypeOf context here e of
  type_found o t of is of_is found = record {
    at = λ site h may.
        let there : Some t ≡ Some (expr_type.Stream may.of.0) = sym is ∙ found.1 ∙ types_here context here site h e ∙ may.of.1.is in
        may.of.1.is ∙ ap (λ v. Some (expr_type.Stream v)) (sym (of_is ∙ ap inner (same_Some t (expr_type.Stream may.of.0) there)));
  }

-- ---- names
-- a name that is typed as a stream is declared as one
record IsDeclaredStream (at : Around) (x : List ℕ) (t : ValueType) : Type 0 where
  declaration : Declaration
  is : meaning at.scope x ≡ Some declaration
  typed : declared_type at declaration ≡ Some (expr_type.Stream t)

declared_stream : (at : Around) (x : List ℕ) (t : ValueType) (o : Option Declaration) → meaning at.scope x ≡ o → of_verdict (is_just (option_and_then (declared_type at) o)) ≡ Some (expr_type.Stream t) → IsDeclaredStream at x t
declared_stream at x t (Some d) is h = record { declaration = d; is = is; typed = sym (just (declared_type at d)) ∙ h }
  where
    just : (o : Option ExprType) → of_verdict (is_just o) ≡ o
    just (Some u) = refl
    just None = refl
declared_stream at x t None is h = absurd (none-some (expr_type.Stream t) h)

name_declared : (at : Around) (p : Place) (x : List ℕ) (t : ValueType) → is_unit x ≡ false → type_of at (tree.Name p x) ≡ Some (expr_type.Stream t) → IsDeclaredStream at x t
name_declared at p x t other h =
    declared_stream at x t (meaning at.scope x) refl
    ((λ i. of_verdict (if sym other i then Some (Ok (expr_type.Stream unit)) else is_just (option_and_then (declared_type at) (meaning at.scope x)))) ∙ h)

module _ (context : Context) (here : Here) (site : Site) (h : IsHere context here site) where
  -- the code finds it
  pub stands_found : (d : Declaration) (s : Stream) → IsDeclared site.items d → Stands site.items site.top site.st d s → stream_at context here (Some d) ≡ Some s
  stands_found d s right (makes.Stands.input {i}) = ap (option_and_then (λ (a : Option Stream). a)) (h.known.inputs i right)
  stands_found d s right (makes.Stands.stream {i}) = ap (option_and_then (λ (a : Option Stream). a)) (h.known.definitions i right)
  stands_found d s right (makes.Stands.parameter {k} is) = ap (λ params. slice_get params k) h.params_are ∙ is
  stands_found d s right (makes.Stands.local {k} is) = ap (λ locals. slice_get locals k) h.locals_are ∙ is

  pub record NamesStream (p : Place) (x : List ℕ) : Type 0 where
    pub stream : Stream
    pub found : stream_at context here (meaning (seen here.around.scope.now) x) ≡ Some stream
    pub made : (deep : ℕ) (system : System) → IsMadeAt site deep (tree.Name p x) system system stream

  pub names_stream : (deep : ℕ) (p : Place) (x : List ℕ) → is_unit x ≡ false → MayMakeAt site deep (tree.Name p x) → NamesStream p x
  names_stream deep p x other may =
      let d = name_declared site.at p x may.of.0 other may.of.1.is in
      let has = h.have_streams x d.declaration may.of.0 d.is d.typed in
      let there = ap (λ scope. meaning scope x) (sym may.matches.scope_is) ∙ d.is in
      record {
        stream = has.stream;
        found = ap (stream_at context here) (h.agrees.at x ∙ d.is) ∙ stands_found d.declaration has.stream (meaning_declared site.items site.st.calls x d.declaration there) has.stands;
        made = λ deep system. record {
          made = [];
          new_is = ap (λ es. record system { equations = es }) (sym (append-nil system.equations));
          makes = makes.Makes.name d.declaration other there has.stands;
          marks_are = sym (name_has_none site.at (marks_called site deep) p x other);
          of_is = name_typed site.items site.top site.at site.st p x d.declaration has.stream may.matches other d.is has.stands;
        };
      }

-- the stream that the code finds, and none that it does not
pub name_there : (context : Context) (here : Here) (x : List ℕ) → CanName context here x → stream_at context here (meaning (seen here.around.scope.now) x) ≡ None → ⊥
name_there context here x can none =
    let n = names_stream context here can.can.site can.can.is_here here.deep can.place x can.other can.can.may in
    none-some n.stream (sym none ∙ n.found)

pub is_named : (context : Context) (here : Here) (x : List ℕ) (s : Stream) → stream_at context here (meaning (seen here.around.scope.now) x) ≡ Some s → IsNamed context here x (Ok s)
is_named context here x s is = record {
  at = λ site p system other h may.
      let n = names_stream context here site h here.deep p x other may in
      subst (IsMadeAt site here.deep (tree.Name p x) system system) (same_Some n.stream s (sym n.found ∙ is)) (n.made here.deep system);
}
