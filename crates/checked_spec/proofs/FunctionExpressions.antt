-- The tree of each expression in a value function is of the type of the expression.
use Rattle.std.proofs.Common.{◌≡◌, ℕ, suc, ◌==◌, Bool, true, false, not, List, [], ◌∷◌, ◌++◌, length, Option, Some, None, refl, sym, subst, ◌∙◌, arith}
use Rattle.std.specs.Prelude.{Ok, Err, if◌then◌else◌, slice_get, slice_index_or}
use Rattle.std.specs.List.{Contains}
use Rattle.std.specs.Option.{option_map, option_and_then}
use Rattle.std.proofs.lemmas.Bool.{not-false, eqb-true}
use Rattle.std.proofs.lemmas.Option.{same_Some, none-some}
use Rattle.std.proofs.lemmas.List.Elements.{Contains-append_left, Contains-append_right}
use Rattle.tsl_value.specs.declared.place.Place.{Place}
use Rattle.tsl_value.specs.declared.scalar.ValueType.{ValueType}
use Rattle.lift_func.specs.BodyTree.{BodyTree, Two}
use Rattle.lift_func.specs.Typing.{ValueKind, literal, absent}
use Rattle.syntax_tree.specs.Tree as tree
use Rattle.syntax_tree.specs.Tree.{Expr, Exprs, no_exprs, more_exprs, Links, no_links, more_links}
use Rattle.syntax_tree.specs.declared.tree.Level.{Level}
use Rattle.name_check.specs.declared.declaration.Declaration.{Declaration}
use Rattle.name_check.specs.declared.declaration.Declaration.TheVariants as declaration
use Rattle.name_check.specs.Builtin.{is_unit, is_lift}
use Rattle.name_check.specs.Parts.{Part, Operand, parts, argument_parts, lift_parts, link_parts}
use Rattle.name_check.specs.Scope.{Scope, top, inside, meaning}
use Rattle.type_rules.specs.declared.rule.ExprType.{ExprType}
use Rattle.type_rules.specs.declared.rule.ExprType.TheVariants as expr_type
use Rattle.type_rules.specs.declared.rule.Setting.{Setting}
use Rattle.type_rules.specs.declared.rule.Setting.TheVariants as setting
use Rattle.type_rules.specs.declared.rule.Builtin.{Builtin}
use Rattle.type_rules.specs.Asked.{Verdict, unit, int, bool, text}
use Rattle.type_rules.specs.Rules.{link_rule, compare_rule, negate_rule, not_rule, if_rule, dotted_rule, const_rule, builtin_rule, function_rule, lift_rule}
use Rattle.type_rules.specs.Written.{value_of, aggregate_of}
use Rattle.form_check.specs.Arity.{count, call_fits, params_at, item_params, declared_takes, takes_one, takes_two, is_wrong_lift}
use Rattle.expr_types.specs.Around.{Around, Callee, declared_type, callee_at}
use Rattle.type_rules.specs.Kinds.{Kinds}
use Rattle.syntax_tree.specs.Tree.{params_of}
use Rattle.expr_types.specs.Judge.{of_verdict, is_just, is_literal, is_const, builtin_of, call_rule, last_of, lifted_by, const_call, own_call, named_call, next_link, continued, judge_links, type_of, types_of, streams_of}
use Rattle.spec_meaning.specs.Function.{operation_of, no_tree, absent as absent_tree, named_tree, call_tree, tree_of, trees_of, chain_tree}
use Rattle.checked_spec.specs.inner.Formed.{AreOfLevel, IsFormed}
use Rattle.checked_spec.specs.inner.Functions.{HasType, HaveTypes, callee}
use Rattle.checked_spec.proofs.FunctionAsks.{same_Ok}
use Rattle.checked_spec.proofs.FunctionRead.{verdict_is, just_is, one_part, two_parts, three_parts, arguments_are, cons_is, types_count}
use Rattle.checked_spec.proofs.FunctionFitting.{Fits, FitAll, stream_fits, negate_fits, not_fits, link_fits, compare_fits, if_fits, dotted_fits}
use Rattle.checked_spec.proofs.Callees.{takes_as_many, takes_values, function_called, fits_type, have_types}
use Rattle.checked_spec.proofs.FunctionScopes.{IsNamed, stands_for_nothing}
use Rattle.checked_spec.proofs.FunctionWords.{TakesItsOwn, takes_its_own, own_name, own_fits, const_fits, lift_fits}

-- ---- chains
pub record IsNext (at : Setting) (l : Level) (t : ExprType) (x : Option ExprType) (rest : ExprType → Option Verdict) (u : ExprType) : Type 0 where
  pub b : ExprType
  pub w : ExprType
  pub is : x ≡ Some b
  pub allows : link_rule at l t b ≡ Ok w
  pub more : rest w ≡ Some (Ok u)

pub next_is : (at : Setting) (l : Level) (t : ExprType) (x : Option ExprType) (rest : ExprType → Option Verdict) (u : ExprType) → next_link at l t x rest ≡ Some (Ok u) → IsNext at l t x rest u
next_is at l t None rest u h = absurd (none-some (Ok u) h)
next_is at l t (Some b) rest u h = by (link_rule at l t b) refl h
  where
    by : (v : Verdict) → link_rule at l t b ≡ v → continued v rest ≡ Some (Ok u) → IsNext at l t (Some b) rest u
    by (Ok w) is h = record { b = b; w = w; is = refl; allows = is; more = h }
    by (Err clash) is h = (cc)

-- the first operand of a chain, and the rest
pub record IsChain (at : Around) (l : Level) (e : Expr) (ls : Links) (u : ExprType) : Type 0 where
  pub a : ExprType
  pub is : type_of at e ≡ Some a
  pub rest : judge_links at l a ls ≡ Some (Ok u)

pub chain_is : (at : Around) (p : Place) (l : Level) (e : Expr) (ls : Links) (u : ExprType) → type_of at (tree.Chain p l e ls) ≡ Some u → IsChain at l e ls u
chain_is at p l e ls u h = by (type_of at e) refl (verdict_is (option_and_then (λ t. judge_links at l t ls) (type_of at e)) u h)
  where
    by : (x : Option ExprType) → type_of at e ≡ x → option_and_then (λ t. judge_links at l t ls) x ≡ Some (Ok u) → IsChain at l e ls u
    by (Some a) is h = record { a = a; is = is; rest = h }
    by None is h = absurd (none-some (Ok u) h)

-- ---- a call of a declared name has as many arguments as its item has parameters
pub params_counted : (item : Option tree.Item) → item_params item ≡ length (params_of item)
params_counted (Some (tree.Defined p (tree.Define q n ps w b))) = refl
params_counted (Some (tree.Input p q n y)) = refl
params_counted (Some (tree.Output p q n)) = refl
params_counted (Some (tree.OutputAs p e q n)) = refl
params_counted None = refl

fitting_count : (items : List tree.Item) (scope : Scope) (n : List ℕ) (es : Exprs) (d : Option Declaration) → is_lift n ≡ false → TakesItsOwn n → meaning scope n ≡ d → not (call_fits (declared_takes items d) (count es)) ≡ (if is_lift n then is_wrong_lift items scope es else not (call_fits (if is_unit n then None else if takes_one n then Some 1 else if takes_two n then Some 2 else declared_takes items (meaning scope n)) (count es)))
fitting_count items scope n es d plain own is =
    sym
    (λ k.
    if plain k then is_wrong_lift items scope es
    else not (call_fits (if own.no_unit k then None else if own.takes_none k then Some 1 else if own.takes_neither k then Some 2 else declared_takes items (is k)) (count es)))

module _ (items : List tree.Item) (kinds : Kinds) (number : ℕ) (ps : List tree.Param) where
  -- where the expression stands
  abbrev pub here : Around
  here = record { items = items; kinds = kinds; scope = inside (top items) ps; setting = setting.Values; number = number; params = ps }

  module _ (ks : List ValueKind) (args : List BodyTree) (call : ℕ → List BodyTree → BodyTree) (root : Expr) where
    -- its parameters and the functions that it calls have trees of their types
    pub record IsKnown : Type 0 where
      pub formed : (part : Expr) → Contains (parts root) (Operand part) → IsFormed items here.scope part
      pub named : (n : List ℕ) (d : Declaration) → meaning here.scope n ≡ Some d → IsNamed items n d
      pub params : (k : ℕ) (u : ExprType) → declared_type here (declaration.Parameter k) ≡ Some u → Fits ks (slice_index_or args k no_tree) u
      pub calls : (p : Place) (n : List ℕ) (es : Exprs) (j : ℕ) → Contains (parts root) (Operand (tree.Call p n es)) → meaning here.scope n ≡ Some (declaration.Function j) → (c : Callee) (ts : List BodyTree) → callee items kinds j ≡ Some c → HaveTypes ks ts c.params → HasType ks (call j ts) c.result

    abbrev pub tree_in : Expr → BodyTree
    tree_in e = tree_of here.scope args call e

    abbrev pub trees_in : Exprs → List BodyTree
    trees_in es = trees_of here.scope args call es

    abbrev Within : List Part → Type 0
    Within xs = (part : Part) → Contains xs part → Contains (parts root) part

    first : (x : Part) (xs : List Part) → Within (x ∷ xs) → Contains (parts root) x
    first x xs w = w x (0, omega arith, refl)

    after : (x : Part) (xs : List Part) → Within (x ∷ xs) → Within xs
    after x xs w part (k, lt, is) = w part (suc k, omega arith, is)

    left : (xs ys : List Part) → Within (xs ++ ys) → Within xs
    left xs ys w part c = w part (Contains-append_left xs ys part c)

    right : (xs ys : List Part) → Within (xs ++ ys) → Within ys
    right xs ys w part c = w part (Contains-append_right xs ys part c)

    in_arguments : (n : List ℕ) (es : Exprs) → is_lift n ≡ false → Within (if is_lift n then lift_parts es else argument_parts es) → Within (argument_parts es)
    in_arguments n es plain w = subst (λ b. Within (if b then lift_parts es else argument_parts es)) plain w

    module _ (known : IsKnown) where
      -- ---- names
      name_fits : (p : Place) (n : List ℕ) (u : ExprType) → type_of here (tree.Name p n) ≡ Some u → Fits ks (tree_in (tree.Name p n)) u
      name_fits p n u h = by (is_unit n) (meaning here.scope n) refl h
        where
          by : (b : Bool) (o : Option Declaration) → meaning here.scope n ≡ o → of_verdict (if b then Some (Ok (expr_type.Stream unit)) else is_just (option_and_then (declared_type here) o)) ≡ Some u → Fits ks (named_tree here.scope args call o) u
          by true o is h = stream_fits ks (named_tree here.scope args call o) u unit (sym (same_Some (expr_type.Stream unit) u h))
          by false None is h = absurd (none-some u h)
          by false (Some (declaration.Parameter k)) is h = known.params k u (just_is (declared_type here (declaration.Parameter k)) u h)
          by false (Some (declaration.Function j)) is h = absurd (none-some u h)
          by false (Some d) is h = absurd ((known.named n d is).seen)

      -- ---- calls of value functions
      record IsJudged (j : ℕ) (us : List ExprType) (u : ExprType) : Type 0 where
        of : Callee
        is : callee items kinds j ≡ Some of
        allows : function_rule setting.Values of.params of.result us ≡ Ok u

      judged : (j : ℕ) (us : List ExprType) (u : ExprType) → of_verdict (option_map (λ c. function_rule setting.Values c.params c.result us) (callee_at here j)) ≡ Some u → IsJudged j us u
      judged j us u h = by (callee_at here j) refl h
        where
          by : (o : Option Callee) → callee_at here j ≡ o → of_verdict (option_map (λ c. function_rule setting.Values c.params c.result us) o) ≡ Some u → IsJudged j us u
          by (Some c) is h = record { of = c; is = is; allows = same_Some (function_rule setting.Values c.params c.result us) (Ok u) (verdict_is (Some (function_rule setting.Values c.params c.result us)) u h) }
          by None is h = absurd (none-some u h)

      -- as many arguments as parameters
      as_many : (p : Place) (n : List ℕ) (es : Exprs) (j : ℕ) → Contains (parts root) (Operand (tree.Call p n es)) → is_lift n ≡ false → meaning here.scope n ≡ Some (declaration.Function j) → count es ≡ length (params_of (slice_get items j))
      as_many p n es j there plain is =
          let own = takes_its_own n (known.named n (declaration.Function j) is).new in
          let fits = fitting_count items here.scope n es (Some (declaration.Function j)) plain own is ∙ (known.formed (tree.Call p n es) there).fits in
          sym (eqb-true (params_at items j) (count es) (not-false (params_at items j == count es) fits)) ∙ params_counted (slice_get items j)

      function_fits : (p : Place) (n : List ℕ) (es : Exprs) (j : ℕ) (us : List ExprType) (u : ExprType) → Contains (parts root) (Operand (tree.Call p n es)) → is_lift n ≡ false → meaning here.scope n ≡ Some (declaration.Function j) → types_of here es ≡ Some us → FitAll ks (trees_in es) us → of_verdict (option_map (λ c. function_rule setting.Values c.params c.result us) (callee_at here j)) ≡ Some u → Fits ks (call j (trees_in es)) u
      function_fits p n es j us u there plain is types fit h =
          let f = judged j us u h in
          let long = types_count here es us types ∙ as_many p n es j there plain is ∙ takes_as_many items kinds j f.of f.is in
          let c = function_called f.of.params f.of.result us u long f.allows in
          let values = takes_values items kinds j f.of (known.named n (declaration.Function j) is).seen f.is in
          let have = have_types ks (trees_in es) f.of.params values (subst (FitAll ks (trees_in es)) c.takes fit) in
          subst (Fits ks (call j (trees_in es))) c.gives (fits_type ks (call j (trees_in es)) f.of.result (known.calls p n es j there is f.of (trees_in es) f.is have))

      -- ---- calls of the language's own names
      constant_fits : (t : BodyTree) (es : Exprs) (o : Option (List ExprType)) (u : ExprType) → of_verdict (const_call es o) ≡ Some u → Fits ks t u
      constant_fits t no_exprs o u h = absurd (none-some u h)
      constant_fits t (more_exprs v es) (Some (a ∷ b ∷ [])) u h =
          const_fits ks t (is_literal v) a b u (same_Some (const_rule (is_literal v) a b) (Ok u) (verdict_is (Some (const_rule (is_literal v) a b)) u h))
      constant_fits t (more_exprs v es) o u h = absurd (none-some u h)

      lifted_fits : (t : BodyTree) (x : Option (List ExprType)) (y : Option Callee) (u : ExprType) → of_verdict (lifted_by x y) ≡ Some u → Fits ks t u
      lifted_fits t (Some streams) (Some f) u h =
          let rule = lift_rule streams f.params f.result in
          lift_fits ks t streams f.params f.result u (same_Some rule (Ok u) (verdict_is (Some rule) u h))
      lifted_fits t (Some streams) None u h = absurd (none-some u h)
      lifted_fits t None y u h = absurd (none-some u h)

      -- ---- calls of names
      module _ (p : Place) (n : List ℕ) (es : Exprs) (u : ExprType) where
        abbrev Called : Type 0
        Called = Fits ks (tree_in (tree.Call p n es)) u

        declared_fits : (there : Contains (parts root) (Operand (tree.Call p n es))) → is_lift n ≡ false → ((us : List ExprType) → types_of here es ≡ Some us → FitAll ks (trees_in es) us) → (o : Option (List ExprType)) (d : Option Declaration) → types_of here es ≡ o → meaning here.scope n ≡ d → of_verdict (option_and_then (λ ts. option_and_then (λ d. call_rule here d ts) d) o) ≡ Some u → Fits ks (call_tree here.scope args call d n (trees_in es)) u
        declared_fits there plain fit None d types is h = absurd (none-some u h)
        declared_fits there plain fit (Some us) None types is h = absurd (none-some u h)
        declared_fits there plain fit (Some us) (Some (declaration.Function j)) types is h = function_fits p n es j us u there plain is types (fit us types) h
        declared_fits there plain fit (Some us) (Some (declaration.Parameter k)) types is h = absurd (none-some u h)
        declared_fits there plain fit (Some us) (Some d) types is h = absurd ((known.named n d is).seen)

        own_or_declared : (there : Contains (parts root) (Operand (tree.Call p n es))) → is_lift n ≡ false → ((us : List ExprType) → types_of here es ≡ Some us → FitAll ks (trees_in es) us) → (o : Option Builtin) → builtin_of n ≡ o → of_verdict (own_call o here n (types_of here es)) ≡ Some u → Called
        own_or_declared there plain fit (Some o) is h =
            let own = own_name n o is in
            let a = arguments_are (builtin_rule o) (types_of here es) u h in
            let nothing = stands_for_nothing items (meaning here.scope n) n own.built_in (known.named n) in
            subst (λ d. Fits ks (call_tree here.scope args call d n (trees_in es)) u) (sym nothing)
            (own_fits ks here.scope args call o n (trees_in es) a.args u own (fit a.args a.are) a.allows)
        own_or_declared there plain fit None is h = declared_fits there plain fit (types_of here es) (meaning here.scope n) refl refl h

        call_fit : (there : Contains (parts root) (Operand (tree.Call p n es))) → (is_lift n ≡ false → (us : List ExprType) → types_of here es ≡ Some us → FitAll ks (trees_in es) us) → type_of here (tree.Call p n es) ≡ Some u → Called
        call_fit there fit h = by (is_lift n) refl h
          where
            plain_name : (b : Bool) → is_lift n ≡ false → of_verdict (if b then const_call es (types_of here es) else own_call (builtin_of n) here n (types_of here es)) ≡ Some u → Called
            plain_name true plain h = constant_fits (tree_in (tree.Call p n es)) es (types_of here es) u h
            plain_name false plain h = own_or_declared there plain (fit plain) (builtin_of n) refl h

            by : (b : Bool) → is_lift n ≡ b → of_verdict (if b then lifted_by (streams_of here es) (last_of here es) else named_call here n es (types_of here es)) ≡ Some u → Called
            by true is h = lifted_fits (tree_in (tree.Call p n es)) (streams_of here es) (last_of here es) u h
            by false is h = plain_name (is_const n) is h

      -- ---- what has no parts
      just_fits : (t : BodyTree) (v : ValueType) (u : ExprType) → Some (expr_type.Value v) ≡ Some u → Fits ks t (expr_type.Value v) → Fits ks t u
      just_fits t v u h f = subst (Fits ks t) (same_Some (expr_type.Value v) u h) f

      none_fits : (o : Option ValueType) (u : ExprType) → of_verdict (is_just (option_map expr_type.Optional o)) ≡ Some u → Fits ks (absent_tree o) u
      none_fits (Some v) u h = subst (Fits ks (absent_tree (Some v))) (same_Some (expr_type.Optional v) u h) absent
      none_fits None u h = absurd (none-some u h)

      nil_fits : (t : BodyTree) (o : Option ValueType) (u : ExprType) → of_verdict (is_just (option_map expr_type.Stream o)) ≡ Some u → Fits ks t u
      nil_fits t (Some v) u h = stream_fits ks t u v (sym (same_Some (expr_type.Stream v) u h))
      nil_fits t None u h = absurd (none-some u h)

      -- ---- all expressions
      mutual
        pub expr_fits : (e : Expr) → Within (parts e) → (u : ExprType) → type_of here e ≡ Some u → Fits ks (tree_in e) u
        expr_fits (tree.If p c a b) w u h =
            let inner = after (Operand (tree.If p c a b)) (parts c ++ parts a ++ parts b) w in
            let front = left (parts c ++ parts a) (parts b) inner in
            let r = three_parts (if_rule setting.Values) (type_of here c) (type_of here a) (type_of here b) u h in
            if_fits ks (tree_in c) (tree_in a) (tree_in b) r.a r.b r.c u
            (expr_fits c (left (parts c) (parts a) front) r.a r.first)
            (expr_fits a (right (parts c) (parts a) front) r.b r.second)
            (expr_fits b (right (parts c ++ parts a) (parts b) inner) r.c r.third)
            r.allows
        expr_fits (tree.Chain p l e ls) w u h =
            let inner = after (Operand (tree.Chain p l e ls)) (parts e ++ link_parts ls) w in
            let level = (known.formed (tree.Chain p l e ls) (first (Operand (tree.Chain p l e ls)) (parts e ++ link_parts ls) w)).operators in
            let c = chain_is here p l e ls u h in
            links_fit ls l (right (parts e) (link_parts ls) inner) level (tree_in e) c.a u (expr_fits e (left (parts e) (link_parts ls) inner) c.a c.is) c.rest
        expr_fits (tree.Compare p o a b) w u h =
            let inner = after (Operand (tree.Compare p o a b)) (parts a ++ parts b) w in
            let r = two_parts (compare_rule setting.Values o) (type_of here a) (type_of here b) u h in
            compare_fits ks o (tree_in a) (tree_in b) r.a r.b u
            (expr_fits a (left (parts a) (parts b) inner) r.a r.first)
            (expr_fits b (right (parts a) (parts b) inner) r.b r.second)
            r.allows
        expr_fits (tree.Negate p e) w u h =
            let r = one_part (negate_rule setting.Values) (type_of here e) u h in
            negate_fits ks (tree_in e) r.a u (expr_fits e (after (Operand (tree.Negate p e)) (parts e) w) r.a r.is) r.allows
        expr_fits (tree.Not p e) w u h =
            let r = one_part (not_rule setting.Values) (type_of here e) u h in
            not_fits ks (tree_in e) r.a u (expr_fits e (after (Operand (tree.Not p e)) (parts e) w) r.a r.is) r.allows
        expr_fits (tree.Number p n) w u h = just_fits (tree_in (tree.Number p n)) int u h (literal refl)
        expr_fits (tree.Negative p n) w u h = just_fits (tree_in (tree.Negative p n)) int u h (literal refl)
        expr_fits (tree.Text p t) w u h = just_fits (tree_in (tree.Text p t)) text u h (literal refl)
        expr_fits (tree.Boolean p b) w u h = just_fits (tree_in (tree.Boolean p b)) bool u h (literal refl)
        expr_fits (tree.Unit p) w u h = just_fits (tree_in (tree.Unit p)) unit u h (literal refl)
        expr_fits (tree.Name p n) w u h = name_fits p n u h
        expr_fits (tree.Call p n es) w u h =
            let rest = if is_lift n then lift_parts es else argument_parts es in
            call_fit p n es u (first (Operand (tree.Call p n es)) rest w)
            (λ plain us is. trees_fit es (in_arguments n es plain (after (Operand (tree.Call p n es)) rest w)) us is) h
        expr_fits (tree.CallDotted p d es) w u h =
            let r = arguments_are (dotted_rule setting.Values d) (types_of here es) u h in
            dotted_fits ks d (trees_in es) r.args u (trees_fit es (after (Operand (tree.CallDotted p d es)) (argument_parts es) w) r.args r.are) r.allows
        expr_fits (tree.Nil p y) w u h = nil_fits no_tree (value_of y) u h
        expr_fits (tree.None p y) w u h = none_fits (value_of y) u h
        expr_fits (tree.Empty p a) w u h = nil_fits no_tree (aggregate_of a) u h

        trees_fit : (es : Exprs) → Within (argument_parts es) → (us : List ExprType) → types_of here es ≡ Some us → FitAll ks (trees_in es) us
        trees_fit no_exprs w us h = subst (FitAll ks []) (same_Some [] us h) tt
        trees_fit (more_exprs e es) w us h =
            let c = cons_is (type_of here e) (types_of here es) us h in
            subst (FitAll ks (tree_in e ∷ trees_in es)) (sym c.are)
            (expr_fits e (left (parts e) (argument_parts es) w) c.a c.first, trees_fit es (right (parts e) (argument_parts es) w) c.rest c.more)

        links_fit : (ls : Links) (l : Level) → Within (link_parts ls) → AreOfLevel l ls → (t : BodyTree) (a u : ExprType) → Fits ks t a → judge_links here l a ls ≡ Some (Ok u) → Fits ks (chain_tree here.scope args call t ls) u
        links_fit no_links l w level t a u f h = subst (Fits ks t) (same_Ok a u (same_Some (Ok a) (Ok u) h)) f
        links_fit (more_links o e ls) l w level t a u f h =
            let n = next_is setting.Values l a (type_of here e) (λ v. judge_links here l v ls) u h in
            let g = expr_fits e (left (parts e) (link_parts ls) w) n.b n.is in
            links_fit ls l (right (parts e) (link_parts ls) w) level.1 (Two (operation_of o) t (tree_in e)) n.w u (link_fits ks o l t (tree_in e) a n.b n.w level.0 f g n.allows) n.more
