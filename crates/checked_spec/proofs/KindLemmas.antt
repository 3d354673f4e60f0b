-- In a checked specification each declared name is of a type. Where none is written, it is what the body is: by induction along the
-- mentions of definitions without a written type, which have no cycle.
use Rattle.std.proofs.Common.{◌≡◌, ℕ, suc, ◌+◌, ◌<◌, ◌⊎◌, Bool, true, false, List, [], ◌∷◌, length, Option, Some, None, Ok, Err, Contains, refl, sym, ap, subst, ◌∙◌, inl, inr, arith}
use Rattle.std.specs.Prelude.{slice_get}
use Rattle.std.specs.Option.{option_and_then}
use Rattle.std.proofs.lemmas.Bool.{false≢true}
use Rattle.std.proofs.lemmas.Option.{slice_get_within}
use Rattle.tsl_value.specs.declared.place.Place.{Place}
use Rattle.syntax_tree.specs.Tree as tree
use Rattle.syntax_tree.specs.Tree.{Expr, TypeName}
use Rattle.name_check.specs.declared.declaration.Declaration.{Declaration}
use Rattle.name_check.specs.declared.declaration.Declaration.TheVariants as declaration
use Rattle.name_check.specs.Scope.{Scope, top, inside, in_block, are_values}
use Rattle.name_check.specs.Parts.{Part, parts}
use Rattle.form_check.specs.Types.{bad_in_part, bad_in_params, bad_written}
use Rattle.type_rules.specs.declared.rule.ExprType.{ExprType}
use Rattle.type_rules.specs.Asked.{Check}
use Rattle.type_rules.specs.Rules.{body_rule}
use Rattle.type_rules.specs.Written.{as_written, bad_as_written}
use Rattle.expr_types.specs.Around.{Around, param_types, cons, callee_of}
use Rattle.type_rules.specs.Kinds.{Kinds}
use Rattle.syntax_tree.specs.Tree.{params_of}
use Rattle.expr_types.specs.inner.Alike.{known}
use Rattle.expr_types.specs.Judge.{type_of, own_wrong, wrongs}
use Rattle.expr_types.specs.Bodies.{may_have_braces, written_of, fitting, expr_kind, local_from, item_kind, block_kind, asked_of, asked_wrong}
use Rattle.expr_types.specs.inner.BodySteps.{kind_of_local}
use Rattle.definition_cycles.specs.Nodes.{Node, nodes, node_of, first_node}
use Rattle.definition_cycles.specs.Mentions.{MentionsUntyped, declared}
use Rattle.spec_meaning.specs.Occurrence.{body_of, block_of, result_of}
use Rattle.checked_spec.specs.inner.Formed.{is_input, is_stream}
use Rattle.checked_spec.specs.inner.Checked.{IsChecked}
use Rattle.flat_core.proofs.Members.{all_from}
use Rattle.tsl_value.proofs.Lists.{append_empty, contains_at}
use Rattle.checked_spec.proofs.ListLemmas.{flat_empty}
use Rattle.definition_cycles.proofs.Acyclic.{holds}
use Rattle.checked_spec.proofs.WrittenLemmas.{Has, stream_there, written_there}
use Rattle.checked_spec.proofs.Judged.{IsThere, AreThere, IsFine, typed}
use Rattle.checked_spec.proofs.BlockLemmas.{nth, ArePlain, PlainAt, plain_at, nth_kind, plain_node, nth_node}
use Rattle.checked_spec.proofs.ScopeLemmas.{IsSeen, scope_in, mentioned_seen}
use Rattle.checked_spec.proofs.NodeLemmas.{node_at}
use Rattle.checked_spec.proofs.SoundLemmas.{around, IsSound, result_node, nodes_after, types_at, params_written, type_written, block_plain, result_sound, result_kind, local_sound, local_written, local_kind_is}

-- ---- an expression in which nothing is wrong
-- it is of this type, and this is what is asked of it
pub record Fits (at : Around) (w : Option ExprType) (e : Expr) : Type 0 where
  pub of : ExprType
  pub is : type_of at e ≡ Some of
  pub asked : body_rule at.setting w of ≡ Ok tt

pub allowed_body : (e : Expr) (c : Check) → asked_wrong e c ≡ [] → c ≡ Ok tt
allowed_body e (Ok u) h = refl
allowed_body e (Err clash) h = absurd (cc)

pub sound_fits : (at : Around) (w : Option ExprType) (e : Expr) → IsSound at w e → ((p : Part) → Contains (parts e) p → AreThere at (declared at.scope p)) → Fits at w e
sound_fits at w e sound there = record { of = t.it; is = t.is; asked = allowed_body e (body_rule at.setting w t.it) (ap (asked_of at w e) (sym t.is) ∙ both.1) }
  where
    both : (wrongs at e ≡ []) × (asked_of at w e (type_of at e) ≡ [])
    both = append_empty (wrongs at e) (asked_of at w e (type_of at e)) sound.wrongs

    fine : (p : Part) → Contains (parts e) p → IsFine at p
    fine p c = record {
      known = sound.known p c;
      fits = sound.formed p c;
      written = flat_empty bad_in_part (parts e) sound.types p c;
      right = flat_empty (own_wrong at) (parts e) both.0 p c;
      there = there p c;
    }

    t : Has (type_of at e)
    t = typed at e (all_from (IsFine at) (parts e) fine)

-- what it is for whoever mentions it, where no type is written
pub fits_kind : (at : Around) (e : Expr) (of : ExprType) → type_of at e ≡ Some of → body_rule at.setting None of ≡ Ok tt → expr_kind at e ≡ Some of
fits_kind at e of is asked =
    ap (option_and_then (λ t. fitting (body_rule at.setting None t) t)) is ∙ ap (λ c. fitting c of) asked

-- ---- what is written
params_there : (ps : List tree.Param) → bad_in_params ps ≡ [] → Has (param_types ps)
params_there [] h = record { it = []; is = refl }
params_there (p ∷ ps) h =
    let both = append_empty (bad_as_written p.of) (bad_in_params ps) h in
    by (as_written p.of) (param_types ps) (written_there p.of both.0) (params_there ps both.1)
  where
    by : (t : Option ExprType) (ts : Option (List ExprType)) → Has t → Has ts → Has (cons t ts)
    by (Some t) (Some ts) h k = record { it = t ∷ ts; is = refl }
    by None ts h k = absurd (let i = h.is in cc)
    by (Some t) None h k = absurd (let i = k.is in cc)

callee_has : (ps : Option (List ExprType)) (t : Option ExprType) → Has ps → Has t → Has (callee_of ps t)
callee_has (Some ps) (Some t) h k = record { it = _; is = refl }
callee_has None t h k = absurd (let i = h.is in cc)
callee_has (Some ps) None h k = absurd (let i = k.is in cc)

-- what a name stands for is a definition without a written type: its node, and its body
record IsUntyped (items : List tree.Item) (kinds : Kinds) (i : ℕ) (d : Declaration) : Type 0 where
  number : ℕ
  is_number : node_of items i d ≡ Some number
  item : ℕ
  what : Option tree.Item
  there : slice_get items item ≡ what
  expr : Expr
  sound : IsSound (around items kinds item what) None expr
  is_kind : known kinds i d ≡ expr_kind (around items kinds item what) expr
  node : Node
  is_node : slice_get (nodes items) number ≡ Some node
  same_item : node.item ≡ item
  is_body : node.body ≡ Some (record { scope = scope_in items what; expr = expr })
  not_written : node.is_written ≡ false

pub none_written : (ps : List tree.Param) → written_of ps None ≡ None
none_written [] = refl
none_written (p ∷ ps) = refl

pub written_has : (ps : List tree.Param) (y : TypeName) → bad_written ps (Some y) ≡ [] → Has (written_of ps (Some y))
written_has [] y h = stream_there y h
written_has (p ∷ ps) y h = written_there y h

module _ (items : List tree.Item) (kinds : Kinds) (checked : IsChecked items kinds) where
  -- ---- what a name stands for has a written type or none
  view_item : (i : ℕ) (d : Declaration) (j : ℕ) (p q : Place) (n : List ℕ) (ps : List tree.Param) (w : Option TypeName) (b : tree.Body) → slice_get items j ≡ Some (tree.Defined p (tree.Define q n ps w b)) → known kinds i d ≡ kinds.item j → node_of items i d ≡ Some (first_node items j) → Has (kinds.item j) ⊎ IsUntyped items kinds i d
  view_item i d j p q n ps (Some y) b is kind number =
      let h = written_has ps y (type_written items kinds checked j p q n ps (Some y) b is) in
      inl (record { it = h.it; is = checked.are_kinds.items_are j ∙ ap (item_kind items kinds j) is ∙ h.is })
  view_item i d j p q n ps None b is kind number =
      inr (record {
        number = first_node items j;
        is_number = number;
        item = j;
        what = Some (tree.Defined p (tree.Define q n ps None b));
        there = is;
        expr = result_of b;
        sound = subst (λ w. IsSound (around items kinds j (Some (tree.Defined p (tree.Define q n ps None b)))) w (result_of b)) (none_written ps) (result_sound items kinds checked j p q n ps None b is);
        is_kind = kind ∙ checked.are_kinds.items_are j ∙ ap (item_kind items kinds j) is ∙ result_kind items kinds checked j p q n ps None b is;
        node = node;
        is_node = ap (slice_get (nodes items)) here ∙ node_at items j (tree.Defined p (tree.Define q n ps None b)) is 0 node (result_node j (inside (top items) ps) q n ps None b);
        same_item = refl;
        is_body = refl;
        not_written = refl;
      })
    where
      node : Node
      node = record { item = j; place = q; is_written = false; body = Some (record { scope = in_block 0 (inside (top items) ps) (block_of (Some b)); expr = result_of b }) }

      here : first_node items j ≡ first_node items j + 0
      here = omega arith

  -- a definition of a block, by its number
  pub local_kind_at : (i k : ℕ) (p q : Place) (n : List ℕ) (ps : List tree.Param) (w : Option TypeName) (b : tree.Body) → slice_get items i ≡ Some (tree.Defined p (tree.Define q n ps w b)) → (d : tree.Definition) → nth k (block_of (Some b)) ≡ Some d → kinds.local i k ≡ kind_of_local (around items kinds i (Some (tree.Defined p (tree.Define q n ps w b)))) d
  local_kind_at i k p q n ps w b is d at =
      let x : tree.Item = tree.Defined p (tree.Define q n ps w b) in
      let e : k ≡ 0 + k = omega arith in
      checked.are_kinds.locals_are i k
      ∙ ap (block_kind items kinds i k) is
      ∙ local_kind_is items kinds checked i p q n ps w b is k
      ∙ ap (λ j. local_from (around items kinds i (Some x)) j 0 (block_of (Some b))) e
      ∙ nth_kind (around items kinds i (Some x)) 0 (block_of (Some b)) k (block_plain items kinds checked i p q n ps w b is)
      ∙ ap (option_and_then (kind_of_local (around items kinds i (Some x)))) at

  view_local : (i k : ℕ) (p q : Place) (n : List ℕ) (ps : List tree.Param) (w : Option TypeName) (b : tree.Body) → slice_get items i ≡ Some (tree.Defined p (tree.Define q n ps w b)) → (r : Place) (m : List ℕ) (os : List tree.Param) (v : Option TypeName) (e : Expr) → nth k (block_of (Some b)) ≡ Some (tree.Define r m os v (tree.Plain e)) → Has (kinds.local i k) ⊎ IsUntyped items kinds i (declaration.Local k)
  view_local i k p q n ps w b is r m os (Some y) e at =
      let l : PlainAt k (block_of (Some b)) = record { place = r; name = m; params = os; written = Some y; expr = e; is = at } in
      let h = stream_there y (local_written items kinds checked i p q n ps w b is k l) in
      inl (record { it = h.it; is = local_kind_at i k p q n ps w b is (tree.Define r m os (Some y) (tree.Plain e)) at ∙ h.is })
  view_local i k p q n ps w b is r m os None e at =
      inr (record {
        number = first_node items i + 1 + k;
        is_number = refl;
        item = i;
        what = Some x;
        there = is;
        expr = e;
        sound = local_sound items kinds checked i p q n ps w b is k (record { place = r; name = m; params = os; written = None; expr = e; is = at });
        is_kind = local_kind_at i k p q n ps w b is (tree.Define r m os None (tree.Plain e)) at;
        node = node;
        is_node = ap (slice_get (nodes items)) here ∙ node_at items i x is (suc k) node (nodes_after i (inside (top items) ps) q n ps w b k ∙ nth_node i 0 scope (block_of (Some b)) k (block_plain items kinds checked i p q n ps w b is) ∙ ap (option_and_then (plain_node i scope)) at);
        same_item = refl;
        is_body = refl;
        not_written = refl;
      })
    where
      x : tree.Item
      x = tree.Defined p (tree.Define q n ps w b)

      scope : Scope
      scope = in_block 0 (inside (top items) ps) (block_of (Some b))

      node : Node
      node = record { item = i; place = r; is_written = false; body = Some (record { scope = scope; expr = e }) }

      here : first_node items i + 1 + k ≡ first_node items i + suc k
      here = omega arith

  -- ---- names
  params_of_item : (j : ℕ) → Has (param_types (params_of (slice_get items j)))
  params_of_item j = by (slice_get items j) refl
    where
      by : (o : Option tree.Item) → slice_get items j ≡ o → Has (param_types (params_of o))
      by (Some (tree.Defined p (tree.Define q n ps w b))) is = params_there ps (params_written items kinds checked j p q n ps w b is)
      by (Some (tree.Input p q n y)) is = record { it = []; is = refl }
      by (Some (tree.Output p q n)) is = record { it = []; is = refl }
      by (Some (tree.OutputAs p e q n)) is = record { it = []; is = refl }
      by None is = record { it = []; is = refl }

  input_there : (j : ℕ) → is_input (slice_get items j) ≡ true → Has (kinds.item j)
  input_there j h = by (slice_get items j) refl h
    where
      by : (o : Option tree.Item) → slice_get items j ≡ o → is_input o ≡ true → Has (kinds.item j)
      by (Some (tree.Input p q n y)) is t =
          let e = stream_there y (types_at items kinds checked j (tree.Input p q n y) is) in
          record { it = e.it; is = checked.are_kinds.items_are j ∙ ap (item_kind items kinds j) is ∙ e.is }
      by (Some (tree.Defined p d)) is t = absurd (cc)
      by (Some (tree.Output p q n)) is t = absurd (cc)
      by (Some (tree.OutputAs p e q n)) is t = absurd (cc)
      by None is t = absurd (cc)

  -- what names a definition is one
  defined : (test : Option tree.Item → Bool) → test None ≡ false → ((p q : Place) (n : List ℕ) (y : TypeName) → test (Some (tree.Input p q n y)) ≡ false) → ((p q : Place) (n : List ℕ) → test (Some (tree.Output p q n)) ≡ false) → ((p q : Place) (e : Expr) (n : List ℕ) → test (Some (tree.OutputAs p e q n)) ≡ false) → (i : ℕ) (d : Declaration) (j : ℕ) → test (slice_get items j) ≡ true → known kinds i d ≡ kinds.item j → node_of items i d ≡ Some (first_node items j) → Has (kinds.item j) ⊎ IsUntyped items kinds i d
  defined test none input output named i d j h kind number = by (slice_get items j) refl h
    where
      by : (o : Option tree.Item) → slice_get items j ≡ o → test o ≡ true → Has (kinds.item j) ⊎ IsUntyped items kinds i d
      by (Some (tree.Defined p (tree.Define q n ps w b))) is t = view_item i d j p q n ps w b is kind number
      by (Some (tree.Input p q n y)) is t = absurd (false≢true (sym (input p q n y) ∙ t))
      by (Some (tree.Output p q n)) is t = absurd (false≢true (sym (output p q n) ∙ t))
      by (Some (tree.OutputAs p e q n)) is t = absurd (false≢true (sym (named p q e n) ∙ t))
      by None is t = absurd (false≢true (sym none ∙ t))

  -- a name is there where it is of a type, or gives something of one
  of_known : (i : ℕ) (o : Option tree.Item) (d : Declaration) → IsSeen items o d → Has (known kinds i d) → IsThere (around items kinds i o) d
  of_known i o (declaration.Input j) seen h = h
  of_known i o (declaration.Stream j) seen h = h
  of_known i o (declaration.Macro j) seen h = callee_has (param_types (params_of (slice_get items j))) (kinds.item j) (params_of_item j) h
  of_known i o (declaration.Function j) seen h = callee_has (param_types (params_of (slice_get items j))) (kinds.item j) (params_of_item j) h
  of_known i o (declaration.Mixed j) seen h = absurd seen
  of_known i o (declaration.Parameter k) seen h = absurd (let e = h.is in cc)
  of_known i o (declaration.Local k) seen h = h

  param_there : (ps : List tree.Param) → bad_in_params ps ≡ [] → (k : ℕ) → Has (slice_get ps k) → Has (option_and_then (λ p. as_written p.of) (slice_get ps k))
  param_there ps h k p =
      let bad : bad_as_written p.it.of ≡ [] = flat_empty (λ x. bad_as_written x.of) ps h p.it (contains_at ps k p.it p.is) in
      let t = written_there p.it.of bad in
      record { it = t.it; is = ap (option_and_then (λ x. as_written x.of)) p.is ∙ t.is }

  parameter_there : (i : ℕ) (o : Option tree.Item) → slice_get items i ≡ o → (k : ℕ) → Has (slice_get (params_of o) k) → Has (option_and_then (λ p. as_written p.of) (slice_get (params_of o) k))
  parameter_there i (Some (tree.Defined p (tree.Define q n ps w b))) is k h = param_there ps (params_written items kinds checked i p q n ps w b is) k h
  parameter_there i (Some (tree.Input p q n y)) is k h = absurd (let e = h.is in cc)
  parameter_there i (Some (tree.Output p q n)) is k h = absurd (let e = h.is in cc)
  parameter_there i (Some (tree.OutputAs p e q n)) is k h = absurd (let f = h.is in cc)
  parameter_there i None is k h = absurd (let e = h.is in cc)

  local_there : (i : ℕ) (o : Option tree.Item) → slice_get items i ≡ o → (k : ℕ) → Has (nth k (block_of (body_of o))) → Has (kinds.local i k) ⊎ IsUntyped items kinds i (declaration.Local k)
  local_there i (Some (tree.Defined p (tree.Define q n ps w b))) is k h =
      let l = plain_at (block_of (Some b)) k h.it (block_plain items kinds checked i p q n ps w b is) h.is in
      view_local i k p q n ps w b is l.place l.name l.params l.written l.expr l.is
  local_there i (Some (tree.Input p q n y)) is k h = absurd (let e = h.is in cc)
  local_there i (Some (tree.Output p q n)) is k h = absurd (let e = h.is in cc)
  local_there i (Some (tree.OutputAs p e q n)) is k h = absurd (let f = h.is in cc)
  local_there i None is k h = absurd (let e = h.is in cc)

  called_view : (i : ℕ) (o : Option tree.Item) (d : Declaration) (j : ℕ) → IsSeen items o d → known kinds i d ≡ kinds.item j → Has (kinds.item j) ⊎ IsUntyped items kinds i d → IsThere (around items kinds i o) d ⊎ IsUntyped items kinds i d
  called_view i o d j seen kind (inl h) = inl (of_known i o d seen (record { it = h.it; is = kind ∙ h.is }))
  called_view i o d j seen kind (inr u) = inr u

  view : (i : ℕ) (o : Option tree.Item) → slice_get items i ≡ o → (d : Declaration) → IsSeen items o d → IsThere (around items kinds i o) d ⊎ IsUntyped items kinds i d
  view i o is (declaration.Input j) seen = inl (input_there j seen)
  view i o is (declaration.Stream j) seen = defined is_stream refl (λ p q n y. refl) (λ p q n. refl) (λ p q e n. refl) i (declaration.Stream j) j seen refl refl
  view i o is (declaration.Macro j) seen =
      called_view i o (declaration.Macro j) j seen refl (defined (λ x. may_have_braces (params_of x)) refl (λ p q n y. refl) (λ p q n. refl) (λ p q e n. refl) i (declaration.Macro j) j seen refl refl)
  view i o is (declaration.Function j) seen =
      called_view i o (declaration.Function j) j seen refl (defined (λ x. are_values (params_of x)) refl (λ p q n y. refl) (λ p q n. refl) (λ p q e n. refl) i (declaration.Function j) j seen refl refl)
  view i o is (declaration.Mixed j) seen = absurd seen
  view i o is (declaration.Parameter k) seen = inl (parameter_there i o is k seen)
  view i o is (declaration.Local k) seen = local_there i o is k seen

  plain_of : (i : ℕ) (o : Option tree.Item) → slice_get items i ≡ o → ArePlain (block_of (body_of o))
  plain_of i (Some (tree.Defined p (tree.Define q n ps w b))) is = block_plain items kinds checked i p q n ps w b is
  plain_of i (Some (tree.Input p q n y)) is = tt
  plain_of i (Some (tree.Output p q n)) is = tt
  plain_of i (Some (tree.OutputAs p e q n)) is = tt
  plain_of i None is = tt

  -- what is seen there stands for what it says
  pub seen_in : (i : ℕ) (o : Option tree.Item) → slice_get items i ≡ o → (p : Part) (d : Declaration) → declared (scope_in items o) p ≡ Some d → IsSeen items o d
  seen_in i o is p d stands = mentioned_seen items o checked.not_mixed (plain_of i o is) p d stands

  -- ---- along mentions
  edge : (i : ℕ) (c d : Declaration) (u : IsUntyped items kinds i c) (v : IsUntyped items kinds u.item d) (p : Part) → Contains (parts u.expr) p → declared (scope_in items u.what) p ≡ Some d → MentionsUntyped items u.number v.number
  edge i c d u v p there stands = record {
    from = record { node = u.node; is_node = u.is_node; not_written = u.not_written };
    to = record { node = v.node; is_node = v.is_node; not_written = v.not_written };
    mentions = record {
      node = u.node;
      is_node = u.is_node;
      seen = record { scope = scope_in items u.what; expr = u.expr };
      is_body = u.is_body;
      part = p;
      is_part = there;
      declaration = d;
      stands_for = stands;
      is_mentioned = ap (λ x. node_of items x d) u.same_item ∙ v.is_number;
    };
  }

  abbrev IsKnown : ℕ → Type 0
  IsKnown n = (i : ℕ) (d : Declaration) (u : IsUntyped items kinds i d) → u.number ≡ n → Has (known kinds i d)

  known_by : (n : ℕ) → ((m : ℕ) → MentionsUntyped items n m → IsKnown m) → IsKnown n
  known_by n deeper i c u same = record { it = f.of; is = u.is_kind ∙ fits_kind (around items kinds u.item u.what) u.expr f.of f.is f.asked }
    where
      mentioned : (p : Part) → Contains (parts u.expr) p → AreThere (around items kinds u.item u.what) (declared (scope_in items u.what) p)
      mentioned p there d stands =
          let seen = seen_in u.item u.what u.there p d stands in
          elim (view u.item u.what u.there d seen) [
            | inl t ↦ t
            | inr v ↦ of_known u.item u.what d seen (deeper v.number (subst (λ x. MentionsUntyped items x v.number) same (edge i c d u v p there stands)) u.item d v refl)
          ]

      f : Fits (around items kinds u.item u.what) None u.expr
      f = sound_fits (around items kinds u.item u.what) None u.expr u.sound mentioned

  node_within : (a b : ℕ) → MentionsUntyped items a b → a < length (nodes items)
  node_within a b e = slice_get_within (nodes items) a e.from.node e.from.is_node

  all_known : (n : ℕ) → IsKnown n
  all_known n = holds (length (nodes items)) (MentionsUntyped items) checked.no_untyped_cycle node_within IsKnown known_by n

  -- all that is mentioned where an item's expressions stand is there
  pub names_there : (i : ℕ) (o : Option tree.Item) → slice_get items i ≡ o → (p : Part) → AreThere (around items kinds i o) (declared (scope_in items o) p)
  names_there i o is p d stands =
      let seen = seen_in i o is p d stands in
      elim (view i o is d seen) [ inl t ↦ t | inr u ↦ of_known i o d seen (all_known u.number i d u refl) ]
