-- The marks of a flat system are those of its specification, however many equations it has: an induction over its derivation.
use Rattle.std.proofs.Common.{◌≡◌, ℕ, zero, suc, ◌+◌, Bool, true, false, cond, ◌&&◌, List, [], ◌∷◌, ◌++◌, map, length, Option, Some, None, refl, ap, sym, subst, ◌∙◌}
use Rattle.std.specs.Prelude.{is_none, slice_get}
use Rattle.std.specs.List.{AllByRecursion, Contains, filter, flat_map}
use Rattle.std.proofs.lemmas.Bool.{and_parts}
use Rattle.std.proofs.lemmas.List.{length-map, map-append}
use Rattle.std.proofs.lemmas.Option.{same_Some}
use Rattle.tsl_value.specs.declared.place.Place.{Place}
use Rattle.tsl_value.specs.declared.scalar.Scalar.{Scalar}
use Rattle.tsl_value.specs.declared.scalar.ValueType.{ValueType}
use Rattle.flat_core.specs.declared.equation.Equation.{Equation}
use Rattle.tsl_value.specs.Aggregate.{is_aggregate}
use Rattle.flat_core.proofs.Members.{all_from, contains_head, contains_tail}
use Rattle.syntax_tree.specs.inner.Joins.{join_links}
use Rattle.syntax_tree.specs.Tree as tree
use Rattle.syntax_tree.specs.Tree.{Expr, Links, no_links, more_links, place_of}
use Rattle.syntax_tree.specs.declared.tree.Level.{Level}
use Rattle.syntax_tree.specs.declared.tree.Operator.{Operator}
use Rattle.syntax_tree.proofs.Joins.{join_none}
use Rattle.name_check.specs.Parts.{parts}
use Rattle.name_check.specs.Scope.{meaning}
use Rattle.type_rules.specs.Rules.{operand_type}
use Rattle.type_rules.specs.declared.rule.ExprType.TheVariants as expr_type
use Rattle.expr_types.specs.Around.{Around}
use Rattle.type_rules.specs.Kinds.{Kinds}
use Rattle.expr_types.specs.Judge.{type_of}
use Rattle.stream_constructs.specs.declared.construct.Stream.{Stream}
use Rattle.spec_meaning.specs.Occurrence.{Call, Occurrence, block_of, body_of, local, result_of}
use Rattle.spec_meaning.specs.Shape.{Shape, all_but_last, beside, expressions, is_part, last_operand, last_operator, left_of, shape}
use Rattle.spec_meaning.specs.Function.{literal}
use Rattle.spec_meaning.specs.Makes.{AreLocals, Makes, MakesAll, MakesBlock, MakesBody, Standing, inside_call, is_choice, is_name, is_own, last_of, occurrence}
use Rattle.spec_meaning.specs.Makes as makes
use Rattle.flat_meaning.proofs.Shapes.{choice_construct}
use Rattle.flat_meaning.proofs.Once.{IsChoice, IsOwn, OneList, choice_of, choice_once, no_choice, own_of, own_once}
use Rattle.flat_meaning.proofs.OneShapes.{no_own_chain}
use Rattle.checked_spec.specs.inner.Checked.{IsChecked}
use Rattle.checked_spec.specs.Laws.{IsMacro, in_macro}
use Rattle.checked_spec.proofs.BodyLaws.{macros_are_typed}
use Rattle.checked_spec.specs.inner.Chains.{HaveOperands}
use Rattle.checked_spec.specs.inner.Inner.{StandsIn, has_links, operands_after}
use Rattle.checked_spec.specs.inner.Matches.{HaveTheirTypes, IsTypedAt}
use Rattle.checked_spec.proofs.Beginnings.{chain_begins, chain_operands, one_operand}
use Rattle.checked_spec.proofs.Inside.{name_typed}
use Rattle.checked_spec.proofs.Whole.{choice_fits, construct_fits, parts_typed}
use Rattle.checked_spec.proofs.Within.{operand_in, subs_stand_in}
use Rattle.equation_marks.specs.Marks.{Mark, block_marks, body_marks, macro_marks, mark_of, marks}
use Rattle.equation_marks.proofs.CallMarks.{body_of_name, body_of_other, name_has_none}
use Rattle.equation_marks.proofs.ChainMarks.{join_assoc, last_after}
use Rattle.equation_marks.proofs.MadeMarks.{call_made_marks, choice_made_marks, own_made_marks}
use Rattle.equation_marks.proofs.OwnMarks.{alias_marks}
use Rattle.macro_flatten.specs.inner.Answers.{IsCall}
use Rattle.macro_flatten.specs.inner.Here.{Site}
use Rattle.macro_flatten.specs.inner.Making.{MayMake}
use Rattle.macro_flatten.proofs.Allowed.{local_inside_may, result_inside_may}
use Rattle.macro_flatten.proofs.Called.{arguments_may, is_macro, matches_inside, nests_inside, result_inside, some_left}
use Rattle.macro_flatten.proofs.Made.{typed_long}
use Rattle.macro_flatten.proofs.Places.{part_may, typed_at}

-- ---- the last operand of a chain
last_in : (f : Expr) (ls rest : Links) → Contains (f ∷ operands_after (join_links ls rest)) (last_operand f ls)
last_in f no_links rest = contains_head f (operands_after rest)
last_in f (more_links o g ls) rest = contains_tail f (g ∷ operands_after (join_links ls rest)) (last_operand g ls) (last_in g ls rest)

last_typed : (at : Around) (t : ValueType) (o : Operator) (f : Expr) (ls rest : Links) → HaveOperands at t (more_links o f (join_links ls rest)) → type_of at (last_operand f ls) ≡ Some (expr_type.Stream t)
last_typed at t o f no_links rest h = h.0
last_typed at t o f (more_links q g ls) rest h = last_typed at t q g ls rest h.1

-- operands that are no literals
all_parts : (P : Expr → Type 0) (cs : List Call) (es : List Expr) → AllByRecursion P es → AllByRecursion P (map (λ o. o.expr) (map (beside cs) (filter is_part es)))
all_parts P cs [] all = tt
all_parts P cs (e ∷ es) all = either (literal e) (all_parts P cs es all.1)
  where
    either : (s : Option Scalar) → AllByRecursion P (map (λ o. o.expr) (map (beside cs) (filter is_part es))) → AllByRecursion P (map (λ o. o.expr) (map (beside cs) (cond (is_none s) (e ∷ filter is_part es) (filter is_part es))))
    either (Some s) more = more
    either None more = (all.0, more)

module _ (items : List tree.Item) (kinds : Kinds) (streams : ℕ → Stream) (is_checked : IsChecked items kinds) where
  abbrev pub site : Around → Standing → Site
  site at st = record { items = items; kinds = kinds; top = streams; at = at; st = st }

  abbrev pub marks_of_macros : ℕ → ℕ → List Mark
  marks_of_macros deep = macro_marks items kinds deep

  -- ---- where expressions stand: each may be made, or it is the beginning of a chain that may be
  abbrev pub IsPlaced : Around → Standing → ℕ → Expr → Type 0
  IsPlaced at st deep (tree.Chain p l e front) = (rest : Links) × MayMake items kinds streams at st deep (tree.Chain p l e (join_links front rest))
  IsPlaced at st deep e = MayMake items kinds streams at st deep e

  module _ (at : Around) (st : Standing) (deep : ℕ) where
    pub placed_of : (e : Expr) → MayMake items kinds streams at st deep e → IsPlaced at st deep e
    placed_of (tree.Chain p l e ls) may = (no_links, subst (λ ks. MayMake items kinds streams at st deep (tree.Chain p l e ks)) (sym (join_none ls)) may)
    placed_of e may = may

    typed_there : (e : Expr) → IsPlaced at st deep e → (t : ValueType) × IsTypedAt items streams at st e t
    typed_there (tree.Chain p l e front) placed = (
      placed.1.of.0,
      chain_begins items streams at st p l e front placed.0 placed.1.of.0
          (typed_at (site at st) deep (tree.Chain p l e (join_links front placed.0)) is_checked placed.1),
    )
    typed_there e placed = (placed.of.0, typed_at (site at st) deep e is_checked placed)

    -- the parts of a construct
    zipped : (e : Expr) → MayMake items kinds streams at st deep e → (os : List Occurrence) → AllByRecursion (λ o. (u : ValueType) × (type_of at o.expr ≡ Some (expr_type.Stream u))) os → AllByRecursion (λ o. StandsIn (parts e) o.expr) os → AllByRecursion (IsPlaced at st deep) (map (λ o. o.expr) os)
    zipped e may [] types inner = tt
    zipped e may (o ∷ os) types inner =
        (placed_of o.expr (part_may (site at st) deep e may o.expr types.0.0 inner.0 types.0.1), zipped e may os types.1 inner.1)

    plain_parts : (e : Expr) (sh : Shape) → MayMake items kinds streams at st deep e → shape items (occurrence items streams st e) ≡ Some sh → is_own sh.construct ≡ true → has_links e ≡ false → AllByRecursion (IsPlaced at st deep) (map (λ o. o.expr) sh.parts)
    plain_parts e sh may is own none =
        zipped e may sh.parts
        (parts_typed items streams at st e may.of.0 sh (typed_at (site at st) deep e is_checked may) is own)
        (subs_stand_in items (occurrence items streams st e) sh is own none)

    -- a chain is its last operator over what is on the left of it and its last operand
    module _ (p : Place) (l : Level) (e : Expr) (o : Operator) (f : Expr) (ls rest : Links) (may : MayMake items kinds streams at st deep (tree.Chain p l e (more_links o f (join_links ls rest)))) where
      abbrev whole : Expr
      whole = tree.Chain p l e (more_links o f (join_links ls rest))

      operands_typed : (type_of at e ≡ Some (expr_type.Stream (operand_type l))) × HaveOperands at (operand_type l) (more_links o f (join_links ls rest))
      operands_typed = chain_operands items streams at st p l e o f (join_links ls rest) may.of.0 (typed_at (site at st) deep whole is_checked may)

      operand_placed : (g : Expr) → Contains (e ∷ operands_after (more_links o f (join_links ls rest))) g → type_of at g ≡ Some (expr_type.Stream (operand_type l)) → IsPlaced at st deep g
      operand_placed g there typed =
          placed_of g (part_may (site at st) deep whole may g (operand_type l) (operand_in p l e (more_links o f (join_links ls rest)) g there) typed)

      last_placed : IsPlaced at st deep (last_operand f ls)
      last_placed =
          operand_placed (last_operand f ls)
          (contains_tail e (f ∷ operands_after (join_links ls rest)) (last_operand f ls) (last_in f ls rest))
          (last_typed at (operand_type l) o f ls rest operands_typed.1)

    left_placed : (p : Place) (l : Level) (e : Expr) (o : Operator) (f : Expr) (ls rest : Links) → MayMake items kinds streams at st deep (tree.Chain p l e (more_links o f (join_links ls rest))) → IsPlaced at st deep (left_of e (tree.Chain p l e) (all_but_last (more_links o f ls)))
    left_placed p l e o f no_links rest may =
        operand_placed p l e o f no_links rest may e (contains_head e (operands_after (more_links o f rest))) (operands_typed p l e o f no_links rest may).0
    left_placed p l e o f (more_links q g ls) rest may =
        let all = more_links o f (more_links q g ls) in
        let end = more_links (last_operator o (more_links q g ls)) (last_operand f (more_links q g ls)) no_links in
        let same : join_links (all_but_last all) (join_links end rest) ≡ join_links all rest =
        sym (join_assoc (all_but_last all) end rest) ∙ ap (λ ks. join_links ks rest) (last_after o f (more_links q g ls)) in
        (join_links end rest, subst (λ ks. MayMake items kinds streams at st deep (tree.Chain p l e ks)) (sym same) may)

    parts_placed : (e : Expr) (sh : Shape) → IsPlaced at st deep e → shape items (occurrence items streams st e) ≡ Some sh → is_own sh.construct ≡ true → AllByRecursion (IsPlaced at st deep) (map (λ o. o.expr) sh.parts)
    parts_placed (tree.Chain p l e no_links) sh placed is own = no_own_chain items st.calls sh p l e is own
    parts_placed (tree.Chain p l e (more_links o f ls)) sh placed is own =
        let left = left_of e (tree.Chain p l e) (all_but_last (more_links o f ls)) in
        let right = last_operand f ls in
        subst (λ (s : Shape). AllByRecursion (IsPlaced at st deep) (map (λ o. o.expr) s.parts)) (same_Some _ sh is)
        (all_parts (IsPlaced at st deep) st.calls (left ∷ right ∷ [])
        (left_placed p l e o f ls placed.0 placed.1, (last_placed p l e o f ls placed.0 placed.1, tt)))
    parts_placed e sh placed is own = plain_parts e sh placed is own refl

  -- ---- what is shown
  pub record IsMarked (at : Around) (deep : ℕ) (e : Expr) (made : List Equation) (s : Stream) : Type 0 where
    pub marks_are : map mark_of made ≡ marks at (marks_of_macros deep) e
    pub of_is : type_of at e ≡ Some (expr_type.Stream s.of)

  record AreMarked (at : Around) (deep : ℕ) (es : List Expr) (made : List Equation) (ss : List Stream) : Type 0 where
    pub marks_are : map mark_of made ≡ flat_map (marks at (marks_of_macros deep)) es
    typed : HaveTheirTypes at es ss

  pub record IsBodyMarked (at : Around) (deep : ℕ) (e : Expr) (made : List Equation) (s : Stream) : Type 0 where
    pub marks_are : map mark_of made ≡ body_marks at (marks_of_macros deep) e
    pub of_is : type_of at e ≡ Some (expr_type.Stream s.of)

  -- ---- an expression with equations of its own, where those of its parts are known
  module _ (at : Around) (st : Standing) (deep : ℕ) (e : Expr) (n : ℕ) (sh : Shape) (ps : List Stream) (before made : List Equation) (s : Stream) (t : ValueType) (typed : IsTypedAt items streams at st e t) (is : shape items (occurrence items streams st e) ≡ Some sh) (own : is_own sh.construct ≡ true) (inner : AreMarked at deep (map (λ o. o.expr) sh.parts) before ps) where
    abbrev k : ℕ
    k = n + length before

    once : OneList items streams streams n n st st before before ps ps
    once = record { lengths = refl; typed = refl; whole = λ exact n_same at_same. (refl, refl) }

    count : length ps ≡ length sh.parts
    count = typed_long at (map (λ o. o.expr) sh.parts) ps inner.typed ∙ length-map sh.parts (λ o. o.expr)

    -- as it is typed
    typed_own : (is_choice e && is_aggregate t) ≡ false → IsOwn e sh.construct k ps before (before ++ own_of e sh.construct t k ps) (last_of k (own_of e sh.construct t k ps) t)
    typed_own other =
        let both = construct_fits items streams at st e t sh ps k typed is own inner.typed other in
        record {
          of = t;
          no_choice = other;
          written = both.1;
          fits = both.0;
          is_after = record { after = own_of e sh.construct t k ps; after_is = refl; made_is = refl; stream_is = refl };
        }

    typed_choice : (is_choice e && is_aggregate t) ≡ true → IsChoice e k ps before (before ++ choice_of e t k ps) (last_of k (choice_of e t k ps) t)
    typed_choice chosen = record {
      of = t;
      chosen = chosen;
      fits = choice_fits items streams at st e t sh ps typed is inner.typed chosen;
      is_after = record { after = choice_of e t k ps; after_is = refl; made_is = refl; stream_is = refl };
    }

    own_type : IsOwn e sh.construct k ps before made s → s.of ≡ t
    own_type g = by (is_choice e && is_aggregate t) refl
      where
        by : (b : Bool) → (is_choice e && is_aggregate t) ≡ b → s.of ≡ t
        by true chosen = no_choice items streams streams st.calls is refl g (typed_choice chosen)
        by false other = (own_once items streams streams is once g (typed_own other)).typed

    choice_type : IsChoice e k ps before made s → s.of ≡ t
    choice_type g = by (is_choice e && is_aggregate t) refl
      where
        by : (b : Bool) → (is_choice e && is_aggregate t) ≡ b → s.of ≡ t
        by true chosen = (choice_once items streams streams once g (typed_choice chosen)).typed
        by false other = no_choice items streams streams st.calls is refl (typed_own other) g

    typed_as : (of : ValueType) → of ≡ t → type_of at e ≡ Some (expr_type.Stream of)
    typed_as of same = typed.is ∙ ap (λ v. Some (expr_type.Stream v)) (sym same)

    own_marked : IsOwn e sh.construct k ps before made s → IsMarked at deep e made s
    own_marked g =
        let same = own_type g in
        let of_is : g.of ≡ t = sym (ap (λ (a : Stream). a.of) g.is_after.stream_is) ∙ same in
        record {
          marks_are =
              ap (map mark_of) (g.is_after.made_is ∙ ap (λ es. before ++ es) g.is_after.after_is)
              ∙ own_made_marks items st.calls at (marks_of_macros deep) typed.matches.scope_is e g.of sh k ps before is own (typed_as g.of of_is) g.no_choice count inner.marks_are g.fits;
          of_is = typed_as s.of same;
        }

    choice_marked : IsChoice e k ps before made s → IsMarked at deep e made s
    choice_marked g =
        let same = choice_type g in
        let of_is : g.of ≡ t = sym (ap (λ (a : Stream). a.of) g.is_after.stream_is) ∙ same in
        record {
          marks_are =
              ap (map mark_of) (g.is_after.made_is ∙ ap (λ es. before ++ es) g.is_after.after_is)
              ∙ choice_made_marks items st.calls at (marks_of_macros deep) typed.matches.scope_is e g.of sh k ps before is own (typed_as g.of of_is) g.chosen count inner.marks_are g.fits;
          of_is = typed_as s.of same;
        }

  -- ---- a chain of one operand is that
  module _ (at : Around) (st : Standing) (deep : ℕ) (p : Place) (l : Level) (e : Expr) (placed : IsPlaced at st deep (tree.Chain p l e no_links)) where
    chain_typed : IsTypedAt items streams at st (tree.Chain p l e no_links) placed.1.of.0
    chain_typed =
        chain_begins items streams at st p l e no_links placed.0 placed.1.of.0 (typed_at (site at st) deep (tree.Chain p l e placed.0) is_checked placed.1)

    first_typed : type_of at e ≡ Some (expr_type.Stream placed.1.of.0)
    first_typed = one_operand items streams at st p l e placed.1.of.0 chain_typed

    first_placed : IsPlaced at st deep e
    first_placed =
        placed_of at st deep e
        (part_may (site at st) deep (tree.Chain p l e placed.0) placed.1 e placed.1.of.0 (operand_in p l e placed.0 e (contains_head e (operands_after placed.0))) first_typed)

    first_marked : (made : List Equation) (s : Stream) → IsMarked at deep e made s → IsMarked at deep (tree.Chain p l e no_links) made s
    first_marked made s h = record {
      marks_are = h.marks_are;
      of_is = chain_typed.is ∙ sym first_typed ∙ h.of_is;
    }

  -- ---- a call of a macro, where calls may nest
  module _ (at : Around) (st : Standing) (less : ℕ) (p : Place) (x : List ℕ) (es : tree.Exprs) (i : ℕ) (params locals : List Stream) (b : tree.Body) (call : IsCall (site at st) (suc less) p x es i) (body : body_of (slice_get items i) ≡ Some b) (are_locals : AreLocals kinds i locals) where
    abbrev inside : Standing
    inside = inside_call items streams st i es params locals

    arguments_placed : AllByRecursion (IsPlaced at st (suc less)) (expressions es)
    arguments_placed =
        all_from (IsPlaced at st (suc less)) (expressions es)
        (λ e there. placed_of at st (suc less) e ((arguments_may (site at st) is_checked (suc less) p x es i call).each e there))

    module _ (theirs : HaveTheirTypes at (expressions es) params) where
      abbrev there : Around
      there = in_macro items kinds i

      macro : IsMacro items kinds i
      macro = macros_are_typed items kinds i is_checked (is_macro (site at st) is_checked (suc less) p x es i call)

      result_placed : IsPlaced there inside less (result_of b)
      result_placed =
          placed_of there inside less (result_of b)
          (result_inside_may items kinds streams i inside less is_checked (is_macro (site at st) is_checked (suc less) p x es i call)
          (matches_inside (site at st) is_checked (suc less) p x es i call less refl params theirs locals are_locals)
          (nests_inside (site at st) is_checked (suc less) p x es i call less refl params theirs) b body)

      local_placed : (k : ℕ) (c : tree.Body) → local k (block_of (Some b)) ≡ Some c → IsPlaced there inside less (result_of c)
      local_placed k c h =
          placed_of there inside less (result_of c)
          (local_inside_may items kinds streams i inside less is_checked (is_macro (site at st) is_checked (suc less) p x es i call)
          (matches_inside (site at st) is_checked (suc less) p x es i call less refl params theirs locals are_locals)
          (nests_inside (site at st) is_checked (suc less) p x es i call less refl params theirs) b body k c h)

      -- its stream is of the type of the result
      call_type : (s : Stream) → type_of there (result_of b) ≡ Some (expr_type.Stream s.of) → type_of at (tree.Call p x es) ≡ Some (expr_type.Stream s.of)
      call_type s of_is =
          let same = same_Some macro.body b (sym macro.body_is ∙ body) in
          call.may.of.1.is
          ∙ sym (result_inside (site at st) is_checked (suc less) p x es i call less refl params theirs locals are_locals)
          ∙ macro.kind_is
          ∙ sym macro.result.is
          ∙ ap (λ c. type_of there (result_of c)) same
          ∙ of_is

  -- ---- whatever is made
  mutual
    pub marked : {at : Around} {st : Standing} {deep : ℕ} {e : Expr} {n : ℕ} {made : List Equation} {s : Stream} → IsPlaced at st deep e → Makes items kinds streams st e n made s → IsMarked at deep e made s
    marked {at} {st} {deep} {s = s} placed (makes.Makes.name {p = p} {x = x} d other is stands) = record {
      marks_are = sym (name_has_none at (marks_of_macros deep) p x other);
      of_is = name_typed items streams at st p x d s placed.matches other (ap (λ scope. meaning scope x) placed.matches.scope_is ∙ is) stands;
    }
    marked {at} {st} {deep} {made = made} {s = s} placed (makes.Makes.chain {p = p} {l = l} {e = e} one) =
        first_marked at st deep p l e placed made s (marked (first_placed at st deep p l e placed) one)
    marked {at} {st} {deep} {e} {n} {made} {s} placed (makes.Makes.own sh ps before after {of} is own other all written fits after_is made_is s_is) =
        let typed = typed_there at st deep e placed in
        let inner = all_marked (parts_placed at st deep e sh placed is own) all in
        own_marked at st deep e n sh ps before made s typed.0 typed.1 is own inner
        (record { of = of; no_choice = other; written = written; fits = fits; is_after = record { after = after; after_is = after_is; made_is = made_is; stream_is = s_is } })
    marked {at} {st} {deep} {e} {n} {made} {s} placed (makes.Makes.choice sh ps before after {of} is chosen all fits after_is made_is s_is) =
        let typed = typed_there at st deep e placed in
        let own : is_own sh.construct ≡ true = ap is_own (choice_construct items st.calls e sh (and_parts (is_choice e) (is_aggregate of) chosen).0 is) in
        let inner = all_marked (parts_placed at st deep e sh placed is own) all in
        choice_marked at st deep e n sh ps before made s typed.0 typed.1 is own inner
        (record { of = of; chosen = chosen; fits = fits; is_after = record { after = after; after_is = after_is; made_is = made_is; stream_is = s_is } })
    marked {at} {st} {deep = zero} placed (makes.Makes.call {p = p} {x = x} {es = es} i params locals b before block after other is body arguments typed definitions result made_is) =
        absurd (some_left (site at st) is_checked zero p x es i (record { may = placed; other = other; calls = ap (λ scope. meaning scope x) placed.matches.scope_is ∙ is }) refl)
    marked {at} {st} {deep = suc less} {s = s} placed (makes.Makes.call {p = p} {x = x} {es = es} i params locals b before block after other is body arguments typed definitions result made_is) =
        let call : IsCall (site at st) (suc less) p x es i = record { may = placed; other = other; calls = ap (λ scope. meaning scope x) placed.matches.scope_is ∙ is } in
        let inner = all_marked (arguments_placed at st less p x es i params locals b call body typed) arguments in
        let last = body_marked (result_placed at st less p x es i params locals b call body typed inner.typed) result in
        let first = block_marked (local_placed at st less p x es i params locals b call body typed inner.typed) definitions in
        record {
          marks_are = ap (map mark_of) made_is ∙ call_made_marks items kinds less at p x es i b before block after other call.calls body inner.marks_are first last.marks_are;
          of_is = call_type at st less p x es i params locals b call body typed inner.typed s last.of_is;
        }

    all_marked : {at : Around} {st : Standing} {deep : ℕ} {es : List Expr} {n : ℕ} {made : List Equation} {ss : List Stream} → AllByRecursion (IsPlaced at st deep) es → MakesAll items kinds streams st es n made ss → AreMarked at deep es made ss
    all_marked placed makes.MakesAll.no_part = record { marks_are = refl; typed = tt }
    all_marked placed (makes.MakesAll.part first rest one more made_is) =
        let head = marked placed.0 one in
        let tail = all_marked placed.1 more in
        record {
          marks_are = ap (map mark_of) made_is ∙ map-append mark_of first rest ∙ (λ k. head.marks_are k ++ tail.marks_are k);
          typed = (head.of_is, tail.typed);
        }

    pub body_marked : {at : Around} {st : Standing} {deep : ℕ} {e : Expr} {n : ℕ} {made : List Equation} {s : Stream} → IsPlaced at st deep e → MakesBody items kinds streams st e n made s → IsBodyMarked at deep e made s
    body_marked {at} {deep = deep} {e = e} placed (makes.MakesBody.plain no_name one) =
        let h = marked placed one in record { marks_are = h.marks_are ∙ sym (body_of_other at (marks_of_macros deep) e no_name); of_is = h.of_is }
    body_marked {at} {deep = deep} {e = e} placed (makes.MakesBody.alias a only_name one made_is s_is) =
        let h = marked placed one in
        record {
          marks_are = ap (map mark_of) made_is ∙ alias_marks (place_of e) a ∙ sym (body_of_name at (marks_of_macros deep) e only_name);
          of_is = h.of_is ∙ ap (λ v. Some (expr_type.Stream v)) (sym (ap (λ (t : Stream). t.of) s_is));
        }

    block_marked : {at : Around} {st : Standing} {deep : ℕ} {ds : tree.Definitions} {n : ℕ} {made : List Equation} {ss : List Stream} → ((k : ℕ) (b : tree.Body) → local k ds ≡ Some b → IsPlaced at st deep (result_of b)) → MakesBlock items kinds streams st ds n made ss → map mark_of made ≡ block_marks at (marks_of_macros deep) ds
    block_marked placed makes.MakesBlock.no_definition = refl
    block_marked placed (makes.MakesBlock.definition {b = b} first rest one more made_is) =
        let head = body_marked (placed 0 b refl) one in
        let tail = block_marked (λ k c h. placed (suc k) c h) more in
        ap (map mark_of) made_is ∙ map-append mark_of first rest ∙ (λ k. head.marks_are k ++ tail k)
