-- Equations that are made as an expression asks have its marks.
use Rattle.std.proofs.Common.{◌≡◌, ℕ, suc, Bool, true, false, ◌&&◌, List, ◌++◌, map, length, Some, sym, ap, ◌∙◌, append_assoc}
use Rattle.std.specs.Prelude.{slice_get}
use Rattle.std.specs.List.{flat_map}
use Rattle.std.proofs.lemmas.List.{length-map, map-append}
use Rattle.std.proofs.lemmas.List.Folds.{flat_map-map}
use Rattle.tsl_value.specs.declared.place.Place.{Place}
use Rattle.tsl_value.specs.declared.scalar.ValueType.{ValueType}
use Rattle.flat_core.specs.declared.equation.Equation.{Equation}
use Rattle.tsl_value.specs.Aggregate.{is_aggregate}
use Rattle.syntax_tree.specs.Tree as tree
use Rattle.syntax_tree.specs.Tree.{Expr, Exprs, place_of}
use Rattle.name_check.specs.declared.declaration.Declaration.TheVariants as declaration
use Rattle.name_check.specs.Builtin.{is_called}
use Rattle.name_check.specs.Scope.{meaning}
use Rattle.name_check.proofs.AgreeLemmas.{agree_same}
use Rattle.type_rules.specs.declared.rule.ExprType.TheVariants as expr_type
use Rattle.expr_types.specs.Around.{Around}
use Rattle.type_rules.specs.Kinds.{Kinds}
use Rattle.expr_types.specs.Judge.{type_of}
use Rattle.stream_constructs.specs.declared.construct.Stream.{Stream}
use Rattle.stream_constructs.specs.Equations.{own_equations, choice_equations}
use Rattle.stream_constructs.specs.Agree.{Fits, FitsChoice}
use Rattle.spec_meaning.specs.Occurrence.{Call, scope_at, result_of, block_of, body_of}
use Rattle.spec_meaning.specs.Shape.{Shape, shape, expressions}
use Rattle.spec_meaning.specs.Makes.{with_itself, is_own, is_choice, choice_operands}
use Rattle.checked_spec.specs.Laws.{in_macro}
use Rattle.equation_marks.specs.Marks.{Mark, mark_of, own_marks, choice_own_marks, marks, holds_aggregate, body_marks, block_marks, macro_marks}
use Rattle.equation_marks.proofs.OwnMarks.{own_equations_marks, choice_equations_marks}
use Rattle.equation_marks.proofs.ByShape.{marks_of_own, marks_of_choice}
use Rattle.equation_marks.proofs.CallMarks.{macro_call_marks, macro_marks_are}

typed_choice : (at : Around) (e : Expr) (of : ValueType) (b : Bool) → type_of at e ≡ Some (expr_type.Stream of) → (is_choice e && is_aggregate of) ≡ b → (is_choice e && holds_aggregate (type_of at e)) ≡ b
typed_choice at e of b is h = ap (λ t. is_choice e && holds_aggregate t) is ∙ h

-- the equations of the parts, and those of the construct
joined_marks : (of : Expr → List Mark) (before after : List Equation) (sh : Shape) (own : List Mark) → map mark_of before ≡ flat_map of (map (λ o. o.expr) sh.parts) → map mark_of after ≡ own → map mark_of (before ++ after) ≡ flat_map (λ o. of o.expr) sh.parts ++ own
joined_marks of before after sh own first second =
    map-append mark_of before after ∙ (λ i. first i ++ second i) ∙ ap (λ ms. ms ++ own) (flat_map-map of (λ o. o.expr) sh.parts)

module _ (items : List tree.Item) (cs : List Call) (at : Around) (call : ℕ → List Mark) (scope_is : at.scope ≡ scope_at items cs) where
  -- a construct of its own
  pub own_made_marks : (e : Expr) (of : ValueType) (sh : Shape) (n : ℕ) (parts : List Stream) (before : List Equation) → shape items (record { calls = cs; expr = e }) ≡ Some sh → is_own sh.construct ≡ true → type_of at e ≡ Some (expr_type.Stream of) → (is_choice e && is_aggregate of) ≡ false → length parts ≡ length sh.parts → map mark_of before ≡ flat_map (marks at call) (map (λ o. o.expr) sh.parts) → Fits sh.construct (with_itself sh.construct n parts) of → map mark_of (before ++ own_equations (place_of e) of n sh.construct (with_itself sh.construct n parts)) ≡ marks at call e
  own_made_marks e of sh n parts before is own typed other count first fits =
      joined_marks (marks at call) before (own_equations (place_of e) of n sh.construct (with_itself sh.construct n parts)) sh (own_marks (place_of e) sh.construct (length sh.parts)) first
      (own_equations_marks (place_of e) of n sh.construct parts fits ∙ ap (own_marks (place_of e) sh.construct) count)
      ∙ sym (marks_of_own items cs at call e sh (agree_same at.scope (scope_at items cs) scope_is) is own (typed_choice at e of false typed other))

  -- a choice between sets or maps
  pub choice_made_marks : (e : Expr) (of : ValueType) (sh : Shape) (n : ℕ) (parts : List Stream) (before : List Equation) → shape items (record { calls = cs; expr = e }) ≡ Some sh → is_own sh.construct ≡ true → type_of at e ≡ Some (expr_type.Stream of) → (is_choice e && is_aggregate of) ≡ true → length parts ≡ length sh.parts → map mark_of before ≡ flat_map (marks at call) (map (λ o. o.expr) sh.parts) → FitsChoice (choice_operands e) parts of → map mark_of (before ++ choice_equations (place_of e) of n (choice_operands e) parts) ≡ marks at call e
  choice_made_marks e of sh n parts before is own typed chosen count first fits =
      joined_marks (marks at call) before (choice_equations (place_of e) of n (choice_operands e) parts) sh (choice_own_marks (place_of e) (length sh.parts) (choice_operands e)) first
      (choice_equations_marks (place_of e) of n (choice_operands e) parts fits ∙ ap (λ k. choice_own_marks (place_of e) k (choice_operands e)) count)
      ∙ sym (marks_of_choice items cs at call e sh (agree_same at.scope (scope_at items cs) scope_is) is own (typed_choice at e of true typed chosen))

-- a call of a macro: the arguments, the block and the result
pub call_made_marks : (items : List tree.Item) (kinds : Kinds) (deep : ℕ) (at : Around) (p : Place) (x : List ℕ) (es : Exprs) (i : ℕ) (b : tree.Body) (before block after : List Equation) → is_called x ≡ false → meaning at.scope x ≡ Some (declaration.Macro i) → body_of (slice_get items i) ≡ Some b → map mark_of before ≡ flat_map (marks at (macro_marks items kinds (suc deep))) (expressions es) → map mark_of block ≡ block_marks (in_macro items kinds i) (macro_marks items kinds deep) (block_of (Some b)) → map mark_of after ≡ body_marks (in_macro items kinds i) (macro_marks items kinds deep) (result_of b) → map mark_of (before ++ block ++ after) ≡ marks at (macro_marks items kinds (suc deep)) (tree.Call p x es)
call_made_marks items kinds deep at p x es i b before block after other is body first second third =
    map-append mark_of (before ++ block) after ∙ ap (λ ms. ms ++ map mark_of after) (map-append mark_of before block)
    ∙ append_assoc (map mark_of before) (map mark_of block) (map mark_of after)
    ∙ (λ k. first k ++ (second k ++ third k))
    ∙ ap (λ ms. flat_map (marks at (macro_marks items kinds (suc deep))) (expressions es) ++ ms) (sym (macro_marks_are items kinds deep i b body))
    ∙ sym (macro_call_marks at (macro_marks items kinds (suc deep)) p x es i other is)

-- equations of these marks are as many
pub made_length : (es : List Equation) (ms : List Mark) → map mark_of es ≡ ms → length es ≡ length ms
made_length es ms h = sym (length-map es mark_of) ∙ ap length h
