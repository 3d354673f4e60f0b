-- Calls of macros: their arguments may be made, and what is made inside of them.
use Rattle.std.proofs.Common.{◌≡◌, ℕ, zero, suc, ◌+◌, true, List, [], ◌∷◌, ◌++◌, map, length, Option, Some, None, refl, ap, sym, subst, ◌∙◌, append_assoc, length-append, arith}
use Rattle.std.specs.Prelude.{Ok, if◌then◌else◌, not, slice_get}
use Rattle.std.specs.List.{AllByRecursion}
use Rattle.std.specs.Option.{option_map, option_and_then}
use Rattle.std.proofs.lemmas.List.{map-append}
use Rattle.std.proofs.lemmas.Option.{same_Some, none-some}
use Rattle.tsl_value.specs.declared.place.Place.{Place}
use Rattle.tsl_value.specs.declared.scalar.ValueType.{ValueType}
use Rattle.flat_core.specs.System.{System}
use Rattle.flat_core.proofs.Members.{all_at}
use Rattle.syntax_tree.specs.Tree as tree
use Rattle.syntax_tree.specs.Tree.{Expr, Exprs, no_exprs, more_exprs}
use Rattle.name_check.specs.declared.declaration.Declaration.TheVariants as declaration
use Rattle.name_check.specs.Builtin.{is_unit}
use Rattle.name_check.specs.Parts.{Operand, parts}
use Rattle.name_check.specs.Scope.{meaning}
use Rattle.type_rules.specs.declared.rule.ExprType.{ExprType}
use Rattle.type_rules.specs.declared.rule.ExprType.TheVariants as expr_type
use Rattle.type_rules.specs.declared.rule.Asked.TheVariants as asked
use Rattle.type_rules.specs.Asked.{ask}
use Rattle.type_rules.specs.Rules.{ask_each, macro_rule}
use Rattle.type_rules.specs.Written.{as_written}
use Rattle.form_check.specs.Arity.{call_fits, count, declared_takes}
use Rattle.expr_types.specs.Around.{Around, Callee, callee_at, callee_of, param_types}
use Rattle.syntax_tree.specs.Tree.{params_of}
use Rattle.expr_types.specs.Bodies.{in_definition, may_have_braces, within_block}
use Rattle.expr_types.specs.Judge.{call_rule, of_verdict, type_of, types_of}
use Rattle.stream_constructs.specs.declared.construct.Stream.{Stream}
use Rattle.stream_constructs.specs.declared.maker.MakeFault.{MakeFault}
use Rattle.spec_meaning.specs.Occurrence.{block_of, body_of, result_of}
use Rattle.spec_meaning.specs.Shape.{expressions}
use Rattle.spec_meaning.specs.Makes as makes
use Rattle.spec_meaning.specs.Makes.{AreLocals, MakesAll, MakesBlock, MakesBody, inside_call}
use Rattle.call_limits.specs.Nesting.{CallsMacro, Chain}
use Rattle.call_limits.specs.Nesting as nesting
use Rattle.call_limits.proofs.ChainLemmas.{called_less}
use Rattle.checked_spec.specs.inner.Checked.{IsChecked}
use Rattle.checked_spec.specs.Laws.{IsMacro, in_macro}
use Rattle.checked_spec.proofs.BodyLaws.{macros_are_typed}
use Rattle.checked_spec.specs.inner.Inner.{StandsIn}
use Rattle.checked_spec.specs.inner.FlatLaws.{IsTypedCall}
use Rattle.checked_spec.specs.inner.Matches.{HaveTheirTypes, IsTypedAt, Matches}
use Rattle.checked_spec.proofs.SameLemmas.{exactly}
use Rattle.checked_spec.proofs.FunctionAsks.{checked}
use Rattle.checked_spec.proofs.Calls.{declared_count, declared_fits, declared_judged, declared_name}
use Rattle.checked_spec.proofs.Inside.{call_typed}
use Rattle.checked_spec.proofs.FunctionRead.{cons_is, types_count, verdict_is}
use Rattle.checked_spec.proofs.Read.{AreTyped, types_are}
use Rattle.checked_spec.proofs.Scopes.{meaning_declared}
use Rattle.checked_spec.proofs.Within.{argument_stands_in}
use Rattle.equation_marks.specs.Marks.{macro_marks, mark_of}
use Rattle.equation_marks.proofs.CallMarks.{macro_call_marks}
use Rattle.macro_flatten.specs.declared.context.Context.{Context}
use Rattle.macro_flatten.specs.inner.Answers.{AreMade, IsCall, IsMacroMade, IsMadeAt, IsRefusedAfter, marks_all, marks_at, marks_called}
use Rattle.macro_flatten.specs.inner.Here.{Entry, IsContext, IsEntered, MayMakeAll, Site}
use Rattle.macro_flatten.proofs.Made.{refused_after, refused_front, refused_same, typed_long, with_both}
use Rattle.macro_flatten.proofs.Places.{itself_in, part_may, typed_at}

-- ---- the types of arguments
-- a type of a stream
abbrev IsStreamType : ExprType → Type 0
IsStreamType a = (t : ValueType) × (a ≡ expr_type.Stream t)

streams_given : (ps : List tree.Param) (types args : List ExprType) → param_types ps ≡ Some types → ask_each types args ≡ Ok tt → length args ≡ length ps → ((k : ℕ) (p : tree.Param) → slice_get ps k ≡ Some p → (t : ValueType) × (as_written p.of ≡ Some (expr_type.Stream t))) → AllByRecursion IsStreamType args
streams_given ps types [] are fits long all = tt
streams_given [] types (a ∷ args) are fits long all = absurd (omega arith)
streams_given (p ∷ ps) types (a ∷ args) are fits long all =
    let c = cons_is (as_written p.of) (param_types ps) types are in
    let first = subst (λ ts. ask_each ts (a ∷ args) ≡ Ok tt) c.are fits in
    let both = checked (ask (asked.Exactly c.a) a) (ask_each c.rest args) tt first in
    let here = all zero p refl in (
      (here.0, exactly c.a a both.0 ∙ same_Some c.a (expr_type.Stream here.0) (sym c.first ∙ here.1)),
      streams_given ps c.rest args c.more both.1 (omega arith) (λ k q is. all (suc k) q is),
    )

all_streams : (at : Around) (es : List Expr) (args : List ExprType) → AreTyped at es args → AllByRecursion IsStreamType args → AllByRecursion (λ e. (t : ValueType) × (type_of at e ≡ Some (expr_type.Stream t))) es
all_streams at [] args typed streams = tt
all_streams at (e ∷ es) [] typed streams = absurd typed
all_streams at (e ∷ es) (a ∷ args) typed streams = ((streams.0.0, typed.0 ∙ ap (λ v. Some v) streams.0.1), all_streams at es args typed.1 streams.1)

record IsJudged (at : Around) (i : ℕ) (es : Exprs) : Type 0 where
  args : List ExprType
  of : Callee
  are : types_of at es ≡ Some args
  is : callee_at at i ≡ Some of
  fits : ask_each of.params args ≡ Ok tt

judged : (at : Around) (i : ℕ) (es : Exprs) (t : ExprType) → of_verdict (option_and_then (λ ts. call_rule at (declaration.Macro i) ts) (types_of at es)) ≡ Some t → IsJudged at i es
judged at i es t h = by (types_of at es) refl (callee_at at i) refl h
  where
    by : (ts : Option (List ExprType)) → types_of at es ≡ ts → (c : Option Callee) → callee_at at i ≡ c → of_verdict (option_and_then (λ args. option_map (λ c. macro_rule c.params c.result args) c) ts) ≡ Some t → IsJudged at i es
    by (Some args) are (Some c) is h =
        let k = checked (ask_each c.params args) (Ok c.result) t (same_Some (macro_rule c.params c.result args) (Ok t) (verdict_is (Some (macro_rule c.params c.result args)) t h)) in
        record { args = args; of = c; are = are; is = is; fits = k.0 }
    by (Some args) are None is h = absurd (none-some t h)
    by None are c is h = absurd (none-some t h)

callee_params : (ps : Option (List ExprType)) (t : Option ExprType) (c : Callee) → callee_of ps t ≡ Some c → ps ≡ Some c.params
callee_params (Some ps) (Some t) c h = ap (λ x. Some x) (ap (λ (d : Callee). d.params) (same_Some (record { params = ps; result = t }) c h))
callee_params (Some ps) None c h = absurd (none-some c h)
callee_params None t c h = absurd (none-some c h)

expressions_long : (es : Exprs) → length (expressions es) ≡ count es
expressions_long no_exprs = refl
expressions_long (more_exprs e es) = ap suc (expressions_long es)

-- ---- a call in a place of a specification
module _ (site : Site) (is_checked : IsChecked site.items site.kinds) (deep : ℕ) (p : Place) (x : List ℕ) (es : Exprs) (i : ℕ) (call : IsCall site deep p x es i) where
  abbrev whole : Expr
  whole = tree.Call p x es

  abbrev of : ValueType
  of = call.may.of.0

  typed : IsTypedAt site.items site.top site.at site.st whole of
  typed = typed_at site deep whole is_checked call.may

  pub is_macro : may_have_braces (params_of (slice_get site.items i)) ≡ true
  is_macro = meaning_declared site.items site.st.calls x (declaration.Macro i) (ap (λ scope. meaning scope x) (sym typed.matches.scope_is) ∙ call.calls)

  pub the_macro : IsMacro site.items site.kinds i
  the_macro = macros_are_typed site.items site.kinds i is_checked is_macro

  pub many : count es ≡ length (params_of (slice_get site.items i))
  many =
      declared_count site.items i x es
      (ap (λ d. not (call_fits (if is_unit x then None else declared_takes site.items d) (count es))) (sym call.calls)
      ∙ sym (declared_fits site.items site.at.scope x es (declared_name x call.other)) ∙ typed.formed.fits)

  argument_types : AllByRecursion (λ e. (t : ValueType) × (type_of site.at e ≡ Some (expr_type.Stream t))) (expressions es)
  argument_types =
      let verdict = ap (λ d. of_verdict (option_and_then (λ ts. option_and_then (λ e. call_rule site.at e ts) d) (types_of site.at es))) (sym call.calls) ∙ sym (declared_judged site.at p x es (declared_name x call.other)) ∙ typed.is in
      let j = judged site.at i es (expr_type.Stream of) verdict in
      let params = callee_params (param_types (params_of (slice_get site.at.items i))) (site.at.kinds.item i) j.of j.is in
      let written = ap (λ items. param_types (params_of (slice_get items i))) (sym typed.matches.items_are) ∙ params in
      all_streams site.at (expressions es) j.args (types_are site.at es j.args j.are)
      (streams_given (params_of (slice_get site.items i)) j.of.params j.args written j.fits (types_count site.at es j.args j.are ∙ many) the_macro.params)

  pub arguments_may : MayMakeAll site deep (expressions es)
  arguments_may = record {
    each = λ e there.
        let inside = all_at (StandsIn (parts whole)) (expressions es) (argument_stands_in p x es (declared_name x call.other).no_lift) e there in
        let is = all_at (λ e. (t : ValueType) × (type_of site.at e ≡ Some (expr_type.Stream t))) (expressions es) argument_types e there in
        part_may site deep whole call.may e is.0 inside is.1;
  }

  -- the item around calls the macro
  calls_it : CallsMacro site.items site.at.number i
  calls_it =
      let s = call.may.stands (Operand whole) (itself_in whole) in
      record {
        item = s.item;
        is_item = s.is_item;
        seen = s.seen;
        is_body = s.is_body;
        part = Operand whole;
        is_part = s.is_part;
        calls = refl;
        stands_for = ap (λ scope. meaning scope x) s.scope_is ∙ call.calls;
      }

  pub some_left : deep ≡ zero → ⊥
  some_left none =
      call.may.nests i (subst (λ n. Chain (CallsMacro site.items) (suc n) site.at.number i) (sym none) (nesting.Chain.link calls_it nesting.Chain.none))

  abbrev pub entry_of : Entry
  entry_of = record { items = site.items; kinds = site.kinds; top = site.top; st = site.st; arguments = es }

  -- inside of it, where its arguments have their types
  module _ (less : ℕ) (deeper : deep ≡ suc less) (params : List Stream) (theirs : HaveTheirTypes site.at (expressions es) params) where
    pub typed_inside : (locals : List Stream) → AreLocals site.kinds i locals → IsTypedCall site.items site.top site.at site.st i es the_macro.body of params locals
    typed_inside locals are =
        call_typed site.items site.top site.at site.st p x es of i the_macro.body params locals typed call.other call.calls the_macro.body_is theirs
        (subst (λ kinds. AreLocals kinds i locals) (sym call.may.kinds_are) are)

    same_inside : within_block (in_definition site.items site.at.kinds i (params_of (slice_get site.items i))) (block_of (Some the_macro.body)) ≡ in_macro site.items site.kinds i
    same_inside =
        (λ k. within_block (in_definition site.items (call.may.kinds_are k) i (params_of (slice_get site.items i))) (block_of (Some the_macro.body)))
        ∙ sym (λ k. within_block (in_definition site.items site.kinds i (params_of (slice_get site.items i))) (block_of (the_macro.body_is k)))

    pub matches_inside : (locals : List Stream) → AreLocals site.kinds i locals → Matches site.items site.top (in_macro site.items site.kinds i) (inside_call site.items site.top site.st i es params locals)
    matches_inside locals are =
        subst (λ at. Matches site.items site.top at (inside_call site.items site.top site.st i es params locals)) same_inside (typed_inside locals are).inside

    pub nests_inside : (to : ℕ) → Chain (CallsMacro site.items) (suc less) i to → ⊥
    nests_inside =
        called_less site.items site.at.number i less calls_it
        (subst (λ n. (to : ℕ) → Chain (CallsMacro site.items) (suc n) site.at.number to → ⊥) deeper call.may.nests)

    -- its result is of its type
    pub result_inside : (locals : List Stream) → AreLocals site.kinds i locals → site.kinds.item i ≡ Some (expr_type.Stream of)
    result_inside locals are = ap (λ (k : _). k.item i) (sym call.may.kinds_are) ∙ (typed_inside locals are).result

    pub entered : (context : Context) → IsContext context site.items site.kinds site.top → IsEntered context i params less entry_of
    entered context known = record {
      known = known;
      is_macro = is_macro;
      all_given = typed_long site.at (expressions es) params theirs ∙ expressions_long es ∙ many;
      matches = matches_inside;
      nests = nests_inside;
    }

  module _ (less : ℕ) (deeper : deep ≡ suc less) (old mid : System) (params : List Stream) (arguments : AreMade site deep (expressions es) old mid params) where
    -- ---- what is made inside of it
    call_marks : marks_at site deep whole ≡ marks_all site deep (expressions es) ++ macro_marks site.items site.kinds (suc less) i
    call_marks =
        macro_call_marks site.at (marks_called site deep) p x es i call.other call.calls
        ∙ ap (λ n. marks_all site deep (expressions es) ++ macro_marks site.items site.kinds n i) deeper

    pub call_made : (b : tree.Body) (new : System) (s : Stream) → body_of (slice_get site.items i) ≡ Some b → IsMacroMade entry_of i b params less mid new s → IsMadeAt site deep whole old new s
    call_made b new s body_is inside =
        let before = arguments.made in
        let many : length mid.equations ≡ length old.equations + length before = ap (λ (y : System). length y.equations) arguments.new_is ∙ length-append old.equations before in
        let block = subst (λ n. MakesBlock site.items site.kinds site.top (inside_call site.items site.top site.st i es params inside.locals) (block_of (Some b)) n inside.block inside.locals) many inside.makes_block in
        let result = subst (λ n. MakesBody site.items site.kinds site.top (inside_call site.items site.top site.st i es params inside.locals) (result_of b) (n + length inside.block) inside.after s) many inside.makes_result in
        record {
          made = before ++ inside.block ++ inside.after;
          new_is = with_both old mid new before (inside.block ++ inside.after) arguments.new_is inside.new_is ∙ ap (λ made. record old { equations = old.equations ++ made }) (sym (append_assoc before inside.block inside.after));
          makes = makes.Makes.call i params inside.locals b before inside.block inside.after call.other (ap (λ scope. meaning scope x) (sym typed.matches.scope_is) ∙ call.calls) body_is arguments.makes inside.are_locals block result refl;
          marks_are =
              ap (map mark_of) (append_assoc before inside.block inside.after)
              ∙ map-append mark_of before (inside.block ++ inside.after)
              ∙ (λ k. arguments.marks_are k ++ inside.marks_are k)
              ∙ sym call_marks;
          of_is = typed.is ∙ sym (result_inside less deeper params arguments.typed [] (λ k s is. absurd (none-some s is))) ∙ inside.of_is;
        }

    pub inside_refused : (f : MakeFault) → IsRefusedAfter mid (macro_marks site.items site.kinds (suc less) i) f → IsRefusedAfter old (marks_at site deep whole) f
    inside_refused f h =
        refused_same old (marks_all site deep (expressions es) ++ macro_marks site.items site.kinds (suc less) i) (marks_at site deep whole) f (sym call_marks)
        (refused_after old mid arguments.made (marks_all site deep (expressions es)) (macro_marks site.items site.kinds (suc less) i) f arguments.new_is arguments.marks_are h)

  pub arguments_refused : (old : System) (f : MakeFault) → IsRefusedAfter old (marks_all site deep (expressions es)) f → IsRefusedAfter old (marks_at site deep whole) f
  arguments_refused old f h =
      refused_same old (marks_all site deep (expressions es) ++ marks_called site deep i) (marks_at site deep whole) f
      (sym (macro_call_marks site.at (marks_called site deep) p x es i call.other call.calls))
      (refused_front old (marks_all site deep (expressions es)) (marks_called site deep i) f h)
