-- The last of some equations gets a name.
use Rattle.std.proofs.Common.{◌≡◌, ℕ, zero, suc, ◌+◌, ◌-◌, ◌<◌, Bool, true, false, List, [], ◌∷◌, ◌++◌, map, length, Option, Some, None, refl, ap, sym, ◌∙◌, arith, length-append}
use Rattle.std.specs.Prelude.{if◌then◌else◌, slice_get, slice_set}
use Rattle.std.specs.Option.{option_map_or}
use Rattle.std.proofs.lemmas.Bool.{true≢false}
use Rattle.flat_core.specs.declared.equation.Equation.{Equation}
use Rattle.flat_core.specs.System.{System, with_name}
use Rattle.syntax_tree.specs.Tree as tree
use Rattle.syntax_tree.specs.Tree.{Expr, no_links, place_of}
use Rattle.name_check.specs.Builtin.{is_unit}
use Rattle.expr_types.specs.Around.{Around}
use Rattle.type_rules.specs.Kinds.{Kinds}
use Rattle.stream_constructs.specs.declared.construct.Stream.{Stream}
use Rattle.stream_constructs.specs.Construct as construct
use Rattle.stream_constructs.specs.Made.{with_equations}
use Rattle.spec_meaning.specs.Makes.{Makes, MakesBody, Standing, choice_operands, is_name, with_itself}
use Rattle.spec_meaning.specs.Makes as makes
use Rattle.spec_meaning.specs.Flat.{named}
use Rattle.flat_meaning.proofs.OwnEquations.{choice_some, own_some}
use Rattle.equation_marks.specs.Marks.{Mark, mark_of, marks, own_marks}

-- ---- in a list
abbrev with_name_at : List Equation → ℕ → List ℕ → List Equation
with_name_at es i x = option_map_or (λ e. slice_set es i (record e { name = Some x })) (slice_get es i) es

name_after : (e : Equation) (es : List Equation) (i : ℕ) (x : List ℕ) → with_name_at (e ∷ es) (suc i) x ≡ e ∷ with_name_at es i x
name_after e es i x = by (slice_get es i)
  where
    by : (o : Option Equation) → option_map_or (λ d. e ∷ slice_set es i (record d { name = Some x })) o (e ∷ es) ≡ e ∷ option_map_or (λ d. slice_set es i (record d { name = Some x })) o es
    by None = refl
    by (Some d) = refl

last_named : (es : List Equation) (i : ℕ) (x : List ℕ) → suc i ≡ length es → with_name_at es i x ≡ named x es
last_named [] i x last = absurd (omega arith)
last_named (e ∷ []) zero x last = refl
last_named (e ∷ []) (suc i) x last = absurd (omega arith)
last_named (d ∷ e ∷ es) zero x last = absurd (omega arith)
last_named (d ∷ e ∷ es) (suc i) x last = name_after d (e ∷ es) i x ∙ ap (λ l. d ∷ l) (last_named (e ∷ es) i x (omega arith))

named_after : (es fs : List Equation) (i : ℕ) (x : List ℕ) → suc i ≡ length es + length fs → 0 < length fs → with_name_at (es ++ fs) i x ≡ es ++ named x fs
named_after [] fs i x last some = last_named fs i x (omega arith)
named_after (e ∷ es) fs zero x last some = absurd (omega arith)
named_after (e ∷ es) fs (suc i) x last some = name_after e (es ++ fs) i x ∙ ap (λ l. e ∷ l) (named_after es fs i x (omega arith) some)

-- in a system: the last of those that were made
pub with_named : (s mid new : System) (made : List Equation) (x : List ℕ) → mid ≡ with_equations s made → 0 < length made → new ≡ with_name mid (length mid.equations - 1) x → new ≡ with_equations s (named x made)
with_named s mid new made x is some named_is =
    let many : length mid.equations ≡ length s.equations + length made = ap (λ (t : System). length t.equations) is ∙ length-append s.equations made in
    let last : suc (length mid.equations - 1) ≡ length s.equations + length made = omega arith in
    named_is
    ∙ ap (λ t. with_name t (length mid.equations - 1) x) is
    ∙ ap (λ es. record s { equations = es }) (named_after s.equations made (length mid.equations - 1) x last some)

-- ---- an expression makes something, unless it is a name
module _ (items : List tree.Item) (kinds : Kinds) (top : ℕ → Stream) where
  after_some : (before after made : List Equation) → made ≡ before ++ after → 0 < length after → 0 < length made
  after_some before after made is some = let many = ap length is ∙ length-append before after in omega arith

  mutual
    pub makes_some : {at : Standing} {e : Expr} {n : ℕ} {made : List Equation} {s : Stream} → Makes items kinds top at e n made s → is_name e ≡ false → 0 < length made
    makes_some (makes.Makes.name d other is stands) none = absurd (true≢false (sym (λ i. if other i then false else true) ∙ none))
    makes_some (makes.Makes.chain one) none = makes_some one none
    makes_some {e = e} {n = n} {made = made} (makes.Makes.own sh parts before after {of} is own no_choice parts_made written fits after_is made_is s_is) none =
        let some = own_some (place_of e) of (n + length before) sh.construct (with_itself sh.construct (n + length before) parts) fits in
        let many = ap length after_is in
        after_some before after made made_is (omega arith)
    makes_some {e = e} {n = n} {made = made} (makes.Makes.choice sh parts before after {of} is chosen parts_made fits after_is made_is s_is) none =
        let some = choice_some (place_of e) of (n + length before) (choice_operands e) parts in
        let many = ap length after_is in
        after_some before after made made_is (omega arith)
    makes_some {made = made} (makes.Makes.call i params locals b before block after other is body arguments typed definitions result made_is) none =
        after_some (before ++ block) after made made_is (body_some result)

    pub body_some : {at : Standing} {e : Expr} {n : ℕ} {made : List Equation} {s : Stream} → MakesBody items kinds top at e n made s → 0 < length made
    body_some (makes.MakesBody.plain no_name one) = makes_some one no_name
    body_some (makes.MakesBody.alias a only_name one made_is s_is) = let many = ap length made_is in omega arith

-- ---- a name makes nothing
pub name_marks : (at : Around) (call : ℕ → List Mark) (e : Expr) → is_name e ≡ true → marks at call e ≡ []
name_marks at call (tree.Name p n) is = by (is_unit n) is
  where
    by : (b : Bool) → (if b then false else true) ≡ true → (if b then own_marks p construct.Unit 0 else []) ≡ []
    by true h = absurd (true≢false (sym h))
    by false h = refl
name_marks at call (tree.Chain p l e no_links) is = name_marks at call e is
name_marks at call e is = absurd (true≢false (sym is))

-- no marks are those of no equations
pub no_equations : (made : List Equation) → map mark_of made ≡ [] → made ≡ []
no_equations [] none = refl
no_equations (e ∷ made) none = absurd (cc)
