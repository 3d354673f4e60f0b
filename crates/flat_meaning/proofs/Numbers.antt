-- The number of an expression's stream: that of the last equation that is made, unless it is a name.
use Rattle.std.proofs.Common.{◌≡◌, ℕ, ◌+◌, true, false, List, ◌++◌, length, ap, sym, ◌∙◌, arith, length-append}
use Rattle.std.specs.Prelude.{if◌then◌else◌}
use Rattle.std.proofs.lemmas.Bool.{true≢false}
use Rattle.flat_core.specs.declared.equation.Equation.{Equation}
use Rattle.syntax_tree.specs.Tree as tree
use Rattle.syntax_tree.specs.Tree.{Expr}
use Rattle.type_rules.specs.Kinds.{Kinds}
use Rattle.stream_constructs.specs.declared.construct.Stream.{Stream}
use Rattle.stream_constructs.specs.Agree.{last_number}
use Rattle.spec_meaning.specs.Makes.{Standing, Makes, MakesBody, is_name}
use Rattle.spec_meaning.specs.Makes as makes

-- the last one of two lists after each other
last_after : (n : ℕ) (before after made : List Equation) (s : Stream) → made ≡ before ++ after → s.id ≡ last_number (n + length before) after → s.id ≡ last_number n made
last_after n before after made s is number = let many = ap length is ∙ length-append before after in omega arith

module _ (items : List tree.Item) (kinds : Kinds) (top : ℕ → Stream) where
  mutual
    expr_number : {at : Standing} {e : Expr} {n : ℕ} {made : List Equation} {s : Stream} → Makes items kinds top at e n made s → is_name e ≡ false → s.id ≡ last_number n made
    expr_number (makes.Makes.name d other is stands) none = absurd (true≢false (sym (λ i. if other i then false else true) ∙ none))
    expr_number (makes.Makes.chain one) none = expr_number one none
    expr_number {n = n} {made = made} {s = s} (makes.Makes.own sh parts before after is own no_choice parts_made written fits after_is made_is s_is) none = last_after n before after made s made_is (ap (λ a. a.id) s_is)
    expr_number {n = n} {made = made} {s = s} (makes.Makes.choice sh parts before after is chosen parts_made fits after_is made_is s_is) none = last_after n before after made s made_is (ap (λ a. a.id) s_is)
    expr_number {n = n} {made = made} {s = s} (makes.Makes.call i params locals b before block after other is body arguments typed definitions result made_is) none =
        let number = body_number result in
        let many = ap length made_is ∙ length-append (before ++ block) after in
        let front = length-append before block in
        omega arith

    pub body_number : {at : Standing} {e : Expr} {n : ℕ} {made : List Equation} {s : Stream} → MakesBody items kinds top at e n made s → s.id ≡ last_number n made
    body_number (makes.MakesBody.plain no_name one) = expr_number one no_name
    body_number {n = n} (makes.MakesBody.alias a only_name one made_is s_is) =
        let many = ap length made_is in
        let number = ap (λ (b : Stream). b.id) s_is in
        omega arith
