-- The stream of an expression is that of an equation of its type.
use Rattle.std.proofs.Common.{◌≡◌, ℕ, ◌+◌, true, false, List, ◌++◌, length, Some, refl, sym, subst, ◌∙◌, arith, length-append}
use Rattle.std.specs.Prelude.{slice_get, if◌then◌else◌}
use Rattle.std.specs.List.{AllByRecursion}
use Rattle.std.proofs.lemmas.Bool.{true≢false}
use Rattle.tsl_value.specs.declared.scalar.ValueType.{ValueType}
use Rattle.flat_core.specs.declared.equation.Equation.{Equation}
use Rattle.flat_core.specs.System.{System}
use Rattle.flat_core.specs.TypedSystem.{IsOfType}
use Rattle.syntax_tree.specs.Tree as tree
use Rattle.syntax_tree.specs.Tree.{Expr, place_of}
use Rattle.name_check.specs.declared.declaration.Declaration.{Declaration}
use Rattle.name_check.specs.Scope.{meaning}
use Rattle.type_rules.specs.Kinds.{Kinds}
use Rattle.stream_constructs.specs.declared.construct.Stream.{Stream}
use Rattle.stream_constructs.specs.Equations.{alias_equation}
use Rattle.spec_meaning.specs.Occurrence.{scope_at}
use Rattle.spec_meaning.specs.Makes.{Standing, Stands, Makes, MakesAll, MakesBody, MakesBlock, last_of, with_itself, is_name, choice_operands}
use Rattle.spec_meaning.specs.Makes as makes
use Rattle.tsl_value.proofs.Lists.{all_by_place}
use Rattle.flat_meaning.proofs.Plain.{plain, Within, within_left, within_right}
use Rattle.flat_meaning.proofs.Scopes.{IsInputItem, IsStreamItem, IsRight, meaning_right}
use Rattle.flat_meaning.proofs.Endings.{EndsWith, own_ends, choice_ends, ends_there}

module _ (items : List tree.Item) (kinds : Kinds) (top : ℕ → Stream) (s : System) where
  -- an equation of its type stands at its number
  abbrev pub IsThere : Stream → Type 0
  IsThere a = IsOfType (plain s).equations a.id a.of

  abbrev pub AreThere : List Stream → Type 0
  AreThere streams = AllByRecursion IsThere streams

  -- the stream for which a name stands
  abbrev NameIsThere : Standing → Expr → Stream → Type 0
  NameIsThere at e a = is_name e ≡ true → (x : List ℕ) (d : Declaration) → meaning (scope_at items at.calls) x ≡ Some d → Stands items top at d a → IsThere a

  after_there : (n : ℕ) (before after made : List Equation) (of : ValueType) (a : Stream) → EndsWith after of → made ≡ before ++ after → a ≡ last_of (n + length before) after of → Within s n made → IsThere a
  after_there n before after made of a e made_is a_is within =
      subst IsThere (sym a_is) (ends_there s (n + length before) after of e (within_right s n before after (subst (Within s n) made_is within)))

  mutual
    expr_there : {at : Standing} {e : Expr} {n : ℕ} {made : List Equation} {a : Stream} → NameIsThere at e a → Makes items kinds top at e n made a → Within s n made → IsThere a
    expr_there named (makes.Makes.name {x = x} d other is stands) within = named (λ i. if other i then false else true) x d is stands
    expr_there named (makes.Makes.chain one) within = expr_there named one within
    expr_there {e = e} {n = n} {made = made} {a = a} named (makes.Makes.own sh parts before after {of} is own no_choice parts_made written fits after_is made_is a_is) within =
        let m = n + length before in
        after_there n before after made of a (subst (λ xs. EndsWith xs of) (sym after_is) (own_ends (place_of e) of m sh.construct (with_itself sh.construct m parts) fits)) made_is a_is within
    expr_there {e = e} {n = n} {made = made} {a = a} named (makes.Makes.choice sh parts before after {of} is chosen parts_made fits after_is made_is a_is) within =
        after_there n before after made of a (subst (λ xs. EndsWith xs of) (sym after_is) (choice_ends (place_of e) of (n + length before) (choice_operands e) parts)) made_is a_is within
    expr_there {n = n} named (makes.Makes.call i params locals b before block after other is body arguments typed definitions result made_is) within =
        let number : n + length (before ++ block) ≡ n + length before + length block = omega (arith, length-append before block) in
        body_there result (subst (λ m. Within s m after) number (within_right s n (before ++ block) after (subst (Within s n) made_is within)))

    pub body_there : {at : Standing} {e : Expr} {n : ℕ} {made : List Equation} {a : Stream} → MakesBody items kinds top at e n made a → Within s n made → IsThere a
    body_there (makes.MakesBody.plain no_name one) within = expr_there (λ is x d _ _. absurd (true≢false (sym is ∙ no_name))) one within
    body_there {e = e} {n = n} {a = b} (makes.MakesBody.alias a only_name one made_is b_is) within =
        let first : n + 0 ≡ n = omega arith in
        let there = subst (λ i. slice_get (plain s).equations i ≡ Some (alias_equation (place_of e) a)) first (subst (Within s n) made_is within 0 (alias_equation (place_of e) a) refl) in
        subst IsThere (sym b_is) (record { at = alias_equation (place_of e) a; is = there; of_is = refl })

  pub block_there : {at : Standing} {ds : tree.Definitions} {n : ℕ} {made : List Equation} {locals : List Stream} → MakesBlock items kinds top at ds n made locals → Within s n made → AreThere locals
  block_there makes.MakesBlock.no_definition within = tt
  block_there {n = n} (makes.MakesBlock.definition first rest one more made_is) within =
      let both = subst (Within s n) made_is within in
      (body_there one (within_left s n first rest both), block_there more (within_right s n first rest both))

  -- ---- where the streams are known for which names stand
  pub record AreKnown (at : Standing) : Type 0 where
    pub params : AreThere at.params
    pub locals : AreThere at.locals

  pub record IsTopThere : Type 0 where
    pub inputs : (i : ℕ) → IsInputItem (slice_get items i) → IsThere (top i)
    pub streams : (i : ℕ) → IsStreamItem (slice_get items i) → IsThere (top i)

  stands_there : {at : Standing} {d : Declaration} {a : Stream} → IsTopThere → AreKnown at → IsRight items d → Stands items top at d a → IsThere a
  stands_there tops known right (makes.Stands.input {i}) = tops.inputs i right
  stands_there tops known right (makes.Stands.stream {i}) = tops.streams i right
  stands_there {at} {a = a} tops known right (makes.Stands.parameter {k} is) = all_by_place IsThere at.params known.params k a is
  stands_there {at} {a = a} tops known right (makes.Stands.local {k} is) = all_by_place IsThere at.locals known.locals k a is

  pub made_there : {at : Standing} {e : Expr} {n : ℕ} {made : List Equation} {a : Stream} → IsTopThere → AreKnown at → Makes items kinds top at e n made a → Within s n made → IsThere a
  made_there {at} tops known one within = expr_there (λ _ x d is stands. stands_there tops known (meaning_right items at.calls x d is) stands) one within

  pub all_there : {at : Standing} {es : List Expr} {n : ℕ} {made : List Equation} {parts : List Stream} → IsTopThere → AreKnown at → MakesAll items kinds top at es n made parts → Within s n made → AreThere parts
  all_there tops known makes.MakesAll.no_part within = tt
  all_there {n = n} tops known (makes.MakesAll.part first rest one more made_is) within =
      let both = subst (Within s n) made_is within in
      (made_there tops known one (within_left s n first rest both), all_there tops known more (within_right s n first rest both))
