-- The equations of a derivation are well typed and have short texts.
use Rattle.std.proofs.Common.{◌≡◌, ℕ, ◌+◌, List, [], ◌∷◌, ◌++◌, length, Some, refl, ap, sym, subst, arith, length-append}
use Rattle.std.specs.List.{AllByRecursion}
use Rattle.std.proofs.lemmas.Bool.{and_parts}
use Rattle.std.proofs.lemmas.Option.{none-some}
use Rattle.tsl_value.specs.declared.place.Place.{Place}
use Rattle.tsl_value.specs.declared.scalar.ValueType.{ValueType}
use Rattle.flat_core.specs.declared.equation.Equation.{Equation}
use Rattle.flat_core.specs.Complete.{HasShortBody}
use Rattle.flat_core.specs.System.{System}
use Rattle.tsl_value.specs.Aggregate.{is_aggregate}
use Rattle.flat_core.specs.Typed.{unit_type}
use Rattle.flat_core.specs.TypedSystem.{IsTypedEquation}
use Rattle.flat_core.proofs.Members.{all_append, all_map}
use Rattle.flat_core.proofs.Uniqueness.{all_with}
use Rattle.syntax_tree.specs.Tree as tree
use Rattle.syntax_tree.specs.Tree.{Expr, place_of}
use Rattle.name_check.specs.Scope.{functions_of, top}
use Rattle.type_rules.specs.Kinds.{Kinds}
use Rattle.stream_constructs.specs.declared.construct.Stream.{Stream}
use Rattle.stream_constructs.specs.Construct.{Construct, Operand}
use Rattle.stream_constructs.specs.Construct as construct
use Rattle.stream_constructs.specs.Equations.{own_equations, choice_equations, alias_equation}
use Rattle.stream_constructs.specs.Agree.{Fits, FitsChoice, last_number}
use Rattle.spec_meaning.specs.Occurrence.{Occurrence, block_of}
use Rattle.spec_meaning.specs.Makes.{Standing, Makes, MakesAll, MakesBody, MakesBlock, inside_call, is_own, is_choice, with_itself, choice_operands}
use Rattle.spec_meaning.specs.Makes as makes
use Rattle.flat_meaning.proofs.Built.{TheLaws, is_itself, one_number, nameless}
use Rattle.flat_meaning.proofs.OwnEquations.{own_made, choice_made, delay_own}
use Rattle.flat_meaning.proofs.Plain.{plain, Within, within_left, within_right, stands}
use Rattle.spec_meaning.proofs.Names.{no_builtin}
use Rattle.flat_meaning.proofs.Shapes.{choice_construct}
use Rattle.flat_meaning.proofs.Endings.{own_ends, ends_there}
use Rattle.flat_meaning.proofs.ShortTexts.{ShortExpr, ShortBody, ShortDefinitions, exprs_short, result_short, AreBodiesShort}
use Rattle.flat_meaning.proofs.ShortFunctions.{HasNoLift}
use Rattle.flat_meaning.proofs.ShortShapes.{ShortConstruct, ShortOperands, is_short, choice_operands_short}
use Rattle.flat_meaning.proofs.ShortEquations.{own_short, choice_short}
use Rattle.flat_meaning.proofs.Streams.{IsThere, AreThere, AreKnown, IsTopThere, block_there, made_there, all_there}

delay_type : (parts : List Stream) (of : ValueType) → Fits construct.Delay parts of → of ≡ unit_type
delay_type (d ∷ r ∷ x ∷ []) of fits = fits.0
delay_type [] of fits = absurd fits
delay_type (d ∷ []) of fits = absurd fits
delay_type (d ∷ r ∷ []) of fits = absurd fits
delay_type (d ∷ r ∷ x ∷ y ∷ parts) of fits = absurd fits

block_short : (b : tree.Body) → ShortBody b → ShortDefinitions (block_of (Some b))
block_short (tree.Plain e) h = tt
block_short (tree.Block ds e) h = h.0

module _ (items : List tree.Item) (kinds : Kinds) (at_top : ℕ → Stream) (s : System) (laws : TheLaws) where
  -- an equation is as a complete system asks
  pub record IsGood (e : Equation) : Type 0 where
    pub typed : IsTypedEquation (plain s).equations e
    pub short : HasShortBody e.op

  abbrev pub AreGood : List Equation → Type 0
  AreGood made = AllByRecursion IsGood made

  both_good : (own : List Equation) → AllByRecursion (IsTypedEquation (plain s).equations) own → AllByRecursion (λ e. HasShortBody e.op) own → AreGood own
  both_good own typed short = all_with (IsTypedEquation (plain s).equations) (λ e. HasShortBody e.op) IsGood (λ e t h. record { typed = t; short = h }) own typed short

  -- the streams of a delay are those of its parts and its own
  itself_there : (c : Construct) (p : Place) (of : ValueType) (m : ℕ) (parts : List Stream) → Fits c (with_itself c m parts) of → Within s m (own_equations p of m c (with_itself c m parts)) → AreThere items kinds at_top s parts → AreThere items kinds at_top s (with_itself c m parts)
  itself_there construct.Delay p of m parts fits within there =
      let streams : List Stream = with_itself construct.Delay m parts in
      let own : List Equation = own_equations p of m construct.Delay streams in
      let here = ends_there s m own of (own_ends p of m construct.Delay streams fits) within in
      let number = one_number m own (delay_own p of m construct.Delay streams fits refl) in
      all_append (IsThere items kinds at_top s) parts (record { id = m; of = unit_type } ∷ []) there
      (subst (λ i. IsThere items kinds at_top s (record { id = i; of = unit_type })) number (subst (λ t. IsThere items kinds at_top s (record { id = last_number m own; of = t })) (delay_type streams of fits) here), tt)
  itself_there c p of m parts fits within there = there

  own_good : (p : Place) (of : ValueType) (m : ℕ) (c : Construct) (parts : List Stream) → Fits c (with_itself c m parts) of → Within s m (own_equations p of m c (with_itself c m parts)) → AreThere items kinds at_top s parts → ShortConstruct c → AreGood (own_equations p of m c (with_itself c m parts))
  own_good p of m c parts fits within there short =
      let streams : List Stream = with_itself c m parts in
      let own : List Equation = own_equations p of m c streams in
      let hang = laws.constructs_hang c p of m streams (plain s) fits (is_itself c m parts) (stands s m own within (nameless c p own (own_made p of m c streams))) in
      both_good own (hang.typed (itself_there c p of m parts fits within there)) (own_short p of m c streams short)

  choice_good : (p : Place) (of : ValueType) (m : ℕ) (os : List Operand) (parts : List Stream) → FitsChoice os parts of → Within s m (choice_equations p of m os parts) → AreThere items kinds at_top s parts → ShortOperands os → AreGood (choice_equations p of m os parts)
  choice_good p of m os parts fits within there short =
      let own : List Equation = choice_equations p of m os parts in
      let hang = laws.choices_hang p of m os parts (plain s) fits (stands s m own within (nameless construct.Nil p own (choice_made construct.Nil p of m os parts))) in
      both_good own (hang.typed there) (choice_short p of m os parts short)

  alias_good : (p : Place) (m : ℕ) (a : Stream) → IsThere items kinds at_top s a → Within s m (alias_equation p a ∷ []) → AreGood (alias_equation p a ∷ [])
  alias_good p m a there within =
      let own : List Equation = alias_equation p a ∷ [] in
      let hang = laws.aliases_hang p m a (plain s) (stands s m own within (record { nameless = refl }, tt)) in
      both_good own (hang.typed (there, tt)) (tt, tt)

  module _ (tops : IsTopThere items kinds at_top s) (bodies : AreBodiesShort items) (no_lift : HasNoLift (functions_of (top items))) where
    mutual
      pub made_good : {at : Standing} {e : Expr} {n : ℕ} {made : List Equation} {a : Stream} → AreKnown items kinds at_top s at → ShortExpr e → Makes items kinds at_top at e n made a → Within s n made → AreGood made
      made_good known short (makes.Makes.name d other is stands) within = tt
      made_good known short (makes.Makes.chain one) within = made_good known short.0 one within
      made_good {at} {e} {n} known short (makes.Makes.own sh parts before after {of} is own no_choice parts_made written fits after_is made_is a_is) within =
          let both = subst (Within s n) made_is within in
          let front = within_left s n before after both in
          let m = n + length before in
          let has = is_short items bodies no_lift at.calls e sh short is in
          let there = all_there items kinds at_top s tops known parts_made front in
          let parts_good = all_good known (all_map (λ (o : Occurrence). o.expr) ShortExpr sh.parts (has.parts own)) parts_made front in
          let good = own_good (place_of e) of m sh.construct parts fits (subst (Within s m) after_is (within_right s n before after both)) there has.construct in
          subst AreGood (sym made_is) (all_append IsGood before after parts_good (subst AreGood (sym after_is) good))
      made_good {at} {e} {n} known short (makes.Makes.choice sh parts before after {of} is chosen parts_made fits after_is made_is a_is) within =
          let both = subst (Within s n) made_is within in
          let front = within_left s n before after both in
          let m = n + length before in
          let has = is_short items bodies no_lift at.calls e sh short is in
          let there = all_there items kinds at_top s tops known parts_made front in
          let same = choice_construct items at.calls e sh (and_parts (is_choice e) (is_aggregate of) chosen).0 is in
          let parts_good = all_good known (all_map (λ (o : Occurrence). o.expr) ShortExpr sh.parts (has.parts (ap is_own same))) parts_made front in
          let good = choice_good (place_of e) of m (choice_operands e) parts fits (subst (Within s m) after_is (within_right s n before after both)) there (choice_operands_short e short) in
          subst AreGood (sym made_is) (all_append IsGood before after parts_good (subst AreGood (sym after_is) good))
      made_good {at} {n = n} known short (makes.Makes.call {x = x} {es = es} i params locals b before block after other is body arguments typed definitions result made_is) within =
          let all = subst (Within s n) made_is within in
          let front = within_left s n (before ++ block) after all in
          let number : n + length (before ++ block) ≡ n + length before + length block = omega (arith, length-append before block) in
          let first = within_left s n before block front in
          let second = within_right s n before block front in
          let last = subst (λ m. Within s m after) number (within_right s n (before ++ block) after all) in
          let inside : AreKnown items kinds at_top s (inside_call items at_top at i es params locals) = record { params = all_there items kinds at_top s tops known arguments first; locals = block_there items kinds at_top s definitions second } in
          let short_body = bodies.body i b body in
          let short_arguments = exprs_short es (short.1 (no_builtin x other).no_lift) in
          subst AreGood (sym made_is)
          (all_append IsGood (before ++ block) after
          (all_append IsGood before block (all_good known short_arguments arguments first) (block_good inside (block_short b short_body) definitions second))
          (body_good inside (result_short b short_body) result last))

      all_good : {at : Standing} {es : List Expr} {n : ℕ} {made : List Equation} {parts : List Stream} → AreKnown items kinds at_top s at → AllByRecursion ShortExpr es → MakesAll items kinds at_top at es n made parts → Within s n made → AreGood made
      all_good known short makes.MakesAll.no_part within = tt
      all_good {n = n} known short (makes.MakesAll.part first rest one more made_is) within =
          let both = subst (Within s n) made_is within in
          subst AreGood (sym made_is) (all_append IsGood first rest (made_good known short.0 one (within_left s n first rest both)) (all_good known short.1 more (within_right s n first rest both)))

      pub body_good : {at : Standing} {e : Expr} {n : ℕ} {made : List Equation} {a : Stream} → AreKnown items kinds at_top s at → ShortExpr e → MakesBody items kinds at_top at e n made a → Within s n made → AreGood made
      body_good known short (makes.MakesBody.plain no_name one) within = made_good known short one within
      body_good {e = e} {n = n} known short (makes.MakesBody.alias a only_name one made_is a_is) within =
          let there = made_there items kinds at_top s tops known one (λ k f is. absurd (none-some f is)) in
          subst AreGood (sym made_is) (alias_good (place_of e) n a there (subst (Within s n) made_is within))

      block_good : {at : Standing} {ds : tree.Definitions} {n : ℕ} {made : List Equation} {locals : List Stream} → AreKnown items kinds at_top s at → ShortDefinitions ds → MakesBlock items kinds at_top at ds n made locals → Within s n made → AreGood made
      block_good known short makes.MakesBlock.no_definition within = tt
      block_good {n = n} known short (makes.MakesBlock.definition {b = b} first rest one more made_is) within =
          let both = subst (Within s n) made_is within in
          subst AreGood (sym made_is) (all_append IsGood first rest (body_good known (result_short b short.0) one (within_left s n first rest both)) (block_good known short.1 more (within_right s n first rest both)))
