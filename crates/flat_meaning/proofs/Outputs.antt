-- The outputs and their equations.
use Rattle.std.proofs.Common.{◌≡◌, ℕ, ◌<◌, false, ◌||◌, List, [], ◌∷◌, ◌++◌, length, refl, ap, sym, subst, ◌∙◌, append-nil, arith}
use Rattle.std.specs.List.{AllByRecursion, Contains, list_any}
use Rattle.std.specs.Str.{bytes_eq}
use Rattle.std.proofs.lemmas.Bool.{true≢false, or_parts}
use Rattle.std.proofs.lemmas.List.{length-map}
use Rattle.std.proofs.lemmas.List.Folds.{list_any-append}
use Rattle.std.proofs.lemmas.Option.{slice_get_within}
use Rattle.std.proofs.lemmas.Slice.Eq.{bytes_eq-Decides}
use Rattle.tsl_value.specs.declared.place.Place.{Place}
use Rattle.flat_core.specs.declared.equation.Equation.{Equation}
use Rattle.flat_core.specs.declared.equation.Output.{Output}
use Rattle.flat_core.specs.Complete.{HaveDifferentNames}
use Rattle.flat_core.specs.System.{System}
use Rattle.flat_core.proofs.Members.{all_append, contains_head, contains_tail}
use Rattle.flat_core.proofs.Uniqueness.{all_by}
use Rattle.syntax_tree.specs.Tree as tree
use Rattle.syntax_tree.specs.Tree.{Expr}
use Rattle.name_check.specs.Scope.{functions_of, top}
use Rattle.form_check.specs.Outputs.{printed_again, twice_after}
use Rattle.type_rules.specs.Kinds.{Kinds}
use Rattle.stream_constructs.specs.declared.construct.Stream.{Stream}
use Rattle.spec_meaning.specs.Due.{outputs_of}
use Rattle.spec_meaning.specs.Flat.{named, MakesPrinted, MakesOutputs}
use Rattle.spec_meaning.specs.Flat as flat
use Rattle.tsl_value.proofs.Lists.{append_empty}
use Rattle.flat_meaning.proofs.Built.{TheLaws}
use Rattle.flat_meaning.proofs.Plain.{plain, unnamed, Within, within_left, within_right, within_named}
use Rattle.flat_meaning.proofs.ShortTexts.{AreBodiesShort, ShortExpr}
use Rattle.flat_meaning.proofs.ShortFunctions.{HasNoLift}
use Rattle.flat_meaning.proofs.Streams.{IsThere, IsTopThere, made_there}
use Rattle.flat_meaning.proofs.Derived.{IsGood, AreGood, made_good}
use Rattle.flat_meaning.proofs.Items.{not_placed, named_good, nowhere}

-- the expressions of outputs have short texts
pub record AreOutputsShort (rest : List tree.Item) : Type 0 where
  pub each : (p q : Place) (e : Expr) (n : List ℕ) → Contains rest (tree.OutputAs p e q n) → ShortExpr e

others_short : (item : tree.Item) (rest : List tree.Item) → AreOutputsShort (item ∷ rest) → AreOutputsShort rest
others_short item rest h = record { each = λ p q e n there. h.each p q e n (contains_tail item rest _ there) }

-- ---- as many as the source has, with its names
module _ (items : List tree.Item) (kinds : Kinds) (at_top : ℕ → Stream) where
  pub outputs_count : {rest : List tree.Item} {n : ℕ} {made : List Equation} {outs : List Output} → MakesOutputs items kinds at_top rest n made outs → length outs ≡ length (outputs_of rest)
  outputs_count flat.MakesOutputs.end = refl
  outputs_count (flat.MakesOutputs.output a first made outs one more all_is printed_is) = let rest = outputs_count more in let here = ap length printed_is in omega arith
  outputs_count (flat.MakesOutputs.output_as a first made outs one more all_is printed_is) = let rest = outputs_count more in let here = ap length printed_is in omega arith
  outputs_count (flat.MakesOutputs.input more) = outputs_count more
  outputs_count (flat.MakesOutputs.defined more) = outputs_count more

  -- no output has one of the names before, and no two have the same
  record Differ (before : List (List ℕ)) (outs : List Output) : Type 0 where
    from : AllByRecursion (λ o. list_any (bytes_eq o.name) before ≡ false) outs
    among : HaveDifferentNames outs

  two_parts : (before : List (List ℕ)) (x : List ℕ) (o : Output) → list_any (bytes_eq o.name) (before ++ x ∷ []) ≡ false → (list_any (bytes_eq o.name) before ≡ false) × ¬ (o.name ≡ x)
  two_parts before x o none =
      let both = or_parts (list_any (bytes_eq o.name) before) (bytes_eq o.name x || false) (sym (list_any-append (bytes_eq o.name) before (x ∷ [])) ∙ none) in
      (both.0, λ same. true≢false (sym ((bytes_eq-Decides o.name x).1 same) ∙ (or_parts (bytes_eq o.name x) false both.1).0))

  one_differs : (before : List (List ℕ)) (p : Place) (x : List ℕ) (a : Stream) (outs printed : List Output) → printed_again before p x ≡ [] → printed ≡ record { name = x; equation = a.id } ∷ outs → Differ (before ++ x ∷ []) outs → Differ before printed
  one_differs before p x a outs printed none printed_is rest =
      subst (Differ before) (sym printed_is) (record {
        from = (not_placed (list_any (bytes_eq x) before) p none, all_by _ _ (λ o h. (two_parts before x o h).0) outs rest.from);
        among = (all_by _ _ (λ o h. (two_parts before x o h).1) outs rest.from, rest.among);
      })

  outputs_differ : {rest : List tree.Item} {n : ℕ} {made : List Equation} {outs : List Output} (before : List (List ℕ)) → twice_after before rest ≡ [] → MakesOutputs items kinds at_top rest n made outs → Differ before outs
  outputs_differ before none flat.MakesOutputs.end = record { from = tt; among = tt }
  outputs_differ {outs = printed} before none (flat.MakesOutputs.output {p = p} {x = x} {rest = rest} a first made outs one more all_is printed_is) =
      let both = append_empty (printed_again before p x) (twice_after (before ++ x ∷ []) rest) none in
      one_differs before p x a outs printed both.0 printed_is (outputs_differ (before ++ x ∷ []) both.1 more)
  outputs_differ {outs = printed} before none (flat.MakesOutputs.output_as {p = p} {x = x} {rest = rest} a first made outs one more all_is printed_is) =
      let both = append_empty (printed_again before p x) (twice_after (before ++ x ∷ []) rest) none in
      one_differs before p x a outs printed both.0 printed_is (outputs_differ (before ++ x ∷ []) both.1 more)
  outputs_differ before none (flat.MakesOutputs.input {rest = rest} more) = outputs_differ before (subst (λ xs. twice_after xs rest ≡ []) (append-nil before) none) more
  outputs_differ before none (flat.MakesOutputs.defined {rest = rest} more) = outputs_differ before (subst (λ xs. twice_after xs rest ≡ []) (append-nil before) none) more

  pub names_differ : {rest : List tree.Item} {n : ℕ} {made : List Equation} {outs : List Output} → twice_after [] rest ≡ [] → MakesOutputs items kinds at_top rest n made outs → HaveDifferentNames outs
  names_differ none makes = (outputs_differ [] none makes).among

-- ---- their equations
module _ (items : List tree.Item) (kinds : Kinds) (at_top : ℕ → Stream) (s : System) (laws : TheLaws) (tops : IsTopThere items kinds at_top s) (bodies : AreBodiesShort items) (no_lift : HasNoLift (functions_of (top items))) where
  abbrev AllGood : List Equation → Type 0
  AllGood made = AreGood items kinds at_top s laws made

  abbrev IsWithin : Output → Type 0
  IsWithin o = o.equation < length s.equations

  there_within : (a : Stream) → IsThere items kinds at_top s a → a.id < length s.equations
  there_within a there = subst (λ m. a.id < m) (length-map s.equations unnamed) (slice_get_within (plain s).equations a.id there.at there.is)

  record IsPrintedWell (made : List Equation) (a : Stream) : Type 0 where
    good : AllGood made
    there : IsThere items kinds at_top s a

  printed_well : {e : Expr} {x : List ℕ} {n : ℕ} {made : List Equation} {a : Stream} → ShortExpr e → MakesPrinted items kinds at_top e x n made a → Within s n made → IsPrintedWell made a
  printed_well short (flat.MakesPrinted.name only_name one) within =
      record { good = tt; there = made_there items kinds at_top s tops (nowhere items kinds at_top s laws) one within }
  printed_well {x = x} {n = n} short (flat.MakesPrinted.plain made no_name one all_is) within =
      let here = within_named s n x made (subst (Within s n) all_is within) in
      record {
        good = subst AllGood (sym all_is) (named_good items kinds at_top s laws x made (made_good items kinds at_top s laws tops bodies no_lift (nowhere items kinds at_top s laws) short one here));
        there = made_there items kinds at_top s tops (nowhere items kinds at_top s laws) one here;
      }

  pub record AreOutputsGood (made : List Equation) (outs : List Output) : Type 0 where
    pub good : AllGood made
    pub there : AllByRecursion IsWithin outs

  one_more : (x : List ℕ) (a : Stream) (first made all : List Equation) (outs printed : List Output) → all ≡ first ++ made → printed ≡ record { name = x; equation = a.id } ∷ outs → IsPrintedWell first a → AreOutputsGood made outs → AreOutputsGood all printed
  one_more x a first made all outs printed all_is printed_is one more = record {
    good = subst AllGood (sym all_is) (all_append (IsGood items kinds at_top s laws) first made one.good more.good);
    there = subst (AllByRecursion IsWithin) (sym printed_is) (there_within a one.there, more.there);
  }

  pub outputs_good : {rest : List tree.Item} {n : ℕ} {made : List Equation} {outs : List Output} → AreOutputsShort rest → MakesOutputs items kinds at_top rest n made outs → Within s n made → AreOutputsGood made outs
  outputs_good short flat.MakesOutputs.end within = record { good = tt; there = tt }
  outputs_good {n = n} {made = all} {outs = printed} short (flat.MakesOutputs.output {p = p} {q = q} {x = x} {rest = rest} a first made outs one more all_is printed_is) within =
      let both = subst (Within s n) all_is within in
      one_more x a first made all outs printed all_is printed_is (printed_well tt one (within_left s n first made both)) (outputs_good (others_short (tree.Output p q x) rest short) more (within_right s n first made both))
  outputs_good {n = n} {made = all} {outs = printed} short (flat.MakesOutputs.output_as {p = p} {q = q} {e = e} {x = x} {rest = rest} a first made outs one more all_is printed_is) within =
      let both = subst (Within s n) all_is within in
      let here = short.each p q e x (contains_head (tree.OutputAs p e q x) rest) in
      one_more x a first made all outs printed all_is printed_is (printed_well here one (within_left s n first made both)) (outputs_good (others_short (tree.OutputAs p e q x) rest short) more (within_right s n first made both))
  outputs_good short (flat.MakesOutputs.input {rest = rest} more) within = outputs_good (others_short _ rest short) more within
  outputs_good short (flat.MakesOutputs.defined {rest = rest} more) within = outputs_good (others_short _ rest short) more within
