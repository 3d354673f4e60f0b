-- The streams that the definitions of a block will have, definition by definition.
use Rattle.std.proofs.Common.{◌≡◌, ℕ, suc, ◌+◌, ◌-◌, ◌<◌, ◌≤◌, List, [], ◌∷◌, ◌++◌, length, get_or, drop, Option, Some, None, ap, sym, subst, ◌∙◌, append_assoc, add-one}
use Rattle.std.specs.Option.{option_map}
use Rattle.std.proofs.lemmas.List.{append-nil, drop_all}
use Rattle.std.proofs.lemmas.Option.{same_Some, none-some}
use Rattle.syntax_tree.specs.Tree as tree
use Rattle.syntax_tree.specs.inner.OneLevel.{definitions_of}
use Rattle.name_check.specs.inner.Steps.{local_body}
use Rattle.tsl_value.proofs.Lists.{left_at}
use Rattle.type_rules.specs.declared.rule.ExprType.{ExprType}
use Rattle.type_rules.specs.declared.rule.ExprType.TheVariants as expr_type
use Rattle.type_rules.specs.Asked.{inner}
use Rattle.expr_types.specs.Around.{Around}
use Rattle.type_rules.specs.Kinds.{Kinds}
use Rattle.stream_constructs.specs.declared.construct.Stream.{Stream}
use Rattle.spec_meaning.specs.Occurrence.{result_of}
use Rattle.equation_marks.specs.Marks.{Mark, body_marks}
use Rattle.equation_marks.specs.inner.Counted.{counted}
use Rattle.macro_flatten.specs.inner.Answers.{AreNumbered, AreStreams, to_enough}

-- ---- the stream of a definition, where so many equations end with its own
module _ (kinds : Kinds) (i k count after : ℕ) (known : AreStreams kinds i count) (within : k < count) (kind : Option ExprType) (kind_is : kind ≡ kinds.local i k) where
  is_stream : kind ≡ Some (expr_type.Stream (known.each k within).0)
  is_stream = kind_is ∙ (known.each k within).1

  pub never_none : None ≡ option_map {U = Stream} (λ t. record { id = after - 1; of = inner t }) kind → ⊥
  never_none h =
      let s : Stream = record { id = after - 1; of = (known.each k within).0 } in
      none-some s (h ∙ ap (option_map (λ t. record { id = after - 1; of = inner t })) is_stream)

  pub the_stream : (s : Stream) → Some s ≡ option_map (λ t. record { id = after - 1; of = inner t }) kind → (s.id ≡ after - 1) × (kinds.local i k ≡ Some (expr_type.Stream s.of))
  the_stream s h =
      let of = (known.each k within).0 in
      let is : s ≡ record { id = after - 1; of = of } = same_Some s (record { id = after - 1; of = of }) (h ∙ ap (option_map (λ t. record { id = after - 1; of = inner t })) is_stream) in
      (ap (λ (a : Stream). a.id) is, (known.each k within).1 ∙ ap (λ (a : Stream). Some (expr_type.Stream a.of)) (sym is))

-- ---- a turn of the loop over the definitions, and its end
module _ (at : Around) (call : ℕ → List Mark) (made : ℕ) (ds : List tree.Definition) where
  -- streams of what is left make the whole
  abbrev pub AreForeseen : ℕ → ℕ → List Stream → Type 0
  AreForeseen k count ss = (rest : List Stream) → AreNumbered to_enough at call k count (definitions_of (drop k ds)) rest → AreNumbered to_enough at call 0 made (definitions_of ds) (ss ++ rest)

  pub foreseen_more : (k count after : ℕ) (ss more : List Stream) (d : tree.Definition) (s : Stream) → k < length ds → d ≡ get_or ds k d → after ≡ counted count (body_marks at call (result_of (local_body d))) → (s.id ≡ after - 1) × (at.kinds.local at.number k ≡ Some (expr_type.Stream s.of)) → more ≡ ss ++ s ∷ [] → AreForeseen k count ss → AreForeseen (k + 1) after more
  foreseen_more k count after ss more d s within is ends stream more_is so_far rest h =
      let next = subst (λ j. AreNumbered to_enough at call j after (definitions_of (drop (k + 1) ds)) rest) (add-one k) h in
      let here : AreNumbered to_enough at call k count (definitions_of (d ∷ drop (k + 1) ds)) (s ∷ rest) =
      (stream.0 ∙ ap (λ n. n - 1) ends, stream.1, subst (λ n. AreNumbered to_enough at call (suc k) n (definitions_of (drop (k + 1) ds)) rest) ends next) in
      let whole = so_far (s ∷ rest) (subst (λ l. AreNumbered to_enough at call k count (definitions_of l) (s ∷ rest)) (sym (left_at ds k d within is)) here) in
      subst (AreNumbered to_enough at call 0 made (definitions_of ds)) (sym (ap (λ l. l ++ rest) more_is ∙ append_assoc ss (s ∷ []) rest)) whole

  pub foreseen_end : (k count : ℕ) (ss : List Stream) → length ds ≤ k → AreForeseen k count ss → AreNumbered to_enough at call 0 made (definitions_of ds) ss
  foreseen_end k count ss long so_far =
      subst (AreNumbered to_enough at call 0 made (definitions_of ds)) (append-nil ss)
      (so_far [] (subst (λ l. AreNumbered to_enough at call k count (definitions_of l) []) (sym (drop_all k ds long)) tt))
