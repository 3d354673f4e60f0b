-- Two derivations of the inputs, of the streams of the top, and of the outputs.
use Rattle.std.proofs.Common.{◌≡◌, ℕ, zero, suc, ◌+◌, List, [], ◌∷◌, ◌++◌, length, Option, Some, refl, ap, sym, subst, ◌∙◌, arith}
use Rattle.std.specs.Prelude.{slice_get}
use Rattle.std.proofs.lemmas.Bool.{true≢false}
use Rattle.std.proofs.lemmas.Option.{same_Some, none-some}
use Rattle.flat_core.specs.declared.equation.Op.TheVariants as op
use Rattle.flat_core.specs.declared.equation.Equation.{Equation}
use Rattle.flat_core.specs.declared.equation.Output.{Output}
use Rattle.syntax_tree.specs.Tree as tree
use Rattle.syntax_tree.specs.Tree.{Expr}
use Rattle.type_rules.specs.declared.rule.ExprType.TheVariants as expr_type
use Rattle.type_rules.specs.Kinds.{Kinds}
use Rattle.stream_constructs.specs.declared.construct.Stream.{Stream}
use Rattle.stream_constructs.specs.Equations.{equation}
use Rattle.spec_meaning.specs.Flat.{outermost, named, MakesInputs, MakesStreams, MakesPrinted, MakesOutputs}
use Rattle.spec_meaning.specs.Flat as flat
use Rattle.flat_meaning.proofs.Scopes.{IsInputItem, IsStreamItem}
use Rattle.flat_meaning.specs.inner.OneFlat.{SameKinds}
use Rattle.flat_meaning.proofs.Once.{Alike, IsSame, Agree, IsOne}
use Rattle.flat_meaning.proofs.MakesOnce.{makes_once, body_once}

-- ---- what holds of the items of a kind, by their numbers
abbrev pub OfEach : (Option tree.Item → Type 0) → (ℕ → Type 0) → ℕ → List tree.Item → Type 0
OfEach IsItem P i rest = (k : ℕ) → IsItem (slice_get rest k) → P (i + k)

with_first : (IsItem : Option tree.Item → Type 0) (P : ℕ → Type 0) (i : ℕ) (item : tree.Item) (rest : List tree.Item) → (IsItem (Some item) → P i) → OfEach IsItem P (suc i) rest → OfEach IsItem P i (item ∷ rest)
with_first IsItem P i item rest here more zero is = let e : i ≡ i + 0 = omega arith in subst P e (here is)
with_first IsItem P i item rest here more (suc k) is = let e : suc i + k ≡ i + suc k = omega arith in subst P e (more k is)

module _ (items : List tree.Item) (a b : Kinds) (same : SameKinds a b) (top other : ℕ → Stream) where
  abbrev IsSameAt : ℕ → Type 0
  IsSameAt i = top i ≡ other i

  -- ---- inputs
  pub record OneInputs (i : ℕ) (rest : List tree.Item) (xs ys : List Equation) : Type 0 where
    pub made : xs ≡ ys
    pub agreed : OfEach IsInputItem IsSameAt i rest

  no_input : {i : ℕ} {rest : List tree.Item} {xs ys : List Equation} (item : tree.Item) → (IsInputItem (Some item) → ⊥) → OneInputs (suc i) rest xs ys → OneInputs i (item ∷ rest) xs ys
  no_input {i} {rest} item none more = record { made = more.made; agreed = with_first IsInputItem IsSameAt i item rest (λ is. absurd (none is)) more.agreed }

  pub inputs_once : {i : ℕ} {rest : List tree.Item} {n : ℕ} {xs ys : List Equation} → MakesInputs items a top i rest n xs → MakesInputs items b other i rest n ys → OneInputs i rest xs ys
  inputs_once flat.MakesInputs.end flat.MakesInputs.end = record { made = refl; agreed = λ k is. absurd (none-some _ is.is) }
  inputs_once {i} {n = n} (flat.MakesInputs.input {p = p} {q = q} {x = x} {y = y} {rest = rest} of made event top_is more all_is) (flat.MakesInputs.input at made_too event_too other_is less all_too) =
      let of_same = same_Some of at (sym event ∙ event_too) in
      let after = inputs_once more less in
      record {
        made = all_is ∙ (λ k. record (equation q op.Input [] (of_same k)) { name = Some x } ∷ after.made k) ∙ sym all_too;
        agreed = with_first IsInputItem IsSameAt i (tree.Input p q x y) rest (λ is. top_is ∙ (λ k. record { id = n; of = of_same k }) ∙ sym other_is) after.agreed;
      }
  inputs_once (flat.MakesInputs.defined more) (flat.MakesInputs.defined less) = no_input _ (λ is. let e = is.is in (cc)) (inputs_once more less)
  inputs_once (flat.MakesInputs.output more) (flat.MakesInputs.output less) = no_input _ (λ is. let e = is.is in (cc)) (inputs_once more less)
  inputs_once (flat.MakesInputs.output_as more) (flat.MakesInputs.output_as less) = no_input _ (λ is. let e = is.is in (cc)) (inputs_once more less)

-- the tables pin the types of the streams of the top
module _ (items : List tree.Item) (kinds : Kinds) (top : ℕ → Stream) where
  abbrev pub IsPinned : ℕ → Type 0
  IsPinned i = kinds.item i ≡ Some (expr_type.Stream (top i).of)

  pub record ArePinned (i : ℕ) (rest : List tree.Item) : Type 0 where
    pub each : OfEach IsStreamItem IsPinned i rest

  not_pinned : {i : ℕ} {rest : List tree.Item} (item : tree.Item) → (IsStreamItem (Some item) → ⊥) → ArePinned (suc i) rest → ArePinned i (item ∷ rest)
  not_pinned {i} {rest} item none more = record { each = with_first IsStreamItem IsPinned i item rest (λ is. absurd (none is)) more.each }

  pub streams_pinned : {i : ℕ} {rest : List tree.Item} {n : ℕ} {xs : List Equation} → MakesStreams items kinds top i rest n xs → ArePinned i rest
  streams_pinned flat.MakesStreams.end = record { each = λ k is. absurd (none-some _ is.is) }
  streams_pinned {i} (flat.MakesStreams.stream {p = p} {q = q} {x = x} {w = w} {b = b} {rest = rest} s first made top_is pin one more all_is) =
      let here : IsPinned i = pin ∙ ap (λ (v : Stream). Some (expr_type.Stream v.of)) (sym top_is) in
      record { each = with_first IsStreamItem IsPinned i (tree.Defined p (tree.Define q x [] w b)) rest (λ is. here) (streams_pinned more).each }
  streams_pinned (flat.MakesStreams.with_parameters more) = not_pinned _ (λ is. let e = is.is in (cc)) (streams_pinned more)
  streams_pinned (flat.MakesStreams.input more) = not_pinned _ (λ is. let e = is.is in (cc)) (streams_pinned more)
  streams_pinned (flat.MakesStreams.output more) = not_pinned _ (λ is. let e = is.is in (cc)) (streams_pinned more)
  streams_pinned (flat.MakesStreams.output_as more) = not_pinned _ (λ is. let e = is.is in (cc)) (streams_pinned more)

pub at_top : Alike outermost outermost
at_top = record { calls = refl; params = refl; locals = refl }

top_same : IsSame outermost outermost
top_same = record { params = refl; locals = refl }

module _ (items : List tree.Item) (a b : Kinds) (same : SameKinds a b) (top other : ℕ → Stream) (tops : Agree items (λ v w. v.of ≡ w.of) top other) where
  -- ---- streams of the top
  pub record OneStreams (i : ℕ) (rest : List tree.Item) (xs ys : List Equation) : Type 0 where
    pub agreed : OfEach IsStreamItem (λ j. top j ≡ other j) i rest
    pub whole : IsOne items top other → xs ≡ ys

  no_stream : {i : ℕ} {rest : List tree.Item} {xs ys : List Equation} (item : tree.Item) → (IsStreamItem (Some item) → ⊥) → OneStreams (suc i) rest xs ys → OneStreams i (item ∷ rest) xs ys
  no_stream {i} {rest} item none more = record { agreed = with_first IsStreamItem (λ j. top j ≡ other j) i item rest (λ is. absurd (none is)) more.agreed; whole = more.whole }

  pub streams_once : {i : ℕ} {rest : List tree.Item} {n m : ℕ} {xs ys : List Equation} → n ≡ m → MakesStreams items a top i rest n xs → MakesStreams items b other i rest m ys → OneStreams i rest xs ys
  streams_once n_same flat.MakesStreams.end flat.MakesStreams.end = record { agreed = λ k is. absurd (none-some _ is.is); whole = λ exact. refl }
  streams_once {i} n_same (flat.MakesStreams.stream {p = p} {q = q} {x = x} {w = w} {b = c} {rest = rest} s first made top_is pin one more all_is) (flat.MakesStreams.stream u front others other_is pin_too two less all_too) =
      let head = body_once items a b same top other tops one two at_top in
      let tail = streams_once (λ k. n_same k + head.once.lengths k) more less in
      record {
        agreed = with_first IsStreamItem (λ j. top j ≡ other j) i (tree.Defined p (tree.Define q x [] w c)) rest (λ is. top_is ∙ head.numbered n_same ∙ sym other_is) tail.agreed;
        whole = λ exact. all_is ∙ (λ k. named x ((head.once.whole exact n_same top_same).0 k) ++ tail.whole exact k) ∙ sym all_too;
      }
  streams_once n_same (flat.MakesStreams.with_parameters more) (flat.MakesStreams.with_parameters less) = no_stream _ (λ is. let e = is.is in (cc)) (streams_once n_same more less)
  streams_once n_same (flat.MakesStreams.input more) (flat.MakesStreams.input less) = no_stream _ (λ is. let e = is.is in (cc)) (streams_once n_same more less)
  streams_once n_same (flat.MakesStreams.output more) (flat.MakesStreams.output less) = no_stream _ (λ is. let e = is.is in (cc)) (streams_once n_same more less)
  streams_once n_same (flat.MakesStreams.output_as more) (flat.MakesStreams.output_as less) = no_stream _ (λ is. let e = is.is in (cc)) (streams_once n_same more less)

  -- ---- outputs
  module _ (exact : IsOne items top other) where
    printed_once : {e : Expr} {x : List ℕ} {n m : ℕ} {xs ys : List Equation} {s u : Stream} → n ≡ m → MakesPrinted items a top e x n xs s → MakesPrinted items b other e x m ys u → (xs ≡ ys) × (s ≡ u)
    printed_once n_same (flat.MakesPrinted.name only_name one) (flat.MakesPrinted.name only_too two) = (refl, ((makes_once items a b same top other tops one two at_top).whole exact n_same top_same).1)
    printed_once n_same (flat.MakesPrinted.name only_name one) (flat.MakesPrinted.plain made no_name two all_is) = absurd (true≢false (sym only_name ∙ no_name))
    printed_once n_same (flat.MakesPrinted.plain made no_name one all_is) (flat.MakesPrinted.name only_name two) = absurd (true≢false (sym only_name ∙ no_name))
    printed_once {x = x} n_same (flat.MakesPrinted.plain made no_name one all_is) (flat.MakesPrinted.plain rest no_name_too two all_too) =
        let once = (makes_once items a b same top other tops one two at_top).whole exact n_same top_same in
        (all_is ∙ ap (named x) once.0 ∙ sym all_too, once.1)

    -- an output and those after it
    output_joined : {x : List ℕ} {first front made rest xs ys : List Equation} {s u : Stream} {outs others os ps : List Output} → (first ≡ front) × (s ≡ u) → (made ≡ rest) × (outs ≡ others) → xs ≡ first ++ made → ys ≡ front ++ rest → os ≡ record { name = x; equation = s.id } ∷ outs → ps ≡ record { name = x; equation = u.id } ∷ others → (xs ≡ ys) × (os ≡ ps)
    output_joined {x} head tail all_is all_too printed_is printed_too =
        (all_is ∙ (λ k. head.0 k ++ tail.0 k) ∙ sym all_too, printed_is ∙ (λ k. record { name = x; equation = (head.1 k).id } ∷ tail.1 k) ∙ sym printed_too)

    pub outputs_once : {rest : List tree.Item} {n m : ℕ} {xs ys : List Equation} {os ps : List Output} → n ≡ m → MakesOutputs items a top rest n xs os → MakesOutputs items b other rest m ys ps → (xs ≡ ys) × (os ≡ ps)
    outputs_once n_same flat.MakesOutputs.end flat.MakesOutputs.end = (refl, refl)
    outputs_once n_same (flat.MakesOutputs.output s first made outs one more all_is printed_is) (flat.MakesOutputs.output u front rest others two less all_too printed_too) =
        let head = printed_once n_same one two in
        output_joined head (outputs_once (λ k. n_same k + length (head.0 k)) more less) all_is all_too printed_is printed_too
    outputs_once n_same (flat.MakesOutputs.output_as s first made outs one more all_is printed_is) (flat.MakesOutputs.output_as u front rest others two less all_too printed_too) =
        let head = printed_once n_same one two in
        output_joined head (outputs_once (λ k. n_same k + length (head.0 k)) more less) all_is all_too printed_is printed_too
    outputs_once n_same (flat.MakesOutputs.input more) (flat.MakesOutputs.input less) = outputs_once n_same more less
    outputs_once n_same (flat.MakesOutputs.defined more) (flat.MakesOutputs.defined less) = outputs_once n_same more less
