-- Equations have no names but those of items.
use Rattle.std.proofs.Common.{◌≡◌, ℕ, List, [], ◌∷◌, ◌++◌, Some, None, refl, sym, subst, ◌∙◌}
use Rattle.std.specs.List.{AllByRecursion}
use Rattle.std.proofs.lemmas.Option.{same_Some, none-some}
use Rattle.flat_core.specs.declared.equation.Equation.{Equation}
use Rattle.flat_core.specs.declared.equation.Output.{Output}
use Rattle.flat_core.proofs.Members.{all_append}
use Rattle.flat_core.proofs.Uniqueness.{all_by}
use Rattle.stream_constructs.specs.declared.construct.Stream.{Stream}
use Rattle.stream_constructs.specs.Construct as construct
use Rattle.stream_constructs.specs.Equations.{own_equations, choice_equations}
use Rattle.syntax_tree.specs.Tree as tree
use Rattle.syntax_tree.specs.Tree.{Expr, place_of}
use Rattle.type_rules.specs.Kinds.{Kinds}
use Rattle.spec_meaning.specs.Flat as flat
use Rattle.spec_meaning.specs.Flat.{named, MakesInputs, MakesStreams, MakesPrinted, MakesOutputs, IsFlatOf}
use Rattle.flat_meaning.proofs.OwnEquations.{IsOwn, own_made, choice_made}
use Rattle.compiled_code.proofs.ItemNames.{NamedItem}
use Rattle.compiled_code.proofs.Made.{HoldsOfEach, all_made, body_made}

-- an equation without a name
abbrev IsPlain : Equation → Type 0
IsPlain e = e.name ≡ None

module _ (items : List tree.Item) (kinds : Kinds) (top : ℕ → Stream) where
  each_plain : HoldsOfEach items kinds top IsPlain
  each_plain = record {
    own = λ at e sh parts n of is. all_by (IsOwn sh.construct (place_of e)) IsPlain (λ f own. own.nameless) (own_equations (place_of e) of n sh.construct parts) (own_made (place_of e) of n sh.construct parts);
    choice = λ p of n os parts. all_by (IsOwn construct.Nil p) IsPlain (λ f own. own.nameless) (choice_equations p of n os parts) (choice_made construct.Nil p of n os parts);
    alias = λ p a. refl;
  }

  module _ (Q : List ℕ → Type 0) where
    -- a name that an equation has
    abbrev pub NamedEquation : Equation → Type 0
    NamedEquation e = (n : List ℕ) → e.name ≡ Some n → Q n

    abbrev AllNamed : List Equation → Type 0
    AllNamed es = AllByRecursion NamedEquation es

    plain_named : (e : Equation) → IsPlain e → NamedEquation e
    plain_named e without n is = absurd (none-some n (sym without ∙ is))

    last_named : (x : List ℕ) → Q x → (es : List Equation) → AllByRecursion IsPlain es → AllNamed (named x es)
    last_named x good [] all = tt
    last_named x good (e ∷ []) all = (λ n is. subst Q (same_Some x n is) good, tt)
    last_named x good (d ∷ e ∷ es) all = (plain_named d all.0, last_named x good (e ∷ es) all.1)

    join : (xs ys all : List Equation) → all ≡ xs ++ ys → AllNamed xs → AllNamed ys → AllNamed all
    join xs ys all is first second = subst AllNamed (sym is) (all_append NamedEquation xs ys first second)

    abbrev AllItems : List tree.Item → Type 0
    AllItems rest = AllByRecursion (NamedItem Q) rest

    inputs_named : {i n : ℕ} {rest : List tree.Item} {made : List Equation} → MakesInputs items kinds top i rest n made → AllItems rest → AllNamed made
    inputs_named flat.MakesInputs.end good = tt
    inputs_named (flat.MakesInputs.input {x = x} of made typed at others is) good =
        subst AllNamed (sym is) (λ n same. subst Q (same_Some x n same) good.0, inputs_named others good.1)
    inputs_named (flat.MakesInputs.defined others) good = inputs_named others good.1
    inputs_named (flat.MakesInputs.output others) good = inputs_named others good.1
    inputs_named (flat.MakesInputs.output_as others) good = inputs_named others good.1

    streams_named : {i n : ℕ} {rest : List tree.Item} {made : List Equation} → MakesStreams items kinds top i rest n made → AllItems rest → AllNamed made
    streams_named flat.MakesStreams.end good = tt
    streams_named (flat.MakesStreams.stream {x = x} s first made at kind body others is) good =
        join (named x first) made _ is (last_named x good.0 first (body_made items kinds top IsPlain each_plain body)) (streams_named others good.1)
    streams_named (flat.MakesStreams.with_parameters others) good = streams_named others good.1
    streams_named (flat.MakesStreams.input others) good = streams_named others good.1
    streams_named (flat.MakesStreams.output others) good = streams_named others good.1
    streams_named (flat.MakesStreams.output_as others) good = streams_named others good.1

    printed_named : {e : Expr} {x : List ℕ} {n : ℕ} {made : List Equation} {s : Stream} → MakesPrinted items kinds top e x n made s → Q x → AllNamed made
    printed_named (flat.MakesPrinted.name is inner) good = tt
    printed_named (flat.MakesPrinted.plain {x = x} made other inner is) good =
        subst AllNamed (sym is) (last_named x good made (all_made items kinds top IsPlain each_plain inner))

    abbrev AreNamed : List Output → Type 0
    AreNamed outputs = AllByRecursion (λ o. Q o.name) outputs

    outputs_named : {rest : List tree.Item} {n : ℕ} {made : List Equation} {outputs : List Output} → MakesOutputs items kinds top rest n made outputs → AllItems rest → AllNamed made × AreNamed outputs
    outputs_named flat.MakesOutputs.end good = (tt, tt)
    outputs_named (flat.MakesOutputs.output {x = x} s first made outs one others is printed_is) good =
        let more = outputs_named others good.1 in
        (join first made _ is (printed_named one good.0) more.0, subst AreNamed (sym printed_is) (good.0, more.1))
    outputs_named (flat.MakesOutputs.output_as {x = x} s first made outs one others is printed_is) good =
        let more = outputs_named others good.1 in
        (join first made _ is (printed_named one good.0) more.0, subst AreNamed (sym printed_is) (good.0, more.1))
    outputs_named (flat.MakesOutputs.input others) good = outputs_named others good.1
    outputs_named (flat.MakesOutputs.defined others) good = outputs_named others good.1

pub flat_named : (items : List tree.Item) (kinds : Kinds) (equations : List Equation) (outputs : List Output) (Q : List ℕ → Type 0) → AllByRecursion (NamedItem Q) items
    → IsFlatOf items kinds equations outputs → AllByRecursion (λ e. (n : List ℕ) → e.name ≡ Some n → Q n) equations × AllByRecursion (λ o. Q o.name) outputs
flat_named items kinds equations outputs Q good of =
    let inputs = inputs_named items kinds of.top Q of.makes_inputs good in
    let streams = streams_named items kinds of.top Q of.makes_streams good in
    let printed = outputs_named items kinds of.top Q of.makes_outputs good in
    let Named : Equation → Type 0 = λ e. (n : List ℕ) → e.name ≡ Some n → Q n in (
      subst (AllByRecursion Named) (sym of.equations_are) (all_append Named (of.inputs ++ of.streams) of.printed (all_append Named of.inputs of.streams inputs streams) printed.0),
      printed.1,
    )
