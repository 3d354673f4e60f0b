-- Each running equation is one of those that make the stream of an occurrence that is needed.
use Rattle.std.proofs.Common.{◌≡◌, ℕ, zero, suc, ◌+◌, ◌-◌, ◌<◌, List, [], ◌∷◌, ◌++◌, length, Some, refl, ap, sym, subst, ◌∙◌, inl, inr, arith}
use Rattle.std.specs.Prelude.{slice_get, IsTrue}
use Rattle.std.specs.List.{Contains}
use Rattle.std.proofs.lemmas.List.Elements.{Contains-append_left, Contains-append_right, Contains-append_cases}
use Rattle.std.proofs.lemmas.Option.{same_Some}
use Rattle.flat_core.specs.declared.equation.Equation.{Equation}
use Rattle.flat_core.specs.declared.equation.Output.{Output}
use Rattle.flat_core.specs.Complete.{IsFlat}
use Rattle.flat_core.specs.Needed.{HasArgument, RunsNeeded}
use Rattle.flat_core.specs.System.{System, runs, IsProper}
use Rattle.tsl_value.proofs.Lists.{contains_map}
use Rattle.flat_core.proofs.Members.{contains_head, contains_tail, all_at}
use Rattle.translation_order.proofs.PathLemmas.{walk_keeps}
use Rattle.syntax_tree.specs.Tree as tree
use Rattle.type_rules.specs.Kinds.{Kinds}
use Rattle.stream_constructs.specs.declared.construct.Stream.{Stream}
use Rattle.stream_constructs.specs.Construct.{Construct}
use Rattle.stream_constructs.specs.Construct as construct
use Rattle.spec_meaning.specs.Occurrence.{Occurrence}
use Rattle.spec_meaning.specs.Shape.{Shape, shape, all_parts, itself}
use Rattle.spec_meaning.specs.Happens.{IsNeeded}
use Rattle.spec_meaning.specs.Happens as meaning
use Rattle.spec_meaning.specs.Due.{Printed, outputs_of}
use Rattle.spec_meaning.specs.Flat.{outermost, named, MakesPrinted, MakesOutputs}
use Rattle.spec_meaning.specs.Flat as flat
use Rattle.flat_meaning.proofs.ListLemmas.{at_place}
use Rattle.flat_meaning.proofs.Plain.{unnamed, original, Within, within_left, within_right, within_named}
use Rattle.flat_meaning.proofs.Placed.{Each, each_from, each_to, outside, IsMade, Placed, placed, IsPlaced, IsBuilt, Leads, here, onward}
use Rattle.flat_meaning.proofs.Happening.{part_runs}

itself_is : (c : Construct) (o x : Occurrence) → Contains (itself c o) x → o ≡ x
itself_is construct.Delay o x (zero, lt, is) = is
itself_is construct.Delay o x (suc k, lt, is) = absurd (omega arith)
itself_is c o x (k, lt, is) = absurd (omega arith)

only : {A : Type 0} (x y : A) → Contains (x ∷ []) y → x ≡ y
only x y (zero, lt, is) = is
only x y (suc k, lt, is) = absurd (omega arith)

-- an item's output is one of the outputs
outputs_cons : (item : tree.Item) (rest : List tree.Item) → outputs_of (item ∷ rest) ≡ outputs_of (item ∷ []) ++ outputs_of rest
outputs_cons (tree.Output p q n) rest = refl
outputs_cons (tree.OutputAs p e q n) rest = refl
outputs_cons (tree.Input p q n y) rest = refl
outputs_cons (tree.Defined p d) rest = refl

output_in : (rest : List tree.Item) (item : tree.Item) (o : Printed) → outputs_of (item ∷ []) ≡ o ∷ [] → Contains rest item → Contains (outputs_of rest) o
output_in [] item o one (k, lt, is) = absurd (omega arith)
output_in (v ∷ rest) item o one (zero, lt, is) =
    let alone : outputs_of (v ∷ []) ≡ o ∷ [] = ap (λ w. outputs_of (w ∷ [])) is ∙ one in
    subst (λ os. Contains os o) (sym (outputs_cons v rest)) (Contains-append_left (outputs_of (v ∷ [])) (outputs_of rest) o (subst (λ os. Contains os o) (sym alone) (contains_head o [])))
output_in (v ∷ rest) item o one (suc k, lt, is) = subst (λ os. Contains os o) (sym (outputs_cons v rest)) (Contains-append_right (outputs_of (v ∷ [])) (outputs_of rest) o (output_in rest item o one (k, omega arith, is)))

module _ (items : List tree.Item) (kinds : Kinds) (top : ℕ → Stream) (s : System) (proper : IsProper s) (leads : (o : Occurrence) (i : ℕ) → Placed items kinds top s o i → Leads items kinds top s o i) where
  -- equation j is one of those of an occurrence that is needed
  pub record IsCovered (j : ℕ) : Type 0 where
    pub at : Occurrence
    pub needed : IsNeeded items at
    pub number : ℕ
    pub there : Placed items kinds top s at number
    pub built : IsBuilt items kinds top s at number
    pub running : IsTrue (runs s number)
    pub place : ℕ
    pub low : place < length built.own
    pub is : j ≡ built.first + place

  lead_covered : {o : Occurrence} {i : ℕ} → Leads items kinds top s o i → Placed items kinds top s o i → IsNeeded items o → IsTrue (runs s i) → IsCovered i
  lead_covered {o} {i} (here built) there needed run =
      let some = built.some in
      let is = built.number_is in
      record { at = o; needed = needed; number = i; there = there; built = built; running = run; place = length built.own - 1; low = omega arith; is = omega arith }
  lead_covered {o} (onward next is there rest) _ needed run = lead_covered rest there (meaning.IsNeeded.part o (record { construct = construct.Same; parts = next ∷ [] }) needed is (contains_head next [])) run

  part_needed : (o : Occurrence) (of : Shape) → IsNeeded items o → shape items o ≡ Some of → (a : Occurrence) → Contains (all_parts o of) a → IsNeeded items a
  part_needed o of needed is a c = elim (Contains-append_cases of.parts (itself of.construct o) a c) [
    | inl part ↦ meaning.IsNeeded.part o of needed is part
    | inr self ↦ subst (IsNeeded items) (itself_is of.construct o a self) needed
  ]

  argument_covered : (j l : ℕ) → HasArgument s.equations j l → IsCovered j → IsCovered l
  argument_covered j l has covered =
      let built = covered.built in
      let found = at_place built.own covered.place covered.low in
      let known = original s (built.first + covered.place) found.0 (built.stands covered.place found.0 found.1) in
      let same : has.at ≡ known.0 = same_Some has.at known.0 (sym has.is ∙ ap (slice_get s.equations) covered.is ∙ known.1) in
      let argument : Contains found.0.args l = subst (λ (e : Equation). Contains e.args l) (ap unnamed same ∙ known.2) has.argument in
      elim (built.joined.arguments covered.place found.0 l found.1 argument) [
        | inl of_part ↦
            let part = contains_map (λ (a : Stream). a.id) built.parts l of_part in
            let occurrence = each_to (IsPlaced items kinds top s) (all_parts covered.at built.of) built.parts built.placed part.0 part.1 in
            let needed = part_needed covered.at built.of covered.needed built.is occurrence.0 occurrence.1 in
            subst IsCovered part.2 (lead_covered (leads occurrence.0 part.0.id occurrence.2) occurrence.2 needed (part_runs items kinds top s proper built covered.running part.0 part.1))
        | inr own ↦ record { at = covered.at; needed = covered.needed; number = covered.number; there = covered.there; built = built; running = covered.running; place = own.0; low = own.1; is = own.2 }
      ]

  -- ---- outputs
  pub record IsOutput (o : Printed) (p : Output) : Type 0 where
    pub name_is : p.name ≡ o.name
    pub there : Placed items kinds top s o.is p.equation
    pub needed : IsNeeded items o.is

  printed_made : {e : tree.Expr} {x : List ℕ} {n : ℕ} {made : List Equation} {stream : Stream} → MakesPrinted items kinds top e x n made stream → Within s n made → IsMade items kinds top s outermost e stream
  printed_made {n = n} (flat.MakesPrinted.name only_name one) within = record { number = n; made = []; makes = one; within = within }
  printed_made {x = x} {n = n} (flat.MakesPrinted.plain made no_name one is) within = record { number = n; made = made; makes = one; within = within_named s n x made (subst (Within s n) is within) }

  outputs_made : {rest : List tree.Item} {n : ℕ} {made : List Equation} {printed : List Output} → MakesOutputs items kinds top rest n made printed → Within s n made → ((item : tree.Item) → Contains rest item → Contains items item) → Each IsOutput (outputs_of rest) printed
  outputs_made flat.MakesOutputs.end within all = tt
  outputs_made {n = n} (flat.MakesOutputs.output {p = p} {q = q} {x = x} {rest = rest} stream first made outs one more all_is printed_is) within all =
      let both = subst (Within s n) all_is within in
      subst (Each IsOutput (outputs_of (tree.Output p q x ∷ rest))) (sym printed_is) (
        record { name_is = refl; there = placed outside (printed_made one (within_left s n first made both)); needed = meaning.IsNeeded.named p (all (tree.Output p q x) (contains_head (tree.Output p q x) rest)) },
        outputs_made more (within_right s n first made both) (λ item c. all item (contains_tail _ rest item c)),
      )
  outputs_made {n = n} (flat.MakesOutputs.output_as {p = p} {q = q} {e = e} {x = x} {rest = rest} stream first made outs one more all_is printed_is) within all =
      let both = subst (Within s n) all_is within in
      subst (Each IsOutput (outputs_of (tree.OutputAs p e q x ∷ rest))) (sym printed_is) (
        record { name_is = refl; there = placed outside (printed_made one (within_left s n first made both)); needed = meaning.IsNeeded.printed p q x (all (tree.OutputAs p e q x) (contains_head (tree.OutputAs p e q x) rest)) },
        outputs_made more (within_right s n first made both) (λ item c. all item (contains_tail _ rest item c)),
      )
  outputs_made (flat.MakesOutputs.input {rest = rest} more) within all = outputs_made more within (λ item c. all item (contains_tail _ rest item c))
  outputs_made (flat.MakesOutputs.defined {rest = rest} more) within all = outputs_made more within (λ item c. all item (contains_tail _ rest item c))

  pub outputs_placed : {n : ℕ} {made : List Equation} {printed : List Output} → MakesOutputs items kinds top items n made printed → Within s n made → Each IsOutput (outputs_of items) printed
  outputs_placed more within = outputs_made more within (λ item c. c)

  module _ (flat : IsFlat s) (outputs : Each IsOutput (outputs_of items) s.outputs) where
    -- each running equation
    pub covered : RunsNeeded s → (i : ℕ) → IsTrue (runs s i) → IsCovered i
    covered needs i run =
        let reached = (needs.each i).0 run in
        let output = each_to IsOutput (outputs_of items) s.outputs outputs reached.output reached.printed in
        let first = lead_covered (leads output.0.is reached.output.equation output.2.there) output.2.there output.2.needed (all_at (λ p. IsTrue (runs s p.equation)) s.outputs flat.outputs_run reached.output reached.printed) in
        walk_keeps IsCovered argument_covered reached.walk first

    -- each occurrence that is needed stands in the system, and its equation runs
    pub record IsThere (o : Occurrence) : Type 0 where
      pub number : ℕ
      pub there : Placed items kinds top s o number
      pub running : IsTrue (runs s number)

    output_there : (o : Printed) → Contains (outputs_of items) o → IsThere o.is
    output_there o c =
        let found = each_from IsOutput (outputs_of items) s.outputs outputs o c in
        record { number = found.0.equation; there = found.2.there; running = all_at (λ p. IsTrue (runs s p.equation)) s.outputs flat.outputs_run found.0 found.1 }

    pub needed_there : {o : Occurrence} → IsNeeded items o → IsThere o
    needed_there (meaning.IsNeeded.printed p {e} q n c) = output_there (record { name = n; is = record { calls = []; expr = e } }) (output_in items (tree.OutputAs p e q n) _ refl c)
    needed_there (meaning.IsNeeded.named p {q} {n} c) = output_there (record { name = n; is = record { calls = []; expr = tree.Name q n } }) (output_in items (tree.Output p q n) _ refl c)
    needed_there (meaning.IsNeeded.part o of {a} needed is c) =
        let whole = needed_there needed in
        part_there o of a is c whole.number whole.running (leads o whole.number whole.there)
      where
        part_there : (o : Occurrence) (of : Shape) (a : Occurrence) → shape items o ≡ Some of → Contains of.parts a → (i : ℕ) → IsTrue (runs s i) → Leads items kinds top s o i → IsThere a
        part_there o of a is c i run (here built) =
            let same : of ≡ built.of = same_Some of built.of (sym is ∙ built.is) in
            let in_parts : Contains (all_parts o built.of) a = Contains-append_left built.of.parts (itself built.of.construct o) a (subst (λ (v : Shape). Contains v.parts a) same c) in
            let found = each_from (IsPlaced items kinds top s) (all_parts o built.of) built.parts built.placed a in_parts in
            record { number = found.0.id; there = found.2; running = part_runs items kinds top s proper built run found.0 found.1 }
        part_there o of a is c i run (onward next be there rest) =
            let same : of ≡ record { construct = construct.Same; parts = next ∷ [] } = same_Some of (record { construct = construct.Same; parts = next ∷ [] }) (sym is ∙ be) in
            let is_next : next ≡ a = only next a (subst (λ (v : Shape). Contains v.parts a) same c) in
            record { number = i; there = subst (λ b. Placed items kinds top s b i) is_next there; running = run }
