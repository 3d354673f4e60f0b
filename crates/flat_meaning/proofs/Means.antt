-- The streams of a flat system are those of its specification.
use Rattle.std.proofs.Common.{◌≡◌, ℕ, suc, ◌+◌, ◌-◌, ◌<◌, Bool, true, false, List, [], ◌∷◌, ◌++◌, length, Option, Some, None, refl, ap, sym, subst, ◌∙◌, arith, length-append}
use Rattle.std.specs.Prelude.{◌==◌, slice_get, if◌then◌else◌, IsTrue}
use Rattle.std.specs.Option.{option_and_then}
use Rattle.std.specs.List.{Contains}
use Rattle.std.proofs.lemmas.Bool.{false≢true, eq-eqb}
use Rattle.std.proofs.lemmas.List.{length-map}
use Rattle.std.proofs.lemmas.Option.{same_Some, none-some}
use Rattle.tsl_value.specs.declared.place.Place.{Place}
use Rattle.lift_func.specs.declared.fault.FaultKind.{FaultKind}
use Rattle.flat_core.specs.declared.equation.Equation.{Equation}
use Rattle.flat_core.specs.declared.equation.Output.{Output}
use Rattle.flat_core.specs.Stream.{Event, History}
use Rattle.flat_core.specs.Case.{Streams, root_fault}
use Rattle.flat_core.specs.Events.{Inputs}
use Rattle.flat_core.specs.Complete.{IsFlat}
use Rattle.flat_core.specs.Needed.{RunsNeeded}
use Rattle.flat_core.specs.Instant.{is_delay, is_delay_op}
use Rattle.flat_core.specs.Line.{Line, inputs_of}
use Rattle.flat_core.specs.Solution.{Solves}
use Rattle.flat_core.specs.System.{System, runs, equation}
use Rattle.flat_core.specs.WellFormed.{IsWellFormed}
use Rattle.flat_core.proofs.Members.{all_at}
use Rattle.syntax_tree.specs.Tree as tree
use Rattle.syntax_tree.specs.Tree.{place_of}
use Rattle.type_rules.specs.Kinds.{Kinds}
use Rattle.stream_constructs.specs.declared.construct.Stream.{Stream}
use Rattle.stream_constructs.specs.Construct.{Construct, root, is_blocked}
use Rattle.stream_constructs.specs.Construct as construct
use Rattle.stream_constructs.specs.Agree.{history_of}
use Rattle.spec_meaning.specs.Occurrence.{Occurrence, result_of}
use Rattle.spec_meaning.specs.Shape.{Shape, all_parts, input_number}
use Rattle.spec_meaning.specs.Happens.{history, Happens, IsNeeded, HasRoot}
use Rattle.spec_meaning.specs.Due.{Printed, outputs_of, Expires}
use Rattle.spec_meaning.specs.Makes.{is_own}
use Rattle.spec_meaning.specs.Flat.{outermost, IsFlatOf}
use Rattle.flat_meaning.specs.inner.Laws.{IsRootAt, IsRootOf, IsExpiry, MeansTheSame}
use Rattle.tsl_value.proofs.Lists.{contains_at, all_by_place}
use Rattle.flat_meaning.proofs.ListLemmas.{at_place}
use Rattle.flat_meaning.proofs.OneThing.{one_thing, roots_agree}
use Rattle.flat_meaning.proofs.Plain.{unnamed, original, Within, within_left, within_right, root_named, all_within}
use Rattle.flat_meaning.proofs.Scopes.{IsInputItem, IsStreamItem}
use Rattle.flat_meaning.proofs.Placed.{Each, each_at, each_length, history_is, IsMadeBody, Placed, IsPlaced, IsBuilt, Leads, here, onward}
use Rattle.flat_meaning.proofs.Lookup.{IsInputAt, input_at, stream_at}
use Rattle.flat_meaning.proofs.Built.{TheLaws}
use Rattle.flat_meaning.proofs.Resolve as resolve
use Rattle.flat_meaning.proofs.Resolve.{same_shape}
use Rattle.flat_meaning.proofs.Happening.{part_runs, built_makes}
use Rattle.flat_meaning.proofs.Happening as happening
use Rattle.flat_meaning.proofs.Covered.{IsCovered, IsOutput, outputs_placed, IsThere}
use Rattle.flat_meaning.proofs.Covered as covered

-- a name and an input have no root fault
neither : (b : Bool) (kind : FaultKind) → (if b then None else None) ≡ Some kind → ⊥
neither true kind h = none-some kind h
neither false kind h = none-some kind h

root_own : (inputs : Inputs) (c : Construct) (hs : List History) (t : ℕ) (kind : FaultKind) → root inputs c hs t ≡ Some kind → is_own c ≡ true
root_own inputs construct.Same [] t kind is = absurd (neither (is_blocked construct.Same [] t) kind is)
root_own inputs construct.Same (a ∷ []) t kind is = absurd (neither (is_blocked construct.Same (a ∷ []) t) kind is)
root_own inputs construct.Same (a ∷ b ∷ hs) t kind is = absurd (neither (is_blocked construct.Same (a ∷ b ∷ hs) t) kind is)
root_own inputs (construct.Input k) [] t kind is = absurd (neither (is_blocked (construct.Input k) [] t) kind is)
root_own inputs (construct.Input k) (a ∷ hs) t kind is = absurd (neither (is_blocked (construct.Input k) (a ∷ hs) t) kind is)
root_own inputs c hs t kind is = refl

if_some : (b : Bool) (x : Option FaultKind) (kind : FaultKind) → (if b then x else None) ≡ Some kind → x ≡ Some kind
if_some true x kind is = is
if_some false x kind is = absurd (none-some kind is)

module _ (items : List tree.Item) (kinds : Kinds) (s : System) (lines : List Line) (bound : ℕ) (z : Streams) (laws : TheLaws) (of : IsFlatOf items kinds s.equations s.outputs) (flat : IsFlat s) (needs : RunsNeeded s) (good : IsWellFormed s) (solves : Solves s (inputs_of lines) bound z) where
  front : Within s 0 (of.inputs ++ of.streams)
  front = within_left s 0 (of.inputs ++ of.streams) of.printed (all_within s (of.inputs ++ of.streams ++ of.printed) of.equations_are)

  input_of : (i : ℕ) → IsInputItem (slice_get items i) → IsInputAt items kinds of.top s (of.top i) (input_number items i)
  input_of i item =
      let found = input_at items kinds of.top s of.makes_inputs (within_left s 0 of.inputs of.streams front) i item.place item.at item.name item.of item.is in
      let same : 0 + i ≡ i = omega arith in
      let count : 0 + input_number items i ≡ input_number items i = omega arith in
      subst (λ j. IsInputAt items kinds of.top s (of.top j) (input_number items i)) same (subst (IsInputAt items kinds of.top s (of.top (0 + i))) count found)

  stream_of : (i : ℕ) (item : IsStreamItem (slice_get items i)) → IsMadeBody items kinds of.top s outermost (result_of item.body) (of.top i)
  stream_of i item =
      let from : 0 + length of.inputs ≡ length of.inputs = omega arith in
      let within = subst (λ n. Within s n of.streams) from (within_right s 0 of.inputs of.streams front) in
      let same : 0 + i ≡ i = omega arith in
      subst (λ j. IsMadeBody items kinds of.top s outermost (result_of item.body) (of.top j)) same (stream_at items kinds of.top s of.makes_streams within i item.place item.at item.name item.written item.body item.is)

  pub leads : (o : Occurrence) (i : ℕ) → Placed items kinds of.top s o i → Leads items kinds of.top s o i
  leads o i there = resolve.leads items kinds of.top s laws input_of stream_of there

  pub outputs_there : Each (IsOutput items kinds of.top s flat.proper leads) (outputs_of items) s.outputs
  outputs_there =
      let from : 0 + length (of.inputs ++ of.streams) ≡ length of.inputs + length of.streams = omega (arith, length-append of.inputs of.streams) in
      outputs_placed items kinds of.top s flat.proper leads of.makes_outputs (subst (λ n. Within s n of.printed) from (within_right s 0 (of.inputs ++ of.streams) of.printed (all_within s (of.inputs ++ of.streams ++ of.printed) of.equations_are)))

  pub happening_at : (o : Occurrence) (i : ℕ) → Placed items kinds of.top s o i → IsTrue (runs s i) → (t : ℕ) → t < bound → Happens items (inputs_of lines) o t (z i t)
  happening_at o i there run t lt = happening.happening items kinds of.top s flat.proper (inputs_of lines) bound z solves good leads o i there run t lt

  pub output_happens : (o : Printed) (p : Output) → IsOutput items kinds of.top s flat.proper leads o p → Contains s.outputs p → (t : ℕ) → t < bound → Happens items (inputs_of lines) o.is t (z p.equation t)
  output_happens o p output c t lt = happening_at o.is p.equation output.there (all_at (λ q. IsTrue (runs s q.equation)) s.outputs flat.outputs_run p c) t lt

  -- what happens at a part
  part_happens : {o : Occurrence} {i : ℕ} (built : IsBuilt items kinds of.top s o i) → IsTrue (runs s i) → (k : ℕ) (a : Occurrence) → slice_get (all_parts o built.of) k ≡ Some a → (u : ℕ) → u < bound → Happens items (inputs_of lines) a u (history (history_of z built.parts) k u)
  part_happens {o} built run k a at u lt =
      let found = each_at (IsPlaced items kinds of.top s) (all_parts o built.of) built.parts built.placed k a at in
      subst (λ (h : History). Happens items (inputs_of lines) a u (h u)) (sym (history_is z built.parts k found.0 found.1)) (happening_at a found.0.id found.2 (part_runs items kinds of.top s flat.proper built run found.0 (contains_at built.parts k found.0 found.1)) u lt)

  part_count : {o : Occurrence} {i : ℕ} (built : IsBuilt items kinds of.top s o i) → length (history_of z built.parts) ≡ length (all_parts o built.of)
  part_count {o} built = length-map built.parts (λ (a : Stream). z a.id) ∙ sym (each_length (IsPlaced items kinds of.top s) (all_parts o built.of) built.parts built.placed)

  -- the equation of the system at a place of own equations
  record IsAt {o : Occurrence} {i : ℕ} (built : IsBuilt items kinds of.top s o i) (k : ℕ) : Type 0 where
    own : Equation
    own_is : slice_get built.own k ≡ Some own
    itself : Equation
    is : equation s (built.first + k) ≡ Some itself
    same : unnamed itself ≡ own

  own_at : {o : Occurrence} {i : ℕ} (built : IsBuilt items kinds of.top s o i) (k : ℕ) → k < length built.own → IsAt built k
  own_at built k lt =
      let found = at_place built.own k lt in
      let known = original s (built.first + k) found.0 (built.stands k found.0 found.1) in
      record { own = found.0; own_is = found.1; itself = known.0; is = known.1; same = known.2 }

  covers : (i : ℕ) → IsTrue (runs s i) → IsCovered items kinds of.top s flat.proper leads i
  covers i run = covered.covered items kinds of.top s flat.proper leads flat outputs_there needs i run

  there_is : {o : Occurrence} → IsNeeded items o → IsThere items kinds of.top s flat.proper leads flat outputs_there o
  there_is needed = covered.needed_there items kinds of.top s flat.proper leads flat outputs_there needed

  module _ (t : ℕ) (lt : t < bound) where
    -- ---- root faults
    root_of_equation : (place : Place) (kind : FaultKind) → IsRootAt s (inputs_of lines) z t place kind → IsRootOf items (inputs_of lines) t place kind
    root_of_equation place kind r =
        let c = covers r.number r.running in
        let built = c.built in
        let at = own_at built c.place c.low in
        let same : r.of ≡ at.itself = same_Some r.of at.itself (sym r.is ∙ ap (equation s) c.is ∙ at.is) in
        let fault : root_fault (inputs_of lines) z r.number r.of t ≡ Some kind = sym (ap (option_and_then (λ e. root_fault (inputs_of lines) z r.number e t)) r.is) ∙ r.root in
        let here_fault : root_fault (inputs_of lines) z (built.first + c.place) at.own t ≡ Some kind =
        sym (root_named s (inputs_of lines) z (built.first + c.place) t at.own at.itself at.same) ∙ sym (ap (λ e. root_fault (inputs_of lines) z (built.first + c.place) e t) same) ∙ sym (ap (λ i. root_fault (inputs_of lines) z i r.of t) c.is) ∙ fault in
        let made = built_makes items kinds of.top s flat.proper (inputs_of lines) bound z solves built c.running t lt in
        let root_is : root (inputs_of lines) built.of.construct (history_of z built.parts) t ≡ Some kind = if_some (suc c.place == length built.own) _ kind (sym (made.root_is c.place at.own at.own_is) ∙ here_fault) in
        let own_place : at.own.place ≡ place_of c.at.expr = all_by_place (λ (e : Equation). e.place ≡ place_of c.at.expr) built.own (built.places (root_own (inputs_of lines) built.of.construct (history_of z built.parts) t kind root_is)) c.place at.own at.own_is in
        record {
          at = c.at;
          place_is = sym own_place ∙ sym (ap (λ (e : Equation). e.place) at.same) ∙ sym (ap (λ (e : Equation). e.place) same) ∙ r.place_is;
          root = record {
            needed = c.needed;
            of = built.of;
            is = built.is;
            streams = history_of z built.parts;
            one_each = part_count built;
            parts = λ k a part u low. part_happens built c.running k a part u (omega arith);
            root_is = root_is;
          };
        }

    root_of_built : (o : Occurrence) (kind : FaultKind) (r : HasRoot items (inputs_of lines) o t kind) (i : ℕ) → IsTrue (runs s i) → IsBuilt items kinds of.top s o i → IsRootAt s (inputs_of lines) z t (place_of o.expr) kind
    root_of_built o kind r i run built =
        let some = built.some in
        let number = built.number_is in
        let k = length built.own - 1 in
        let at = own_at built k (omega arith) in
        let last : i ≡ built.first + k = omega arith in
        let same : r.of ≡ built.of = same_Some r.of built.of (sym r.is ∙ built.is) in
        let lengths : length r.streams ≡ length (history_of z built.parts) = r.one_each ∙ ap (λ v. length (all_parts o v)) same ∙ sym (part_count built) in
        let agree = roots_agree (inputs_of lines) built.of.construct r.streams (history_of z built.parts) t lengths (λ j low u before.
        let count = r.one_each in
        let part = at_place (all_parts o r.of) j (omega arith) in
        one_thing items (inputs_of lines) part.0 u (history r.streams j u) (history (history_of z built.parts) j u) (r.parts j part.0 part.1 u before) (part_happens built run j part.0 (subst (λ v. slice_get (all_parts o v) j ≡ Some part.0) same part.1) u (omega arith))) in
        let root_is : root (inputs_of lines) built.of.construct (history_of z built.parts) t ≡ Some kind = sym agree ∙ sym (ap (λ (v : Shape). root (inputs_of lines) v.construct r.streams t) same) ∙ r.root_is in
        let made = built_makes items kinds of.top s flat.proper (inputs_of lines) bound z solves built run t lt in
        let is_last : (suc k == length built.own) ≡ true = eq-eqb (suc k) (length built.own) (omega arith) in
        let fault : root_fault (inputs_of lines) z (built.first + k) at.itself t ≡ Some kind =
        root_named s (inputs_of lines) z (built.first + k) t at.own at.itself at.same ∙ made.root_is k at.own at.own_is ∙ ap (λ b. if b then root (inputs_of lines) built.of.construct (history_of z built.parts) t else None) is_last ∙ root_is in
        let own_place : at.own.place ≡ place_of o.expr = all_by_place (λ (e : Equation). e.place ≡ place_of o.expr) built.own (built.places (root_own (inputs_of lines) built.of.construct (history_of z built.parts) t kind root_is)) k at.own at.own_is in
        record {
          number = i;
          of = at.itself;
          running = run;
          is = ap (equation s) last ∙ at.is;
          place_is = ap (λ (e : Equation). e.place) at.same ∙ own_place;
          root = ap (option_and_then (λ e. root_fault (inputs_of lines) z i e t)) (ap (equation s) last ∙ at.is) ∙ ap (λ j. root_fault (inputs_of lines) z j at.itself t) last ∙ fault;
        }

    root_of_lead : (o : Occurrence) (kind : FaultKind) (r : HasRoot items (inputs_of lines) o t kind) (i : ℕ) → IsTrue (runs s i) → Leads items kinds of.top s o i → IsRootAt s (inputs_of lines) z t (place_of o.expr) kind
    root_of_lead o kind r i run (here built) = root_of_built o kind r i run built
    root_of_lead o kind r i run (onward next is there rest) =
        let same : r.of ≡ same_shape next = same_Some r.of (same_shape next) (sym r.is ∙ is) in
        absurd (false≢true (root_own (inputs_of lines) construct.Same r.streams t kind (sym (ap (λ (v : Shape). root (inputs_of lines) v.construct r.streams t) same) ∙ r.root_is)))

    root_of_occurrence : (place : Place) (kind : FaultKind) → IsRootOf items (inputs_of lines) t place kind → IsRootAt s (inputs_of lines) z t place kind
    root_of_occurrence place kind r =
        let at = there_is r.root.needed in
        subst (λ p. IsRootAt s (inputs_of lines) z t p kind) r.place_is (root_of_lead r.at kind r.root at.number at.running (leads r.at at.number at.there))

    -- ---- the events of delays
    expiry_of_equation : IsExpiry s z t → Expires items lines t
    expiry_of_equation x =
        let c = covers x.number x.running in
        let built = c.built in
        let at = own_at built c.place c.low in
        let delay : is_delay_op at.own.op ≡ true = ap is_delay (ap Some (sym at.same)) ∙ sym (ap is_delay (ap (equation s) c.is ∙ at.is)) ∙ x.is in
        let construct_is = all_by_place (λ (e : Equation). is_delay_op e.op ≡ true → built.of.construct ≡ construct.Delay) built.own built.delays c.place at.own at.own_is delay in
        let one = built.one_delay construct_is in
        let many : length built.own ≡ 1 = ap length one.alone in
        let low = c.low in
        let place_is = c.is in
        let number_is = built.number_is in
        let same : c.number ≡ x.number = omega arith in
        record {
          delay = c.at;
          needed = c.needed;
          of = built.of;
          is = built.is;
          is_delay = construct_is;
          value = x.value;
          event = subst (Happens items (inputs_of lines) c.at t) (ap (λ i. z i t) same ∙ x.event) (happening_at c.at c.number c.there c.running t lt);
        }

    expiry_of_lead : (x : Expires items lines t) (i : ℕ) → Placed items kinds of.top s x.delay i → IsTrue (runs s i) → Leads items kinds of.top s x.delay i → IsExpiry s z t
    expiry_of_lead x i there run (here built) =
        let same : x.of ≡ built.of = same_Some x.of built.of (sym x.is ∙ built.is) in
        let one = built.one_delay (sym (ap (λ (v : Shape). v.construct) same) ∙ x.is_delay) in
        let many : length built.own ≡ 1 = ap length one.alone in
        let at = own_at built 0 (omega arith) in
        let number = built.number_is in
        let last : i ≡ built.first + 0 = omega arith in
        let own_is : one.equation ≡ at.own = same_Some one.equation at.own (sym (ap (λ es. slice_get es 0) one.alone) ∙ at.own_is) in
        record {
          number = i;
          running = run;
          is = ap is_delay (ap (equation s) last ∙ at.is) ∙ ap (λ (e : Equation). is_delay_op e.op) at.same ∙ sym (ap (λ (e : Equation). is_delay_op e.op) own_is) ∙ one.is_delay;
          value = x.value;
          event = one_thing items (inputs_of lines) x.delay t (z i t) (Some (Event x.value)) (happening_at x.delay i there run t lt) x.event;
        }
    expiry_of_lead x i there run (onward next is next_there rest) =
        let same : x.of ≡ same_shape next = same_Some x.of (same_shape next) (sym x.is ∙ is) in
        absurd (same_delay (sym (ap (λ (v : Shape). v.construct) same) ∙ x.is_delay))
      where
        same_delay : construct.Same ≡ construct.Delay → ⊥
        same_delay h = cc

    expiry_of_occurrence : Expires items lines t → IsExpiry s z t
    expiry_of_occurrence x = let at = there_is x.needed in expiry_of_lead x at.number at.there at.running (leads x.delay at.number at.there)

  pub means : MeansTheSame items s lines bound z
  means = record {
    outputs = λ k o is.
        let found = each_at (IsOutput items kinds of.top s flat.proper leads) (outputs_of items) s.outputs outputs_there k o is in
        (found.0, found.1, found.2.name_is, output_happens o found.0 found.2 (contains_at s.outputs k found.0 found.1));
    roots = λ t place kind lt. (root_of_equation t lt place kind, root_of_occurrence t lt place kind);
    expiries = λ t lt. (expiry_of_equation t lt, expiry_of_occurrence t lt);
  }
