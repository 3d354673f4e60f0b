-- What simplification makes is proper, well typed and well-formed.
use Rattle.std.proofs.Common.{◌≡◌, ℕ, ◌<◌, List, [], ◌∷◌, map, length, Some, refl, sym, ap, subst, ◌∙◌, inl, inr, arith}
use Rattle.std.specs.Prelude.{IsTrue, slice_get}
use Rattle.std.specs.Option.{option_map}
use Rattle.std.specs.List.{AllByRecursion, Contains}
use Rattle.std.proofs.lemmas.Bool.{false≢true}
use Rattle.std.proofs.lemmas.List.{length-map}
use Rattle.std.proofs.lemmas.Option.{same_Some, slice_get-map, slice_get_within}
use Rattle.tsl_value.specs.declared.scalar.ValueType.{ValueType}
use Rattle.flat_core.specs.declared.equation.Equation.{Equation}
use Rattle.flat_core.specs.declared.equation.Output.{Output}
use Rattle.flat_core.specs.declared.equation.Op.{Op}
use Rattle.flat_core.specs.declared.equation.Op.TheVariants as op
use Rattle.flat_core.specs.Complete.{HasShortBody, HaveDifferentNames, IsComplete, IsFlat}
use Rattle.translation_order.specs.Graph.{Path, edge, step, Walk, stay, onward}
use Rattle.flat_core.specs.Needed.{HasArgument}
use Rattle.flat_core.specs.Renumbered.{new_number, with_new_args, with_new_equation}
use Rattle.flat_core.specs.System.{System, runs, equation, OutputsRun, IsProper}
use Rattle.flat_core.specs.TypedSystem.{IsOfType, AreOfTypes, IsTypedEquation, IsTypedSystem}
use Rattle.flat_core.specs.WellFormed.{unguarded_of, Needs, IsWellFormed}
use Rattle.tsl_value.proofs.Lists.{contains_map, map_contains}
use Rattle.flat_core.proofs.Members.{contains_head, all_from, all_at, all_map}
use Rattle.flat_core.proofs.Uniqueness.{all_by}
use Rattle.flat_core.proofs.WellFormedOrder.{ranked_solution}
use Rattle.flat_core.proofs.WellFormedRank.{rank_of, well_formed_ranked}
use Rattle.translation_order.proofs.PathLemmas.{walk_on, walk_keeps, path_join}
use Rattle.flat_core.proofs.Depth.{unguarded_in}
use Rattle.flat_core.proofs.Renumbering.{old_of, names_differ}
use Rattle.flat_simplify.specs.CanFault.{can_fault_op, CanFault}
use Rattle.flat_simplify.specs.Replaced.{IsReplaced, StandsFor, itself, through, IsReplacement}
use Rattle.flat_simplify.specs.Simplified.{Remains, IsRenumbered, IsSimplified}
use Rattle.flat_simplify.specs.inner.Laws.{IsFit}
use Rattle.flat_simplify.proofs.Stands.{runs_on, left_over, same_type, new_stands_at, new_is}

-- ---- paths

then_walk : {E : ℕ → ℕ → Type 0} {a b c : ℕ} → E a b → Walk E b c → Path E a c
then_walk e stay = edge e
then_walk e (onward f w) = step e (then_walk f w)

path_by : (E F : ℕ → ℕ → Type 0) → ((a b : ℕ) → E a b → Path F a b) → {a b : ℕ} → Path E a b → Path F a b
path_by E F along {a} {b} (edge e) = along a b e
path_by E F along (step {a} {b} e p) = path_join (along a b e) (path_by E F along p)

-- ---- arguments

pub unguarded_map : (f : ℕ → ℕ) (o : Op) (args : List ℕ) → unguarded_of o (map f args) ≡ map f (unguarded_of o args)
unguarded_map f op.Last [] = refl
unguarded_map f op.Last (a ∷ args) = refl
unguarded_map f op.Delay [] = refl
unguarded_map f op.Delay (a ∷ args) = refl
unguarded_map f o args = refl

-- an argument of a typed equation is there
pub argument_there : (equations : List Equation) (args : List ℕ) (types : List ValueType) → AreOfTypes equations args types → (a : ℕ) → Contains args a → (e : Equation) × (slice_get equations a ≡ Some e)
argument_there equations args types of a c = all_at (λ b. (e : Equation) × (slice_get equations b ≡ Some e)) args (each args types of) a c
  where
    each : (xs : List ℕ) (ts : List ValueType) → AreOfTypes equations xs ts → AllByRecursion (λ b. (e : Equation) × (slice_get equations b ≡ Some e)) xs
    each [] [] of = tt
    each [] (t ∷ ts) of = tt
    each (x ∷ xs) [] of = absurd of
    each (x ∷ xs) (t ∷ ts) of = ((of.0.at, of.0.is), each xs ts of.1)

module _ (s u : System) (proper : IsProper s) (typed : IsTypedSystem s) (formed : IsWellFormed s) (outputs_run : OutputsRun s) (replaced : List ℕ) (replacement : IsReplacement s replaced) (made : IsRenumbered s replaced u) where
  abbrev new : ℕ → ℕ
  new = new_number replaced

  pub new_equation : (i : ℕ) (e : Equation) → equation s i ≡ Some e → equation u i ≡ Some (with_new_args replaced e)
  new_equation i e is = ap (λ es. slice_get es i) made.equations_are ∙ slice_get-map (with_new_args replaced) s.equations i ∙ ap (option_map (with_new_args replaced)) is

  pub old_equation : (i : ℕ) (f : Equation) → equation u i ≡ Some f → (e : Equation) × (equation s i ≡ Some e) × (with_new_args replaced e ≡ f)
  old_equation i f is = old_of (with_new_args replaced) (equation s i) f (sym (ap (λ es. slice_get es i) made.equations_are ∙ slice_get-map (with_new_args replaced) s.equations i) ∙ is)

  -- ---- well-formed
  replaced_needs : (i a : ℕ) → IsReplaced s i a → Needs s i a
  replaced_needs i a r = record {
    at = r.at;
    is = r.is;
    argument = subst (λ args. Contains (unguarded_of r.at.op args) a) (sym r.args_are) (subst (λ o. Contains (unguarded_of o (a ∷ r.other ∷ [])) a) (sym r.merges) (contains_head a (r.other ∷ [])));
  }

  walk_to : {i j : ℕ} → StandsFor s i j → Walk (Needs s) i j
  walk_to (itself none) = stay
  walk_to {i} {j} (through {a = a} r rest) = onward (replaced_needs i a r) (walk_to rest)

  old_path : (i j : ℕ) → Needs u i j → Path (Needs s) i j
  old_path i j n =
      let old = old_equation i n.at n.is in
      let e = old.0 in
      let among : Contains (map new (unguarded_of e.op e.args)) j = subst (λ xs. Contains xs j) (unguarded_map new e.op e.args) (subst (λ f. Contains (unguarded_of f.op f.args) j) (sym old.2) n.argument) in
      let found = contains_map new (unguarded_of e.op e.args) j among in
      let a = found.0 in
      let g = typed.each i e old.1 in
      let there = argument_there s.equations e.args g.types g.arguments a (unguarded_in e.op e.args a found.1) in
      let first : Needs s i a = record { at = e; is = old.1; argument = found.1 } in
      then_walk first (subst (λ n. Walk (Needs s) a n) found.2 (walk_to (new_stands_at s replaced replacement a there.0 there.1)))

  well_formed : IsWellFormed u
  well_formed a p = formed a (path_by (Needs u) (Needs s) old_path p)

  -- ---- typed
  new_type : (a : ℕ) (t : ValueType) → IsOfType s.equations a t → IsOfType u.equations (new a) t
  new_type a t of =
      let more = same_type s typed (new_stands_at s replaced replacement a of.at of.is) t of in
      record { at = with_new_args replaced more.at; is = new_equation (new a) more.at more.is; of_is = more.of_is }

  new_types : (args : List ℕ) (types : List ValueType) → AreOfTypes s.equations args types → AreOfTypes u.equations (map new args) types
  new_types [] [] of = tt
  new_types [] (t ∷ types) of = of
  new_types (a ∷ args) [] of = of
  new_types (a ∷ args) (t ∷ types) of = (new_type a t of.0, new_types args types of.1)

  typed_new : IsTypedSystem u
  typed_new = record {
    each = λ i f is.
        let old = old_equation i f is in
        let g = typed.each i old.0 old.1 in
        let new_typed : IsTypedEquation u.equations (with_new_args replaced old.0) = record { types = g.types; arguments = new_types old.0.args g.types g.arguments; typed = g.typed } in
        subst (IsTypedEquation u.equations) old.2 new_typed;
  }

  -- ---- what remains ran, and was not replaced
  abbrev pub IsLeft : ℕ → Type 0
  IsLeft i = IsTrue (runs s i) × ((a : ℕ) → IsReplaced s i a → ⊥)

  new_ran : (i : ℕ) → IsTrue (runs s i) → IsLeft (new i)
  new_ran i run =
      let found = proper.runs_all i run in
      let stands = new_stands_at s replaced replacement i found.0 found.1 in
      (runs_on s proper stands run, left_over s stands)

  old_argument : (i j : ℕ) → HasArgument u.equations i j → IsTrue (runs s i) → (a : ℕ) × IsTrue (runs s a) × (new a ≡ j)
  old_argument i j h run =
      let old = old_equation i h.at h.is in
      let e = old.0 in
      let found = contains_map new e.args j (subst (λ f. Contains f.args j) (sym old.2) h.argument) in
      let it = proper.runs_all i run in
      let same : it.0 ≡ e = same_Some it.0 e (sym it.1 ∙ old.1) in
      (found.0, all_at (λ a. IsTrue (runs s a)) e.args (subst (λ f. AllByRecursion (λ a. IsTrue (runs s a)) f.args) same it.2) found.0 found.1, found.2)

  argument_left : (i j : ℕ) → HasArgument u.equations i j → IsLeft i → IsLeft j
  argument_left i j h left = let old = old_argument i j h left.0 in subst IsLeft old.2 (new_ran old.0 old.1)

  faulting_left : (i : ℕ) → CanFault s i → IsLeft i
  faulting_left i f = (
    f.running,
    λ a r.
        let same : f.at ≡ r.at = same_Some f.at r.at (sym f.is ∙ r.is) in
        let merges : f.at.op ≡ op.Merge = ap (λ e. e.op) same ∙ r.merges in
        false≢true (sym (ap can_fault_op merges) ∙ f.faults),
  )

  output_left : (o : Output) → Contains u.outputs o → IsLeft o.equation
  output_left o c =
      let found = contains_map (with_new_equation replaced) s.outputs o (subst (λ os. Contains os o) made.outputs_are c) in
      subst (λ p. IsLeft p.equation) found.2 (new_ran found.0.equation (all_at (λ p. IsTrue (runs s p.equation)) s.outputs outputs_run found.0 found.1))

  remains_left : (i : ℕ) → Remains s u i → IsLeft i
  remains_left i (inl needed) = walk_keeps IsLeft argument_left needed.walk (output_left needed.output needed.printed)
  remains_left i (inr after) = walk_keeps IsLeft argument_left after.walk (faulting_left after.start after.faults)

  pub is_left : (i : ℕ) → IsTrue (runs u i) → IsLeft i
  is_left i run = remains_left i ((made.remains i).0 run)

  -- ---- what runs is closed under arguments
  argument_remains : (i j : ℕ) → HasArgument u.equations i j → Remains s u i → Remains s u j
  argument_remains i j h (inl needed) = inl record { output = needed.output; printed = needed.printed; walk = walk_on needed.walk h }
  argument_remains i j h (inr after) = inr record { start = after.start; faults = after.faults; walk = walk_on after.walk h }

  pub arguments_run : (i : ℕ) (f : Equation) → IsTrue (runs u i) → equation u i ≡ Some f → AllByRecursion (λ a. IsTrue (runs u a)) f.args
  arguments_run i f run is = all_from (λ a. IsTrue (runs u a)) f.args (λ j c. (made.remains j).1 (argument_remains i j (record { at = f; is = is; argument = c }) ((made.remains i).0 run)))

  proper_new : IsProper u
  proper_new = record {
    runs_all = λ i run.
        let found = proper.runs_all i (is_left i run).0 in
        let is = new_equation i found.0 found.1 in
        (with_new_args replaced found.0, is, arguments_run i (with_new_args replaced found.0) run is);
  }

  pub outputs_run_new : OutputsRun u
  outputs_run_new = all_from (λ o. IsTrue (runs u o.equation)) u.outputs (λ o c. (made.remains o.equation).1 (inl record { output = o; printed = c; walk = stay }))

  pub faulting_runs : (i : ℕ) → CanFault s i → IsTrue (runs u i)
  faulting_runs i f = (made.remains i).1 (inr record { start = i; faults = f; walk = stay })

  -- ---- whole
  same_count : length u.equations ≡ length s.equations
  same_count = ap length made.equations_are ∙ length-map s.equations (with_new_args replaced)

  complete_new : IsComplete s → IsComplete u
  complete_new c = record {
    typed = typed_new;
    some_output = (let same = ap length made.outputs_are ∙ length-map s.outputs (with_new_equation replaced) in let some = c.some_output in omega arith);
    outputs_there = all_by (λ o. IsTrue (runs u o.equation)) (λ o. o.equation < length u.equations) (λ o run. let found = proper_new.runs_all o.equation run in slice_get_within u.equations o.equation found.0 found.1) u.outputs outputs_run_new;
    names_differ = subst HaveDifferentNames (sym made.outputs_are) (names_differ replaced s.outputs c.names_differ);
    short_texts = subst (AllByRecursion (λ e. HasShortBody e.op)) (sym made.equations_are) (all_map (with_new_args replaced) (λ e. HasShortBody e.op) s.equations c.short_texts);
  }

  outputs_stand : (o : Output) (j : ℕ) → Contains s.outputs o → StandsFor s o.equation j → IsTrue (runs u j)
  outputs_stand o j c stands =
      let found = proper.runs_all o.equation (all_at (λ p. IsTrue (runs s p.equation)) s.outputs outputs_run o c) in
      let among = subst (λ os. Contains os (with_new_equation replaced o)) (sym made.outputs_are) (map_contains (with_new_equation replaced) s.outputs o c) in
      subst (λ n. IsTrue (runs u n)) (new_is s replaced replacement o.equation j found.0 found.1 stands) (all_at (λ p. IsTrue (runs u p.equation)) u.outputs outputs_run_new (with_new_equation replaced o) among)

  pub fit : IsFit s u
  fit = record {
    proper = proper_new;
    typed = typed_new;
    well_formed = well_formed;
    outputs_run = outputs_run_new;
    complete = complete_new;
    ran = λ i run. (is_left i run).0;
    left = λ i a run r. (is_left i run).1 a r;
    faulting = faulting_runs;
    outputs_stand = outputs_stand;
    solved = ranked_solution u (rank_of u well_formed) proper_new (well_formed_ranked u well_formed);
  }

pub simplified_fit : (s u : System) → IsProper s → IsTypedSystem s → IsWellFormed s → OutputsRun s → IsSimplified s u → IsFit s u
simplified_fit s u proper typed formed outputs_run made = fit s u proper typed formed outputs_run made.replaced made.replacement made.renumbered

-- what simplification makes of a whole system is whole
pub simplified_flat : (s u : System) → IsFlat s → IsWellFormed s → IsSimplified s u → IsFlat u
simplified_flat s u flat formed made = record {
  complete = fits.complete flat.complete;
  few_equations = (let same = ap length made.renumbered.equations_are ∙ length-map s.equations (with_new_args made.replaced) in let few = flat.few_equations in omega arith);
  few_outputs = (let same = ap length made.renumbered.outputs_are ∙ length-map s.outputs (with_new_equation made.replaced) in let few = flat.few_outputs in omega arith);
  ascending = made.renumbered.ascending;
  outputs_run = fits.outputs_run;
  proper = fits.proper;
}
  where
    fits : IsFit s u
    fits = simplified_fit s u flat.proper flat.complete.typed formed flat.outputs_run made
