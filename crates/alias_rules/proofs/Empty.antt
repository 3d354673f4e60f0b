-- Without updates in place a well-formed system has no conflict.
use Rattle.std.proofs.Common.{◌≡◌, ℕ, ◌<◌, List, [], length, sym, subst, arith}
use Rattle.std.specs.Prelude.{IsTrue}
use Rattle.std.specs.List.{AllByRecursion}
use Rattle.std.proofs.lemmas.Bool.{false≢true}
use Rattle.std.proofs.lemmas.Option.{slice_get_within, get_or_from_slice_get}
use Rattle.translation_order.specs.Graph.{Path, edge, step}
use Rattle.flat_core.specs.System.{System, runs, IsProper, OutputsRun}
use Rattle.flat_core.specs.WellFormed.{unguarded_of, Needs, IsWellFormed}
use Rattle.flat_core.proofs.Members.{all_at}
use Rattle.translation_order.proofs.PathLemmas.{path_on}
use Rattle.flat_core.proofs.Depth.{unguarded_all, runs_below}
use Rattle.alias_rules.specs.Conflict.{StandsBefore, needed, bypasses, takes}
use Rattle.alias_rules.specs.Fine.{IsFine, IsFinePlan}
use Rattle.alias_rules.specs.Steps.{MustPrecede, IsOrderBy, argument, printed}
use Rattle.alias_rules.specs.Uses.{AreUpdates}
use Rattle.alias_rules.proofs.Ordered.{order_by_fewer}

module _ (s : System) where
  -- without updates in place nothing else has to stand before a step
  plain : (a b : ℕ) → StandsBefore s [] a b → MustPrecede s a b
  plain a b (needed h) = h
  plain a b (bypasses inside h) = absurd (false≢true inside)
  plain a b (takes x inside h t) = absurd (false≢true inside)

  no_updates : AreUpdates s []
  no_updates y inside = absurd (false≢true inside)

  pub empty_plan : IsFine s [] → (order : List ℕ) → IsOrderBy s (MustPrecede s) order → IsFinePlan s [] order
  empty_plan fine order ordered = record {
    updates = no_updates;
    fine = fine;
    ordered = order_by_fewer s (MustPrecede s) (StandsBefore s []) plain order ordered;
  }

module _ (s : System) (proper : IsProper s) (outputs_run : OutputsRun s) where
  -- what has to stand before something is an equation that runs
  pub source_runs : (a b : ℕ) → MustPrecede s a b → IsTrue (runs s a)
  source_runs a b (argument run needs) =
      let found = proper.runs_all b run in
      let same : found.0 ≡ needs.at = let is = found.1 in let also = needs.is in cc in
      let all = subst (λ e. AllByRecursion (λ x. IsTrue (runs s x)) e.args) same found.2 in
      all_at (λ x. IsTrue (runs s x)) (unguarded_of needs.at.op needs.at.args) (unguarded_all _ needs.at.op needs.at.args all) a needs.argument
  source_runs a b (printed k o is of at) =
      subst (λ x. IsTrue (runs s x)) (sym of) (all_at (λ p. IsTrue (runs s p.equation)) s.outputs outputs_run o (k, slice_get_within s.outputs k o is, get_or_from_slice_get s.outputs k o o is))

  pub source_within : (a b : ℕ) → MustPrecede s a b → a < length s.equations
  source_within a b h = runs_below s proper a (source_runs a b h)

  as_needed : (a b : ℕ) → MustPrecede s a b → b < length s.equations → Needs s b a
  as_needed a b (argument run needs) low = needs
  as_needed a b (printed k o is of at) low = absurd (omega arith)

  path_within : (a b : ℕ) → Path (StandsBefore s []) a b → a < length s.equations
  path_within a b (edge e) = source_within a b (plain s a b e)
  path_within a b (step {b = m} e p) = source_within a m (plain s a m e)

  turned_path : (a b : ℕ) → Path (StandsBefore s []) a b → b < length s.equations → Path (Needs s) b a
  turned_path a b (edge e) low = edge (as_needed a b (plain s a b e) low)
  turned_path a b (step {b = m} e p) low = path_on (turned_path m b p low) (as_needed a m (plain s a m e) (path_within m b p))

  pub empty_is_fine : IsWellFormed s → IsFine s []
  empty_is_fine formed = record {
    none_kept = λ y conflict. false≢true conflict.inside;
    all_overwritten = λ y conflict. false≢true conflict.inside;
    acyclic = λ a around. formed a (turned_path a a around (path_within a a around));
  }
