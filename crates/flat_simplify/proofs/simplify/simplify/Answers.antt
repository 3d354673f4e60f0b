use Rattle.std.proofs.Common.{◌↔◌, ◌<◌, ℕ, length, sym, subst}
use Rattle.std.specs.Prelude.{All}
use Rattle.std.specs.List.{Contains}
use Rattle.flat_core.specs.WellFormed.{IsWellFormed}
use Rattle.flat_simplify.specs.Simplified.{IsStart, IsSimplified}
use Rattle.flat_simplify.proofs.Making.{are_replacements, starts_below, is_fit, is_simplified}
use Rattle.flat_simplify.proofs.simplify.simplify.Goals as goal

pub reached-requires-clause-replaced : goal.reached-requires-clause-replaced
reached-requires-clause-replaced c = are_replacements c.args.flat c.assert_whole.ensures.is_flat c.requires.well_formed c.in_ok-replaced.replaced c.in_ok-replaced.ensures

pub reached-requires-clause-starts : goal.reached-requires-clause-starts
reached-requires-clause-starts c =
    let s = c.args.flat in
    subst (All (λ i. i < length s.equations)) (sym c.deref.ensures.value) (starts_below s c.assert_whole.ensures.is_flat c.requires.well_formed c.in_ok-replaced.replaced c.in_ok-replaced.ensures c.in_ok-starts.starts.items c.in_ok-starts.ensures)

pub simplified-requires-clause-replaced : goal.simplified-requires-clause-replaced
simplified-requires-clause-replaced c = are_replacements c.args.flat c.assert_whole.ensures.is_flat c.requires.well_formed c.in_ok-replaced.replaced c.in_ok-replaced.ensures

pub simplified-requires-clause-outputs_run : goal.simplified-requires-clause-outputs_run
simplified-requires-clause-outputs_run c =
    let s = c.args.flat in
    let replaced = c.in_ok-replaced.replaced in
    let are = subst (λ xs. (i : ℕ) → Contains xs i ↔ IsStart s replaced i) (sym c.deref.ensures.value) c.in_ok-starts.ensures in
    let running = c.in_ok-running in
    (is_fit s c.assert_whole.ensures.is_flat c.requires.well_formed replaced c.in_ok-replaced.ensures c.deref.result.now running.running are running.ensures.ascending running.ensures.members).outputs_run

pub simplified-requires-clause-proper : goal.simplified-requires-clause-proper
simplified-requires-clause-proper c =
    let s = c.args.flat in
    let replaced = c.in_ok-replaced.replaced in
    let are = subst (λ xs. (i : ℕ) → Contains xs i ↔ IsStart s replaced i) (sym c.deref.ensures.value) c.in_ok-starts.ensures in
    let running = c.in_ok-running in
    (is_fit s c.assert_whole.ensures.is_flat c.requires.well_formed replaced c.in_ok-replaced.ensures c.deref.result.now running.running are running.ensures.ascending running.ensures.members).proper

pub returns-clause-simplified : goal.returns-clause-simplified
returns-clause-simplified c =
    let s = c.args.flat in
    let replaced = c.in_ok-replaced.replaced in
    let are = subst (λ xs. (i : ℕ) → Contains xs i ↔ IsStart s replaced i) (sym c.deref.ensures.value) c.in_ok-starts.ensures in
    let running = c.in_ok-running in
    subst (IsSimplified s) (sym c.simplified.ensures) (is_simplified s c.assert_whole.ensures.is_flat c.requires.well_formed replaced c.in_ok-replaced.ensures c.deref.result.now running.running are running.ensures.ascending running.ensures.members)

pub returns-clause-well_formed : goal.returns-clause-well_formed
returns-clause-well_formed c =
    let s = c.args.flat in
    let replaced = c.in_ok-replaced.replaced in
    let are = subst (λ xs. (i : ℕ) → Contains xs i ↔ IsStart s replaced i) (sym c.deref.ensures.value) c.in_ok-starts.ensures in
    let running = c.in_ok-running in
    subst IsWellFormed (sym c.simplified.ensures) (is_fit s c.assert_whole.ensures.is_flat c.requires.well_formed replaced c.in_ok-replaced.ensures c.deref.result.now running.running are running.ensures.ascending running.ensures.members).well_formed
