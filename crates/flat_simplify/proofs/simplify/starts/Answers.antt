use Rattle.std.proofs.Common.{◌↔◌, ◌⊎◌, ℕ, map, ap, subst, ◌∙◌}
use Rattle.std.specs.List.{Contains}
use Rattle.flat_core.specs.declared.equation.Output.{Output}
use Rattle.flat_core.specs.Renumbered.{new_number}
use Rattle.flat_simplify.specs.CanFault.{CanFault}
use Rattle.flat_simplify.proofs.simplify.starts.Goals as goal

pub returns : goal.returns
returns c =
    let s = c.args.flat.now in
    let same = c.in_ok-ids.ensures ∙ ap (map (λ (o : Output). new_number c.args.replaced.now o.equation)) c.outputs.ensures in
    subst (λ xs. (i : ℕ) → Contains c.add_faulting.new.ids.items i ↔ (Contains xs i ⊎ CanFault s i)) same c.in_ok-add_faulting.ensures
