use Rattle.std.proofs.Common.{refl, ap}
use Rattle.name_check.specs.Scope.{seen}
use Rattle.expr_types.specs.Bodies.{at_top}
use Rattle.macro_flatten.specs.inner.Items.{items_in, kinds_in}
use Rattle.macro_flatten.proofs.context.Context.at_top.Goals as goal

pub returns-clause-here : goal.returns-clause-here
returns-clause-here c = record {
  around_is = ap (λ levels. record (at_top (items_in c.args.self.now) (kinds_in c.args.self.now) c.args.number) { scope = seen levels }) c.requires;
  scope_is = c.requires;
  params_are = refl;
  locals_are = refl;
  deep_is = refl;
}
