use Rattle.std.proofs.Common.{None, refl, ap}
use Rattle.syntax_tree.specs.inner.OneLevel.{item_of}
use Rattle.macro_flatten.proofs.Inputs.{has_type}
use Rattle.macro_flatten.proofs.top.input.Goals as goal

pub unreachable-requires : goal.unreachable-requires
unreachable-requires c = has_type (item_of c.args.item.now) c.in-Input.field-0 c.in-Input.place c.in-Input.name c.in-Input.of (ap item_of c.in-Input.is) None c.in-None.ensures c.requires refl
