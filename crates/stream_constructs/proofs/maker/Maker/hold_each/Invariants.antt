use Rattle.std.proofs.Common.{◌≡◌, ◌++◌, drop, length}
use Rattle.stream_constructs.specs.Equations.{held_each, merges}
use Rattle.stream_constructs.specs.Made.{HasFirst, with_equations}
use Rattle.stream_constructs.proofs.maker.Maker.hold_each.Given as goal

abbrev pub invariant-loop-part : goal.invariant-loop-part
invariant-loop-part l = record {
  made : with_equations l.self (held_each l.place (length l.self.equations) l.trigger (drop l.part-index l.parts)) ≡ with_equations l.fn.self (held_each l.place (length l.fn.self.equations) l.trigger l.parts);
  begun : HasFirst l.fn.self (held_each l.place (length l.fn.self.equations) l.trigger l.parts) l.self;
  streams : l.lifted_streams.items ++ merges (length l.self.equations) (drop l.part-index l.parts) ≡ merges (length l.fn.self.equations) l.parts;
}
