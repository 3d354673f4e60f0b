use Rattle.std.proofs.Common.{sym, ap, ◌∙◌}
use Rattle.flat_core.specs.Members.{is_in}
use Rattle.register_code.proofs.Gathered.{listed_with, listed_without}
use Rattle.register_code.proofs.keep.listed.Goals as goal
use Rattle.register_code.proofs.keep.listed.Goals.{then-contains+in_ok-push, else-contains}

pub loop-number-preserved : goal.loop-number-preserved
loop-number-preserved c = elim c.if-contains.branch [
  | then-contains+in_ok-push w ↦
      ap (λ v. v.items) w.ids-is
      ∙ listed_with (is_in c.args.set.now) c.loop-number.number c.new-id.result c.loop-number.ids.items w.push.new.self.items c.new-id.ensures (sym c.contains.ensures ∙ w.if-contains.true) c.loop-number.invariant w.in_ok-push.ensures.items
  | else-contains w ↦
      ap (λ v. v.items) w.ids-is
      ∙ listed_without (is_in c.args.set.now) c.loop-number.number c.new-id.result c.loop-number.ids.items c.new-id.ensures (sym c.contains.ensures ∙ w.if-contains.false) c.loop-number.invariant
]
