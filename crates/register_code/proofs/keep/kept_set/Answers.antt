use Rattle.std.proofs.Common.{ℕ, ◌||◌, sym, ap, ◌∙◌}
use Rattle.flat_core.specs.Members.{is_in}
use Rattle.flat_core.specs.Kept.{keeps}
use Rattle.register_code.proofs.Gathered.{any_more}
use Rattle.register_code.proofs.keep.kept_set.Goals as goal

pub loop-number-preserved : goal.loop-number-preserved
loop-number-preserved c = λ i.
    let s = c.args.flat.now in
    c.in_ok-push_kept.ensures i
    ∙ ap (λ (j : ℕ). keeps s j i || is_in c.loop-number.set i) c.new.ensures
    ∙ ap (λ b. keeps s c.loop-number.number i || b) (c.loop-number.invariant i)
    ∙ sym (any_more (λ j. keeps s j i) c.loop-number.number)
