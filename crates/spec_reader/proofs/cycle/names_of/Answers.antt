use Rattle.std.proofs.Common.{◌++◌, ◌∷◌, [], ap, ◌∙◌, sym, arith}
use Rattle.std.specs.Option.{option_copied}
use Rattle.program_text.specs.Text.{label_text}
use Rattle.spec_reader.proofs.NameLemmas.{names_more, none_within}
use Rattle.spec_reader.proofs.cycle.names_of.Goals as goal
use Rattle.spec_reader.proofs.cycle.names_of.Goals.{in-Some+in_ok-label+in_ok-push, in_default}

pub loop-place-preserved : goal.loop-place-preserved
loop-place-preserved c =
    elim c.match-get.branch [
      | in-Some+in_ok-label+in_ok-push w ↦
          let longer = ap (λ v. v.items) w.names-is ∙ (w.in_ok-push.ensures.items ∙ ap (λ name. c.loop-place.names.items ++ name ∷ []) (w.in_ok-label.ensures ∙ ap (label_text c.args.flat.now) w.new.ensures)) in
          names_more (label_text c.args.flat.now) c.args.equations.now c.loop-place.place w.in-Some.equation.now c.loop-place.names.items c.match-get.names.items c.loop-place.invariant w.in-Some.ensures longer
      | in_default w ↦
          let low = c.loop-place-test.true in
          let count = c.len-place-end.ensures in
          absurd (none_within c.args.equations.now c.loop-place.place (omega (arith, low, count)) (sym (ap option_copied w.in_default.is) ∙ c.get.ensures))
    ]
