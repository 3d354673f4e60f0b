use Rattle.std.proofs.Common.{ap, ◌∙◌, sym, subst, ◌++◌, ◌∷◌, [], arith}
use Rattle.std.specs.Fmt.{decimal}
use Rattle.std.specs.Str.{IsUtf8}
use Rattle.spec_reader.proofs.NameLemmas.{number_text}
use Rattle.spec_reader.proofs.cycle.numbered.Goals as goal

pub unreachable-requires : goal.unreachable-requires
unreachable-requires c =
    let small = c.ranges.number in
    let text = number_text c.args.number (omega (arith, small)) in
    let is = c.in_ok-print_number.ensures.ok ∙ ap (λ front. front ++ decimal c.args.number) (c.in_ok-push.ensures.ok ∙ ap (λ front. front ++ 37 ∷ []) c.new-bytes.ensures) in
    c.in-None.ensures (subst IsUtf8 (sym is) text)
