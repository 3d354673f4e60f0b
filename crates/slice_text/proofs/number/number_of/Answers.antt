use Rattle.std.proofs.Common.{◌∙◌, arith, ap, sym}
use Rattle.std.specs.List.{position}
use Rattle.slice_text.proofs.Named.{first_called, first_within, is_named, none_called}
use Rattle.slice_text.proofs.number.number_of.Goals as goal

pub overflow_cast-result : goal.overflow_cast-result
overflow_cast-result c =
    let name = c.args.name.now in
    let first = ap (position (is_named name)) (sym c.outputs.ensures) ∙ (sym c.place_of.ensures ∙ c.in-Some.is) in
    let within = first_within c.args.flat.now name c.in-Some.place first in
    let few = c.assert_whole.ensures.is_flat.few_outputs in
    omega arith

pub returns-in-Some-clause-some : goal.returns-in-Some-clause-some
returns-in-Some-clause-some c =
    let name = c.args.name.now in
    let first = ap (position (is_named name)) (sym c.outputs.ensures) ∙ (sym c.place_of.ensures ∙ c.in-Some.is) in
    first_called c.args.flat.now name c.in-Some.place first

pub returns-in-None-clause-none : goal.returns-in-None-clause-none
returns-in-None-clause-none c =
    let name = c.args.name.now in
    none_called c.args.flat.now name (ap (position (is_named name)) (sym c.outputs.ensures) ∙ (sym c.place_of.ensures ∙ c.in-None.is))
