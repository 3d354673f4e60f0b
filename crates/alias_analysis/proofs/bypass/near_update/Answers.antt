use Rattle.std.proofs.Common.{◌∙◌}
use Rattle.alias_nears.proofs.Bypassing.{near_are, bypassed_are}
use Rattle.alias_analysis.proofs.bypass.near_update.Goals as goal

pub beside-requires-clause-one_each : goal.beside-requires-clause-one_each
beside-requires-clause-one_each c = c.in_ok-around.ensures.one_each ∙ c.in_ok-begun.ensures.begins.one_each

pub returns : goal.returns
returns c =
    let s = c.args.flat.now in
    let set = c.args.set.now in
    let y = c.args.update in
    let begun = c.in_ok-begun.ensures in
    let around =
    near_are s set y c.in_ok-begun.begun.begins c.in_ok-around.around begun.begins (c.in_ok-around.ensures.exact set c.requires.paths.carriers)
    (c.in_ok-around.ensures.one_each ∙ begun.begins.one_each) in
    record { sharers = begun.sharers; around = around; bypassed = bypassed_are s set y c.in_ok-around.around c.in_ok-bypassed.bypassed around c.in_ok-bypassed.ensures }
