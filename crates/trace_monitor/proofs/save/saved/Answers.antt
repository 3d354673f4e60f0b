use Rattle.std.proofs.Common.{◌++◌, List, ℕ, ap, ◌∙◌}
use Rattle.run_state.specs.Spelling.{spelling}
use Rattle.trace_monitor.proofs.Saving.{saved_as, spelled}
use Rattle.trace_monitor.proofs.save.saved.Goals as goal

pub returns-clause-fits : goal.returns-clause-fits
returns-clause-fits c =
    let st = c.in_ok-state.state in
    let is = c.in_ok-write_state.ensures.ok ∙ ap (λ (l : List ℕ). l ++ spelling c.args.code.now st) c.new-bytes.ensures in
    spelled c.args.monitor.now c.args.code.now st _ c.requires.code (c.in_ok-state.ensures.fits c.requires.few) is

pub returns-clause-saved : goal.returns-clause-saved
returns-clause-saved c = λ fed kept.
    let st = c.in_ok-state.state in
    let is = c.in_ok-write_state.ensures.ok ∙ ap (λ (l : List ℕ). l ++ spelling c.args.code.now st) c.new-bytes.ensures in
    saved_as c.args.monitor.now c.args.code.now st _ fed c.requires.code (c.in_ok-state.ensures.fits c.requires.few) (c.in_ok-state.ensures.after fed kept) is
