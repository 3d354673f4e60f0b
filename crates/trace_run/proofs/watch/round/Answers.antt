use Rattle.std.proofs.Common.{ℕ, List, ◌∷◌, [], refl, ap, sym, subst, take, rules, Option, Some, Result}
use Rattle.std.proofs.lemmas.List.{length-take-le}
use Rattle.std.proofs.lemmas.Result.{err_from_is_err_and}
use Rattle.trace_monitor.specs.declared.ending.RunEnding.{RunEnding}
use Rattle.trace_monitor.specs.declared.ending.RunEnding.TheVariants as run
use Rattle.trace_reader.specs.declared.limits.TheConstants.{MOST_PIECE_BYTES}
use Rattle.tsl_world.proofs.Runs.{one_call}
use Rattle.tsl_world.proofs.Untouched.{read_within}
use Rattle.tsl_world.specs.Runs.{Runs}
use Rattle.tsl_world.specs.declared.broken.Broken.{Broken}
use Rattle.tsl_world.specs.declared.outside.Did.TheVariants.{NotTook, Took}
use Rattle.tsl_world.specs.declared.outside.Slot.TheVariants.{Trace}
use Rattle.trace_run.specs.inner.Round.{Broke, IsRead, Passes, Turned, Turns, end_untold, unread}
use Rattle.trace_run.proofs.Following.{told_by}
use Rattle.trace_run.proofs.Rounds.{read_and, turned_by, turns_by}
use Rattle.trace_run.proofs.watch.round.Goals as goal

pub returns-in_err-count-clause-calls : goal.returns-in_err-count-clause-calls
returns-in_err-count-clause-calls g c =
    let (error, failed, same) = err_from_is_err_and c.from_residual.result c.from_residual.ensures.1 in
    let m = c.args.monitor.now in
    subst (λ (r : Result (Option RunEnding) Broken). Runs g.W.World.told g.W.World.journal g.W.World.standing c.args.world.now c.read.new.self (Turns m m c.args.tells_end r)) (sym failed)
    (one_call g.W.World.told g.W.World.journal g.W.World.standing c.args.world.now c.read.new.self (NotTook Trace) (Broke m c.args.tells_end) c.read.ensures.told c.read.ensures.standing c.in_err-count.ensures.journal unread)

pub returns-then-not-tells_end-clause-turned : goal.returns-then-not-tells_end-clause-turned
returns-then-not-tells_end-clause-turned g c = record {
  alike = record { system = refl; options = refl; engine = refl; set = refl; order = refl };
  goes_on = λ is. absurd (cc);
  waits = λ done not_told. c.requires.waits;
}

pub returns-then-not-tells_end-clause-calls : goal.returns-then-not-tells_end-clause-calls
returns-then-not-tells_end-clause-calls g c =
    let m = c.args.monitor.now in
    let none = ap (λ (n : ℕ). take n c.read.new.buf) c.if-count-eq0.true in
    one_call g.W.World.told g.W.World.journal g.W.World.standing c.args.world.now c.read.new.self (Took Trace (take c.in_ok-count.count c.read.new.buf)) (Turned m m c.args.tells_end (Some run.Done)) c.read.ensures.told c.read.ensures.standing c.in_ok-count.ensures.journal
    (subst (λ (l : List ℕ). Turned m m c.args.tells_end (Some run.Done) (Took Trace l ∷ [])) (sym none) (end_untold c.if-not-tells_end.true refl refl (λ fed kept. c.instants.ensures.counted fed kept)))

pub returns-clause-turned : goal.returns-clause-turned
returns-clause-turned g c =
    let piece = take c.in_ok-count.count c.read.new.buf in
    let read : IsRead c.args.tells_end piece = record {
      short = read_within c.read.new.buf c.in_ok-count.count MOST_PIECE_BYTES c.in_ok-count.ensures.count (search rules);
      told = told_by c.in_ok-count.count c.args.tells_end piece (length-take-le c.in_ok-count.count c.read.new.buf c.in_ok-count.ensures.count) c.else-count-eq0.either;
    } in
    turned_by c.args.monitor.now c.pass.new.monitor c.args.tells_end piece read c.pass.result c.pass.ensures.taken

pub returns-clause-calls : goal.returns-clause-calls
returns-clause-calls g c =
    let m = c.args.monitor.now in
    let new = c.pass.new.monitor in
    let piece = take c.in_ok-count.count c.read.new.buf in
    let read : IsRead c.args.tells_end piece = record {
      short = read_within c.read.new.buf c.in_ok-count.count MOST_PIECE_BYTES c.in_ok-count.ensures.count (search rules);
      told = told_by c.in_ok-count.count c.args.tells_end piece (length-take-le c.in_ok-count.count c.read.new.buf c.in_ok-count.ensures.count) c.else-count-eq0.either;
    } in
    read_and g.W.World.told g.W.World.journal g.W.World.standing c.args.world.now c.read.new.self c.pass.new.world piece (Passes m new piece c.pass.result) (Turns m new c.args.tells_end c.pass.result) c.read.ensures.told c.read.ensures.standing
    c.in_ok-count.ensures.journal c.pass.ensures.calls (λ part has. turns_by m new c.args.tells_end piece read c.pass.result part has)
