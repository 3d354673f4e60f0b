use Rattle.std.proofs.Common.{◌≡◌, ◌≤◌, ◌++◌, [], false, take, length, refl, ◌∙◌, ap, subst, rules, arith, Option, Ok}
use Rattle.trace_monitor.specs.declared.options.Options.{Options}
use Rattle.trace_monitor.specs.Next.{is_nothing}
use Rattle.trace_reader.specs.declared.limits.TheConstants.{MOST_PIECE_BYTES}
use Rattle.trace_why.specs.Answer.{AnswersBy, IsAnswerFor}
use Rattle.trace_why.specs.Ending.{IsAwaited}
use Rattle.trace_why.specs.declared.ending.WhyEnding.{WhyEnding}
use Rattle.tsl_world.proofs.Runs.{none, weaker}
use Rattle.tsl_world.proofs.Untouched.{read_within}
use Rattle.why_run.specs.Effects.{Asks, HasAsked}
use Rattle.why_run.proofs.Asking.{Asked, asked_by, asked_more, asked_so, awaits_more, none_asked, of_same, read_fails, reads_on, takes_more, takes_within}
use Rattle.why_run.proofs.Starting.{awaited_at_start}
use Rattle.why_run.proofs.ask.read_on.Goals as goal

pub loop-init : goal.loop-init
loop-init g c =
    let m = c.args.monitor.now in (
      c.requires.room,
      c.requires.short,
      refl,
      refl,
      refl,
      refl,
      refl,
      (
        [],
        c.requires.kept,
        omega arith,
        awaited_at_start m.system m.options m.question c.requires.ready,
        none g.W.World.told g.W.World.journal g.W.World.standing c.args.world.now (Asked m.system m.options m.question [] false) (none_asked m.system m.options m.question),
      ),
    )

pub returns-in_err-count-clause-calls : goal.returns-in_err-count-clause-calls
returns-in_err-count-clause-calls g c =
    let m = c.args.monitor.now in
    let (fed, kept, rounds, awaited, calls) = c.loop.invariant.7 in
    read_fails m.system m.options m.question g.W.World.told g.W.World.journal g.W.World.standing c.args.world.now c.loop.world c.read.new.self fed awaited calls
    c.read.ensures.told c.read.ensures.standing c.in_err-count.ensures.journal

pub advance-requires-clause-kept : goal.advance-requires-clause-kept
advance-requires-clause-kept g c = let (fed, kept, rounds, awaited, calls) = c.loop.invariant.7 in (fed, kept)

pub returns-in_err-by-clause-calls : goal.returns-in_err-by-clause-calls
returns-in_err-by-clause-calls g c =
    let m = c.args.monitor.now in
    let piece = take c.in_ok-count.count c.read.new.buf in
    let short : length piece ≤ MOST_PIECE_BYTES = read_within c.read.new.buf c.in_ok-count.count MOST_PIECE_BYTES c.in_ok-count.ensures.count (search rules) in
    let (fed, kept, rounds, awaited, calls) = c.loop.invariant.7 in
    let read = reads_on m.system m.options m.question g.W.World.told g.W.World.journal g.W.World.standing c.args.world.now c.loop.world c.read.new.self fed awaited calls
    c.read.ensures.told c.read.ensures.standing piece short c.in_ok-count.ensures.journal in
    weaker g.W.World.told g.W.World.journal g.W.World.standing _ _ _ (Asks m.system m.options m.question) read
    (λ p at. asked_so m.system m.options m.question (fed ++ piece) (is_nothing piece) p at)

pub returns-in-Some-clause-calls : goal.returns-in-Some-clause-calls
returns-in-Some-clause-calls g c =
    let m = c.args.monitor.now in
    let piece = take c.in_ok-count.count c.read.new.buf in
    let short : length piece ≤ MOST_PIECE_BYTES = read_within c.read.new.buf c.in_ok-count.count MOST_PIECE_BYTES c.in_ok-count.ensures.count (search rules) in
    let (fed, kept, rounds, awaited, calls) = c.loop.invariant.7 in
    let read = reads_on m.system m.options m.question g.W.World.told g.W.World.journal g.W.World.standing c.args.world.now c.loop.world c.read.new.self fed awaited calls
    c.read.ensures.told c.read.ensures.standing piece short c.in_ok-count.ensures.journal in
    weaker g.W.World.told g.W.World.journal g.W.World.standing _ _ _ (Asks m.system m.options m.question) read
    (λ p at. asked_so m.system m.options m.question (fed ++ piece) (is_nothing piece) p at)

pub returns-in-Some-clause-ending : goal.returns-in-Some-clause-ending
returns-in-Some-clause-ending g c =
    let m = c.args.monitor.now in
    let piece = take c.in_ok-count.count c.read.new.buf in
    let short : length piece ≤ MOST_PIECE_BYTES = read_within c.read.new.buf c.in_ok-count.count MOST_PIECE_BYTES c.in_ok-count.ensures.count (search rules) in
    let (fed, kept, rounds, awaited, calls) = c.loop.invariant.7 in
    let read = reads_on m.system m.options m.question g.W.World.told g.W.World.journal g.W.World.standing c.args.world.now c.loop.world c.read.new.self fed awaited calls
    c.read.ensures.told c.read.ensures.standing piece short c.in_ok-count.ensures.journal in
    let answers = of_same (λ s o q. AnswersBy s o q (fed ++ piece) (is_nothing piece) c.in-Some.by) c.loop.monitor.system m.system c.loop.monitor.options m.options c.loop.monitor.question m.question
    c.loop.invariant.4 c.loop.invariant.5 c.loop.invariant.6
    (subst (λ (x : Option WhyEnding). IsAnswerFor c.loop.monitor.system c.loop.monitor.options c.loop.monitor.question (fed ++ piece) (is_nothing piece) x) c.in-Some.is (c.in_ok-by.ensures.answer fed kept)) in
    weaker g.W.World.told g.W.World.journal g.W.World.standing _ _ _ (HasAsked m.system m.options m.question c.in-Some.by) read
    (λ p at. asked_by m.system m.options m.question (fed ++ piece) (is_nothing piece) p at c.in-Some.by answers)

pub loop-preserved : goal.loop-preserved
loop-preserved g c =
    let m = c.args.monitor.now in
    let piece = take c.in_ok-count.count c.read.new.buf in
    let short : length piece ≤ MOST_PIECE_BYTES = read_within c.read.new.buf c.in_ok-count.count MOST_PIECE_BYTES c.in_ok-count.ensures.count (search rules) in
    let (fed, kept, rounds, awaited, calls) = c.loop.invariant.7 in
    let read = reads_on m.system m.options m.question g.W.World.told g.W.World.journal g.W.World.standing c.args.world.now c.loop.world c.read.new.self fed awaited calls
    c.read.ensures.told c.read.ensures.standing piece short c.in_ok-count.ensures.journal in
    let again = of_same (λ s o q. IsAwaited s o q (fed ++ piece) (is_nothing piece)) c.loop.monitor.system m.system c.loop.monitor.options m.options c.loop.monitor.question m.question
    c.loop.invariant.4 c.loop.invariant.5 c.loop.invariant.6
    (subst (λ (x : Option WhyEnding). IsAnswerFor c.loop.monitor.system c.loop.monitor.options c.loop.monitor.question (fed ++ piece) (is_nothing piece) x) c.in_default.is (c.in_ok-by.ensures.answer fed kept)) in (
      search rules,
      search rules,
      c.in_ok-count.ensures.cause.ok ∙ c.loop.invariant.2,
      c.read.ensures.heard ∙ c.loop.invariant.3,
      c.advance.ensures.system ∙ c.loop.invariant.4,
      c.advance.ensures.options ∙ c.loop.invariant.5,
      c.advance.ensures.question ∙ c.loop.invariant.6,
      (
        fed ++ piece,
        c.advance.ensures.kept fed kept (c.in_ok-by.was ∙ ap (λ (x : Option WhyEnding). Ok x) c.in_default.is),
        takes_more c.loop.counter fed piece again.unended rounds,
        awaits_more m.system m.options m.question (fed ++ piece) (is_nothing piece) again,
        weaker g.W.World.told g.W.World.journal g.W.World.standing _ _ _ (Asked m.system m.options m.question (fed ++ piece) false) read
            (λ p at. asked_more m.system m.options m.question (fed ++ piece) (is_nothing piece) p at again),
      ),
    )

pub unreachable-requires : goal.unreachable-requires
unreachable-requires g c =
    let (fed, kept, rounds, awaited, calls) = c.loop.invariant.7 in
    let within = takes_within c.loop.monitor fed kept in
    let asked = c.requires.limit in
    let same : c.loop.monitor.options.bytes ≡ c.args.monitor.now.options.bytes = ap (λ (o : Options). o.bytes) c.loop.invariant.5 in
    let past = c.loop-test.false in
    absurd (omega arith)
