use Rattle.std.proofs.Common.{◌≡◌, ◌≤◌, take, length, true, false, refl, sym, subst, rules, List, ℕ, ◌++◌, []}
use Rattle.tsl_world.specs.declared.outside.Did.TheVariants.{Took, NotTook}
use Rattle.tsl_world.specs.Runs.{Runs}
use Rattle.tsl_world.proofs.Untouched.{read_within}
use Rattle.tsl_world.proofs.Runs.{none}
use Rattle.trace_monitor.specs.Next.{is_nothing}
use Rattle.tessla_cli.specs.inner.RunPhases.{GivesFile, ReadsFile}
use Rattle.tessla_cli.proofs.Reading.{HasRead, has_read_none, reads_failed, reads_more, has_read_more, has_read_all, file_read_on, none_taken, some_taken}
use Rattle.tessla_cli.proofs.file.read_whole.Goals as goal
use Rattle.trace_reader.specs.declared.limits.TheConstants.{MOST_PIECE_BYTES}

pub loop-slot-init : goal.loop-slot-init
loop-slot-init g c = record {
  room = c.requires.room;
  short = c.requires.short;
  faults = refl;
  unheard = refl;
  calls = subst (λ (l : List ℕ). Runs g.W.World.told g.W.World.journal g.W.World.standing c.args.world.now c.args.world.now (HasRead c.args.slot c.args.most l)) (sym c.new-bytes.ensures)
      (none g.W.World.told g.W.World.journal g.W.World.standing c.args.world.now (HasRead c.args.slot c.args.most []) (has_read_none c.args.slot c.args.most));
}

pub returns-in_err-count-clause-calls : goal.returns-in_err-count-clause-calls
returns-in_err-count-clause-calls g c =
    let within : length c.loop-slot.bytes ≤ c.args.most = rw (← c.len.ensures) c.loop-slot-test.true in
    file_read_on g.W.World.told g.W.World.journal g.W.World.standing c.args.slot c.args.most c.args.world.now c.loop-slot.world c.read.new.self c.loop-slot.bytes (NotTook c.args.slot) (ReadsFile c.args.slot c.args.most) c.loop-slot.invariant.calls
    (λ p at. reads_failed c.args.slot c.args.most c.loop-slot.bytes p at within) c.read.ensures.told c.read.ensures.standing c.in_err-count.ensures.journal

pub returns-then-count-eq0-clause-calls : goal.returns-then-count-eq0-clause-calls
returns-then-count-eq0-clause-calls g c =
    let piece = take c.in_ok-count.count c.read.new.buf in
    let within : length c.loop-slot.bytes ≤ c.args.most = rw (← c.len.ensures) c.loop-slot-test.true in
    let short : length piece ≤ MOST_PIECE_BYTES = read_within c.read.new.buf c.in_ok-count.count MOST_PIECE_BYTES c.in_ok-count.ensures.count (search rules) in
    file_read_on g.W.World.told g.W.World.journal g.W.World.standing c.args.slot c.args.most c.args.world.now c.loop-slot.world c.read.new.self c.loop-slot.bytes (Took c.args.slot piece) (ReadsFile c.args.slot c.args.most) c.loop-slot.invariant.calls
    (λ p at. reads_more c.args.slot c.args.most c.loop-slot.bytes p at piece within short) c.read.ensures.told c.read.ensures.standing c.in_ok-count.ensures.journal

pub returns-then-count-eq0-clause-bytes : goal.returns-then-count-eq0-clause-bytes
returns-then-count-eq0-clause-bytes g c =
    let piece = take c.in_ok-count.count c.read.new.buf in
    let none : is_nothing piece ≡ true = none_taken c.in_ok-count.count c.read.new.buf c.if-count-eq0.true in
    file_read_on g.W.World.told g.W.World.journal g.W.World.standing c.args.slot c.args.most c.args.world.now c.loop-slot.world c.read.new.self c.loop-slot.bytes (Took c.args.slot piece) (GivesFile c.args.slot c.args.most c.loop-slot.bytes) c.loop-slot.invariant.calls
    (λ p at. has_read_all c.args.slot c.args.most c.loop-slot.bytes p at piece none) c.read.ensures.told c.read.ensures.standing c.in_ok-count.ensures.journal

pub loop-slot-preserved : goal.loop-slot-preserved
loop-slot-preserved g c =
    let piece = take c.in_ok-count.count c.read.new.buf in
    let within : length c.loop-slot.bytes ≤ c.args.most = rw (← c.len.ensures) c.loop-slot-test.true in
    let short : length piece ≤ MOST_PIECE_BYTES = read_within c.read.new.buf c.in_ok-count.count MOST_PIECE_BYTES c.in_ok-count.ensures.count (search rules) in
    let some : is_nothing piece ≡ false = some_taken c.in_ok-count.count c.read.new.buf c.in_ok-count.ensures.count c.if-count-eq0.false in
    record {
      room = search rules;
      short = search rules;
      faults = search rules;
      unheard = search rules;
      calls = subst (λ (l : List ℕ). Runs g.W.World.told g.W.World.journal g.W.World.standing c.args.world.now c.read.new.self (HasRead c.args.slot c.args.most l)) (sym c.in_ok-append.ensures.ok)
          (file_read_on g.W.World.told g.W.World.journal g.W.World.standing c.args.slot c.args.most c.args.world.now c.loop-slot.world c.read.new.self c.loop-slot.bytes (Took c.args.slot piece) (HasRead c.args.slot c.args.most (c.loop-slot.bytes ++ piece)) c.loop-slot.invariant.calls
          (λ p at. has_read_more c.args.slot c.args.most c.loop-slot.bytes p at piece within short some) c.read.ensures.told c.read.ensures.standing c.in_ok-count.ensures.journal);
    }

pub returns-in_err-append-clause-calls : goal.returns-in_err-append-clause-calls
returns-in_err-append-clause-calls g c =
    let piece = take c.in_ok-count.count c.read.new.buf in
    let within : length c.loop-slot.bytes ≤ c.args.most = rw (← c.len.ensures) c.loop-slot-test.true in
    let short : length piece ≤ MOST_PIECE_BYTES = read_within c.read.new.buf c.in_ok-count.count MOST_PIECE_BYTES c.in_ok-count.ensures.count (search rules) in
    file_read_on g.W.World.told g.W.World.journal g.W.World.standing c.args.slot c.args.most c.args.world.now c.loop-slot.world c.read.new.self c.loop-slot.bytes (Took c.args.slot piece) (ReadsFile c.args.slot c.args.most) c.loop-slot.invariant.calls
    (λ p at. reads_more c.args.slot c.args.most c.loop-slot.bytes p at piece within short) c.read.ensures.told c.read.ensures.standing c.in_ok-count.ensures.journal
