use Rattle.std.proofs.Common.{◌≡◌, OnOk, ◌<◌, ◌&&◌, ◌||◌, false, length, sym, ap, subst, ◌∙◌, arith}
use Rattle.std.proofs.lemmas.List.{with_items_is}
use Rattle.std.specs.Prelude.{if◌then◌else◌, IsTrue, slice_index_or}
use Rattle.std.specs.List.{All}
use Rattle.std.specs.FinMap as finite_map
use Rattle.std.specs.Vec.{with_items}
use Rattle.aggregate_store.specs.inner.Stored.{is_listed}
use Rattle.body_eval.specs.declared.register.Register.TheVariants.{Empty}
use Rattle.flat_core.specs.Members.{is_in}
use Rattle.flat_core.specs.System.{equation}
use Rattle.flat_core.specs.Kept.{is_timer}
use Rattle.monitor_run.specs.inner.Here.{IsBare}
use Rattle.monitor_run.specs.inner.Instant.{cells_in, kept_register, set_at}
use Rattle.monitor_run.specs.inner.Registers.{AreHeld, register_at}
use Rattle.monitor_run.proofs.BareLemmas.{bare_filled, still_listed}
use Rattle.monitor_run.proofs.EndLemmas.{all_known, emptied_either, kept_either}
use Rattle.monitor_run.proofs.InstantLemmas.{all_kept, ends, kept_there_in}
use Rattle.monitor_run.proofs.SoleLemmas.{live_kept}
use Rattle.monitor_run.proofs.TableLemmas.{delays_run, set_all}
use Rattle.monitor_run.proofs.instant.end.Goals as goal

pub set_timers-requires-clause-running : goal.set_timers-requires-clause-running
set_timers-requires-clause-running c =
    subst (All (λ i. IsTrue (is_timer c.args.flat.now i))) (sym c.delays.ensures)
    (delays_run c.args.flat.now c.requires.whole c.args.tables.now c.requires.tables.0 c.requires.tables.1 c.args.all_delays c.args.timers.now c.requires.timers c.args.visits.now.filled.items c.args.visits.now.delays.items c.args.machine.now.registers.items c.requires.room.registers (λ going. c.requires.filled (c.requires.fewer going)) c.requires.delays)

pub keep_filled-touched-requires-clause-keeps_known : goal.keep_filled-touched-requires-clause-keeps_known
keep_filled-touched-requires-clause-keeps_known c = all_kept c.args.flat.now c.requires.whole _ (ap length c.deref_mut.ensures.value ∙ c.requires.room.registers) c.args.keeps.now c.requires.keeps

pub keep_filled-touched-requires-clause-known : goal.keep_filled-touched-requires-clause-known
keep_filled-touched-requires-clause-known c = λ going.
    subst (All (λ i. i < length c.deref_mut.result.now)) (sym c.deref-3.ensures.value)
    (all_known _ c.args.machine.now.registers.items (c.requires.filled going) _ (ap length c.deref_mut.ensures.value))

pub keep_filled-touched-requires-clause-kept : goal.keep_filled-touched-requires-clause-kept
keep_filled-touched-requires-clause-kept c = λ i listed.
    ap (λ xs. slice_index_or xs i false) c.deref-2.ensures.value
    ∙ kept_there_in c.args.flat.now c.requires.whole c.args.tables.now.kept.items c.requires.tables.1.kept i (ap (λ xs. is_in xs i) (sym c.requires.keeps) ∙ listed)

pub drop_others-requires-clause-known : goal.drop_others-requires-clause-known
drop_others-requires-clause-known c =
    all_kept c.args.flat.now c.requires.whole _ (ap length c.deref-4.ensures.value ∙ sym (with_items c.args.machine.now.last c.keep_filled-touched.new.last).ok.0 ∙ c.args.machine.now.last.ok.0 ∙ c.requires.room.last) c.args.keeps.now c.requires.keeps

pub drop_others-requires-clause-live : goal.drop_others-requires-clause-live
drop_others-requires-clause-live c =
    let s = c.args.flat.now in
    let old = c.args.machine.now in
    let registers_is = c.deref_mut.ensures.value in
    let last_is = c.deref_mut-2.ensures.value in
    let len : length c.keep_filled-touched.new.last ≡ old.last.len = omega (arith, ap length last_is, old.last.ok.0) in
    live_kept s c.requires.whole c.requires.held.0 old.store.cells old.registers.items old.last.items c.deref-4.result.now c.args.keeps.now c.requires.held.1 c.requires.held.2 c.requires.keeps
    (λ i. ap (λ rs. register_at rs i) (c.deref-4.ensures.value ∙ with_items_is old.last c.keep_filled-touched.new.last len) ∙ c.keep_filled-touched.ensures.last i
    ∙ (λ k. if (if c.args.all then is_in c.args.keeps.now i else is_in (c.deref-3.ensures.value k) i && slice_index_or (c.deref-2.ensures.value k) i false) then kept_register (register_at (registers_is k) i) (register_at (last_is k) i) else register_at (last_is k) i)
    ∙ kept_either s c.args.all c.args.visits.now.filled.items c.args.keeps.now c.args.tables.now.kept.items old.registers.items c.requires.filled c.requires.room.registers c.requires.tables.1.kept c.requires.keeps (register_at old.last.items i) i)

pub drop_others-requires-clause-all_held : goal.drop_others-requires-clause-all_held
drop_others-requires-clause-all_held c = λ fails h live.
    let s = c.args.flat.now in
    let old = c.args.machine.now in
    let filled = c.args.visits.now.filled.items in
    let registers_is = c.deref_mut.ensures.value in
    let last_is = c.deref_mut-2.ensures.value in
    let len : length c.keep_filled-touched.new.last ≡ old.last.len = omega (arith, ap length last_is, old.last.ok.0) in
    let bare = bare_filled c.args.all filled old.registers.items c.requires.filled (λ i there.
    subst (λ rs. IsBare (register_at rs i)) registers_is
    (c.keep_filled-touched.ensures.bare fails i (subst (λ xs. IsTrue (c.args.all || is_in xs i)) (sym c.deref-3.ensures.value) there))) in
    ap (λ ks. is_listed (cells_in c.deref-4.result.now ks) h) c.requires.keeps
    ∙ still_listed s c.requires.whole c.requires.held.0 old.store.cells old.registers.items old.last.items c.deref-4.result.now c.requires.held.1 c.requires.held.2 bare
    (λ i. ap (λ rs. register_at rs i) (c.deref-4.ensures.value ∙ with_items_is old.last c.keep_filled-touched.new.last len) ∙ c.keep_filled-touched.ensures.last i
    ∙ (λ k. if (if c.args.all then is_in c.args.keeps.now i else is_in (c.deref-3.ensures.value k) i && slice_index_or (c.deref-2.ensures.value k) i false) then kept_register (register_at (registers_is k) i) (register_at (last_is k) i) else register_at (last_is k) i)
    ∙ kept_either s c.args.all filled c.args.keeps.now c.args.tables.now.kept.items old.registers.items c.requires.filled c.requires.room.registers c.requires.tables.1.kept c.requires.keeps (register_at old.last.items i) i)
    h (c.requires.listed bare h live)

pub returns-clause-registers : goal.returns-clause-registers
returns-clause-registers c = λ i.
    let old = c.args.machine.now in
    let registers_is = c.deref_mut.ensures.value in
    let len : length c.keep_filled-touched.new.registers ≡ old.registers.len = omega (arith, ap length registers_is, old.registers.ok.0) in
    ap (λ rs. register_at rs i) (with_items_is old.registers c.keep_filled-touched.new.registers len) ∙ c.keep_filled-touched.ensures.registers i
    ∙ (λ k. if c.args.all || is_in (c.deref-3.ensures.value k) i then Empty else register_at (registers_is k) i)
    ∙ emptied_either c.args.all c.args.visits.now.filled.items old.registers.items c.requires.filled i

pub returns-clause-ended : goal.returns-clause-ended
returns-clause-ended c =
    let s = c.args.flat.now in
    let t = c.args.time in
    let old = c.args.machine.now in
    let are = c.requires.tables.1 in
    let registers_is = c.deref_mut.ensures.value in
    let last_is = c.deref_mut-2.ensures.value in
    let seen_is = c.deref.ensures.value in
    let len : length c.keep_filled-touched.new.last ≡ old.last.len = omega (arith, ap length last_is, old.last.ok.0) in
    let kept_is = with_items_is old.last c.keep_filled-touched.new.last len in
    ends s t old _
    (λ i. ap (λ rs. register_at rs i) kept_is ∙ c.keep_filled-touched.ensures.last i
    ∙ (λ k. if (if c.args.all then is_in c.args.keeps.now i else is_in (c.deref-3.ensures.value k) i && slice_index_or (c.deref-2.ensures.value k) i false) then kept_register (register_at (registers_is k) i) (register_at (last_is k) i) else register_at (last_is k) i)
    ∙ kept_either s c.args.all c.args.visits.now.filled.items c.args.keeps.now c.args.tables.now.kept.items old.registers.items c.requires.filled c.requires.room.registers are.kept c.requires.keeps (register_at old.last.items i) i)
    (λ types cells held i. c.set_timers.ensures.set types cells (subst (AreHeld s types cells) (sym seen_is) held) i
    ∙ (λ k. if is_in (c.delays.ensures k) i then set_at (equation s i) cells (seen_is k) t i (finite_map.get old.timers.times i) else finite_map.get old.timers.times i)
    ∙ set_all s c.requires.whole c.args.tables.now c.requires.tables.0 are c.args.all_delays c.args.timers.now c.requires.timers c.args.visits.now.filled.items c.args.visits.now.delays.items old.registers.items c.requires.room.registers (λ going. c.requires.filled (c.requires.fewer going)) c.requires.delays cells t i (finite_map.get old.timers.times i))
    c.drop_others.result
    (subst (λ f. OnOk c.drop_others.result (c.drop_others.new.store ≡ record old.store { cells = finite_map.retain_keys old.store.cells f }))
    (λ k. is_listed (cells_in (c.deref-4.ensures.value k) (c.requires.keeps k))) c.drop_others.ensures.ok)
