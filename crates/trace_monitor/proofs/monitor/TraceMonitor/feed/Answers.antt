use Rattle.std.proofs.Common.{◌≡◌, ◌++◌, List, ℕ, Bool, true, false, sym, subst, ap, rules}
use Rattle.std.proofs.lemmas.List.{append-nil}
use Rattle.trace_reader.specs.inner.AnyReader.{HasEnded, HasFed}
use Rattle.trace_reader.specs.inner.Reader.{Reader}
use Rattle.trace_reader.specs.inner.Reads.{Reads}
use Rattle.trace_monitor.specs.Next.{is_nothing}
use Rattle.trace_monitor.specs.inner.State.{State}
use Rattle.trace_monitor.proofs.Going.{nothing_is}
use Rattle.trace_monitor.proofs.Waiting.{fed_in, finished_in}
use Rattle.trace_monitor.proofs.monitor.TraceMonitor.feed.Goals as goal

pub returns-then-is_empty-clause-fed : goal.returns-then-is_empty-clause-fed
returns-then-is_empty-clause-fed c = λ fed lines reads.
    let piece = c.args.piece.now in
    let end : is_nothing piece ≡ true = search rules in
    let s = c.args.self.now.system in
    let strict = c.args.self.now.options.strict in
    let limit = c.args.self.now.options.bytes in
    let before = subst (λ (r : Reader). Reads r s strict limit fed lines false) (sym (ap (λ (m : State). m.reader) c.self.view_is)) reads in
    subst (λ (e : Bool). Reads c.finish.new.self s strict limit (fed ++ piece) lines e) (sym end)
    (subst (λ (l : List ℕ). Reads c.finish.new.self s strict limit (fed ++ l) lines true) (sym (nothing_is piece end))
    (subst (λ (l : List ℕ). Reads c.finish.new.self s strict limit l lines true) (sym (append-nil fed)) (c.finish.ensures.reads s strict limit fed lines before)))

pub returns-in_ok-feed-clause-fed : goal.returns-in_ok-feed-clause-fed
returns-in_ok-feed-clause-fed c = λ fed lines reads.
    let piece = c.args.piece.now in
    let some : is_nothing piece ≡ false = search rules in
    let s = c.args.self.now.system in
    let strict = c.args.self.now.options.strict in
    let limit = c.args.self.now.options.bytes in
    let before = subst (λ (r : Reader). Reads r s strict limit fed lines false) (sym (ap (λ (m : State). m.reader) c.self.view_is)) reads in
    subst (λ (e : Bool). Reads c.feed.new.self s strict limit (fed ++ piece) lines e) (sym some) (c.in_ok-feed.ensures.reads s strict limit fed lines before)

pub returns-then-is_empty-clause-any : goal.returns-then-is_empty-clause-any
returns-then-is_empty-clause-any c =
    let end : is_nothing c.args.piece.now ≡ true = search rules in
    let reader = ap (λ (m : State). m.reader) c.self.view_is in
    finished_in c.args.self.now.reader c.finish.new.self c.args.piece.now c.requires.awaits end (subst (λ (r : Reader). r.ended ≡ false → HasEnded r c.finish.new.self) reader c.finish.ensures.ended)

pub returns-in_ok-feed-clause-any : goal.returns-in_ok-feed-clause-any
returns-in_ok-feed-clause-any c =
    let some : is_nothing c.args.piece.now ≡ false = search rules in
    let reader = ap (λ (m : State). m.reader) c.self.view_is in
    fed_in c.args.self.now.reader c.feed.new.self c.args.piece.now c.requires.awaits some (subst (λ (r : Reader). HasFed r c.feed.new.self c.args.piece.now) reader c.in_ok-feed.ensures.fed)
