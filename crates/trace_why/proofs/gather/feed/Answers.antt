use Rattle.std.proofs.Common.{◌≡◌, ◌++◌, ℕ, Bool, List, false, true, sym, subst, rules}
use Rattle.std.proofs.lemmas.List.{append-nil}
use Rattle.trace_monitor.proofs.Going.{nothing_is}
use Rattle.trace_monitor.specs.Next.{is_nothing}
use Rattle.trace_reader.specs.inner.Reads.{Reads}
use Rattle.trace_why.proofs.gather.feed.Goals as goal

pub returns-then-is_empty : goal.returns-then-is_empty
returns-then-is_empty c = λ s strict limit fed given reads.
    let piece = c.args.piece.now in
    let r = c.finish.new.self in
    let end : is_nothing piece ≡ true = search rules in
    subst (λ (e : Bool). Reads r s strict limit (fed ++ piece) given e) (sym end)
    (subst (λ (l : List ℕ). Reads r s strict limit (fed ++ l) given true) (sym (nothing_is piece end))
    (subst (λ (l : List ℕ). Reads r s strict limit l given true) (sym (append-nil fed)) (c.finish.ensures.reads s strict limit fed given reads)))

pub returns-in_ok-feed : goal.returns-in_ok-feed
returns-in_ok-feed c = λ s strict limit fed given reads.
    let piece = c.args.piece.now in
    let some : is_nothing piece ≡ false = search rules in
    subst (λ (e : Bool). Reads c.feed.new.self s strict limit (fed ++ piece) given e) (sym some) (c.in_ok-feed.ensures.reads s strict limit fed given reads)
