use Rattle.std.proofs.Common.{◌≡◌, List, subst, arith}
use Rattle.std.specs.Result.{OnOk, OnErr}
use Rattle.indexmap.specs.IndexSet.{insert_key}
use Rattle.decision_diagrams.specs.inner.Arena.{IsArena, same_branch}
use Rattle.decision_diagrams.specs.declared.arena.Branch.{Branch}
use Rattle.decision_diagrams.proofs.Nodes.{after, arena_after, grows_after, value_fork, after_fork}
use Rattle.decision_diagrams.proofs.arena.Arena.fork.Goals as goal

pub invariant_of-self-2 : goal.invariant_of-self-2
invariant_of-self-2 c =
    let b : Branch = record { variable = c.args.variable; low = c.args.low; high = c.args.high } in
    let ok = subst (λ (l : List Branch). OnOk c.insert_full.result (c.insert_full.new.self.keys ≡ insert_key same_branch l b)) c.self.view_is c.insert_full.ensures.keys in
    let err = subst (λ (l : List Branch). OnErr c.insert_full.result (c.insert_full.new.self.keys ≡ l)) c.self.view_is c.insert_full.ensures.err in
    arena_after c.args.self.now c.insert_full.new.self.keys b (subst IsArena c.self.view_is c.self.invariant) c.requires.low c.requires.high (λ e. let f = c.if-low-high.false in omega arith) c.requires.low_after c.requires.high_after
    c.insert_full.ensures.unique (after c.insert_full.result c.args.self.now c.insert_full.new.self.keys b ok err)

pub returns-clause-grows : goal.returns-clause-grows
returns-clause-grows c =
    let b : Branch = record { variable = c.args.variable; low = c.args.low; high = c.args.high } in
    let ok = subst (λ (l : List Branch). OnOk c.insert_full.result (c.insert_full.new.self.keys ≡ insert_key same_branch l b)) c.self.view_is c.insert_full.ensures.keys in
    let err = subst (λ (l : List Branch). OnErr c.insert_full.result (c.insert_full.new.self.keys ≡ l)) c.self.view_is c.insert_full.ensures.err in
    grows_after c.args.self.now c.insert_full.new.self.keys b (after c.insert_full.result c.args.self.now c.insert_full.new.self.keys b ok err)

pub returns-clause-exact : goal.returns-clause-exact
returns-clause-exact c =
    let b : Branch = record { variable = c.args.variable; low = c.args.low; high = c.args.high } in
    let it = c.in_ok-index.ensures.stored in
    value_fork c.args.self.now c.insert_full.new.self.keys b it.0 c.in_ok-index.index (invariant_of-self-2 c) (returns-clause-grows c) c.requires.low c.requires.high it.1 it.2

pub returns-clause-deeper : goal.returns-clause-deeper
returns-clause-deeper c =
    let b : Branch = record { variable = c.args.variable; low = c.args.low; high = c.args.high } in
    let it = c.in_ok-index.ensures.stored in
    after_fork c.args.self.now c.insert_full.new.self.keys b it.0 c.in_ok-index.index (invariant_of-self-2 c) (returns-clause-grows c) c.requires.low c.requires.high it.1 it.2
