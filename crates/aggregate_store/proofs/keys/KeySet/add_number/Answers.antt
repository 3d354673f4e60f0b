use Rattle.std.proofs.Common.{◌≡◌, true, sym, ap, ◌∙◌, subst, to_z-of_z}
use Rattle.std.specs.FinSet as set
use Rattle.tsl_value.specs.View.{Keys}
use Rattle.tsl_value.specs.declared.scalar.Scalar.TheVariants as scalar
use Rattle.aggregate_store.specs.inner.Keys.{set_of}
use Rattle.aggregate_store.proofs.Recent.{key_added, keys_added}
use Rattle.aggregate_store.proofs.keys.KeySet.add_number.Goals as goal

pub invariant_of-self-then-self : goal.invariant_of-self-then-self
invariant_of-self-then-self c =
    let s = set_of c.self.inside.keys in let n = set_of c.insert_number.new.self in let k = scalar.Int c.args.number in
    let is = subst (λ z. n ≡ set.insert s (scalar.Int z)) (to_z-of_z c.ranges.number) c.in_ok-insert_number.ensures.ok in
    c.note.ensures (λ z. set.contains n (scalar.Int z)) (keys_added s n k is c.self.inside.recent.items c.self.invariant)
    (subst (λ z. set.contains n (scalar.Int z) ≡ true) (sym (to_z-of_z c.ranges.number)) (key_added s n k is))

pub invariant_of-self-else-self : goal.invariant_of-self-else-self
invariant_of-self-else-self c =
    let s = set_of c.self.inside.keys in let n = set_of c.insert_number.new.self in
    let is = subst (λ z. n ≡ set.insert s (scalar.Int z)) (to_z-of_z c.ranges.number) c.in_ok-insert_number.ensures.ok in
    keys_added s n (scalar.Int c.args.number) is c.self.inside.recent.items c.self.invariant

pub returns-then-self-clause-ok : goal.returns-then-self-clause-ok
returns-then-self-clause-ok c =
    let s = set_of c.self.inside.keys in let n = set_of c.insert_number.new.self in
    let is = subst (λ z. n ≡ set.insert s (scalar.Int z)) (to_z-of_z c.ranges.number) c.in_ok-insert_number.ensures.ok in
    is ∙ ap (λ (keys : Keys). set.insert keys (scalar.Int c.args.number)) c.self.view_is

pub returns-else-self-clause-ok : goal.returns-else-self-clause-ok
returns-else-self-clause-ok c =
    let s = set_of c.self.inside.keys in let n = set_of c.insert_number.new.self in
    let is = subst (λ z. n ≡ set.insert s (scalar.Int z)) (to_z-of_z c.ranges.number) c.in_ok-insert_number.ensures.ok in
    is ∙ ap (λ (keys : Keys). set.insert keys (scalar.Int c.args.number)) c.self.view_is
