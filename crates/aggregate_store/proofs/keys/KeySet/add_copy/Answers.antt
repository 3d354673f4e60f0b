use Rattle.aggregate_store.specs.inner.Keys.{set_of}
use Rattle.aggregate_store.proofs.Recent.{keys_added}
use Rattle.aggregate_store.proofs.keys.KeySet.add_copy.Goals as goal

pub invariant_of-self-2 : goal.invariant_of-self-2
invariant_of-self-2 c =
    keys_added (set_of c.self.inside.keys) (set_of c.insert.new.self) c.in_ok-copy.field-0 c.in_ok-insert.ensures.ok c.self.inside.recent.items c.self.invariant
