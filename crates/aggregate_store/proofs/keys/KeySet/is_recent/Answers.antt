use Rattle.std.proofs.Common.{subst, to_z, of_z, to_z-of_z, w64}
use Rattle.std.specs.FinSet as set
use Rattle.std.specs.List.{Contains}
use Rattle.std.specs.Prelude.{IsTrue}
use Rattle.tsl_value.specs.View.{Keys}
use Rattle.tsl_value.specs.declared.scalar.Scalar.TheVariants as scalar
use Rattle.aggregate_store.specs.inner.Keys.{set_of}
use Rattle.aggregate_store.proofs.Recent.{pass_found}
use Rattle.aggregate_store.proofs.keys.KeySet.is_recent.Goals as goal

pub returns : goal.returns
returns c = λ so.
    let P : Keys → Type 0 = λ s. IsTrue (set.contains s (scalar.Int c.args.number)) in
    let found : Contains c.self.inside.recent.items c.args.number =
    subst (Contains c.self.inside.recent.items) (to_z-of_z c.ranges.number)
    (subst (λ xs. Contains xs (to_z w64 (of_z w64 c.args.number))) c.deref.ensures.value (c.is_found.ensures so)) in
    subst P c.self.view_is
    (pass_found (λ n. set.contains (set_of c.self.inside.keys) (scalar.Int n)) c.self.inside.recent.items c.args.number c.self.invariant found)
