use Rattle.std.proofs.Common.{◌<◌, [], ◌∷◌, length, refl, sym, subst}
use Rattle.flat_core.specs.declared.equation.Op.TheVariants as op
use Rattle.monitor_run.proofs.ActionLemmas.{known_of}
use Rattle.monitor_run.proofs.hand.hand_by.Goals as goal

pub merged-requires-clause-first : goal.merged-requires-clause-first
merged-requires-clause-first c = (known_of (length c.args.registers.now) c.args.action _ c.in-Merge.is c.requires.known op.Merge (c.in-Merge.a ∷ c.in-Merge.b ∷ []) (refl, refl)).0

pub merged-requires-clause-second : goal.merged-requires-clause-second
merged-requires-clause-second c = (known_of (length c.args.registers.now) c.args.action _ c.in-Merge.is c.requires.known op.Merge (c.in-Merge.a ∷ c.in-Merge.b ∷ []) (refl, refl)).1.0

pub passed-requires-clause-value : goal.passed-requires-clause-value
passed-requires-clause-value c = (known_of (length c.args.registers.now) c.args.action _ c.in-Filter.is c.requires.known op.Filter (c.in-Filter.a ∷ c.in-Filter.c ∷ []) (refl, refl)).0

pub passed-requires-clause-condition : goal.passed-requires-clause-condition
passed-requires-clause-condition c = (known_of (length c.args.registers.now) c.args.action _ c.in-Filter.is c.requires.known op.Filter (c.in-Filter.a ∷ c.in-Filter.c ∷ []) (refl, refl)).1.0

pub picked-requires-clause-condition : goal.picked-requires-clause-condition
picked-requires-clause-condition c = (known_of (length c.args.registers.now) c.args.action _ c.in-Pick.is c.requires.known op.Pick (c.in-Pick.c ∷ c.in-Pick.a ∷ c.in-Pick.b ∷ []) (refl, refl)).0

pub picked-requires-clause-first : goal.picked-requires-clause-first
picked-requires-clause-first c = (known_of (length c.args.registers.now) c.args.action _ c.in-Pick.is c.requires.known op.Pick (c.in-Pick.c ∷ c.in-Pick.a ∷ c.in-Pick.b ∷ []) (refl, refl)).1.0

pub picked-requires-clause-second : goal.picked-requires-clause-second
picked-requires-clause-second c = (known_of (length c.args.registers.now) c.args.action _ c.in-Pick.is c.requires.known op.Pick (c.in-Pick.c ∷ c.in-Pick.a ∷ c.in-Pick.b ∷ []) (refl, refl)).1.1.0

pub hand_last-requires-clause-value : goal.hand_last-requires-clause-value
hand_last-requires-clause-value c = subst (λ n. c.in-Last.v < n) (sym c.requires.one_each) (known_of (length c.args.registers.now) c.args.action _ c.in-Last.is c.requires.known op.Last (c.in-Last.v ∷ c.in-Last.r ∷ []) (refl, refl)).0

pub hand_last-requires-clause-trigger : goal.hand_last-requires-clause-trigger
hand_last-requires-clause-trigger c = (known_of (length c.args.registers.now) c.args.action _ c.in-Last.is c.requires.known op.Last (c.in-Last.v ∷ c.in-Last.r ∷ []) (refl, refl)).1.0
