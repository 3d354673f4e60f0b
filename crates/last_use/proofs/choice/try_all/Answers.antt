use Rattle.last_use.proofs.choice.try_all.Goals as goal

pub with_next-requires-clause-several : goal.with_next-requires-clause-several
with_next-requires-clause-several c several = c.none_is_nil-none_is_nil.ensures (c.at_once-most.ensures several)
