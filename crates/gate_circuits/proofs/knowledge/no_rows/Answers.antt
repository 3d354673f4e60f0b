use Rattle.std.proofs.Common.{ℕ, List, length, sym, subst}
use Rattle.gate_circuits.specs.inner.Knowledge.{AreImplied, AreRowsImplied}
use Rattle.gate_circuits.proofs.Rows.{rows_push, none_implied}
use Rattle.gate_circuits.proofs.knowledge.no_rows.Goals as goal

pub rows-preserved : goal.rows-preserved
rows-preserved c gates =
    subst (λ (l : List (List ℕ)). AreRowsImplied gates l) (sym c.in_ok-push.ensures.items)
    (rows_push (AreImplied gates) c.rows.rows.items c.without_room.result (c.rows.invariant gates)
    (none_implied gates (length c.rows.rows.items) c.without_room.result c.without_room.ensures))
