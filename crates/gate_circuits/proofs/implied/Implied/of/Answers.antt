use Rattle.std.proofs.Common.{ℕ, ◌+◌, ◌∷◌, [], List, length, sym, ap, subst, ◌∙◌}
use Rattle.std.proofs.lemmas.List.{length-append}
use Rattle.gate_circuits.specs.declared.circuit.Gate.{Gate}
use Rattle.gate_circuits.specs.inner.Knowledge.{AreModels, AreRefuted, AreRowsRefuted}
use Rattle.gate_circuits.proofs.Rows.{rows_push}
use Rattle.gate_circuits.proofs.implied.Implied.of.Goals as goal

pub firsts-preserved : goal.firsts-preserved
firsts-preserved c =
    let gates = c.firsts.knowledge in
    let rows = c.firsts.refuted.items in
    let row = c.in_ok-row.row.refuted in
    let same = c.put_row.ensures in
    record {
      same = same ∙ c.firsts.invariant.same;
      models = subst (λ (g : List Gate). AreModels g c.row_of.new.models.items) (sym same) c.in_ok-row.ensures.models;
      refuted = subst (λ (g : List Gate). AreRowsRefuted g c.push.new.self.items) (sym same)
          (subst (λ (l : List (List ℕ)). AreRowsRefuted gates l) (sym c.in_ok-push.ensures.items)
          (rows_push (AreRefuted gates) rows row c.firsts.invariant.refuted
          (subst (λ (n : ℕ). AreRefuted gates n row) (sym c.firsts.invariant.count) c.in_ok-row.ensures.row.refuted)));
      count = ap length c.in_ok-push.ensures.items ∙ length-append rows (row ∷ []) ∙ ap (λ (n : ℕ). n + 1) c.firsts.invariant.count;
    }
