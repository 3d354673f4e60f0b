use Rattle.std.proofs.Common.{◌≡◌, ℕ, List, get_or, Option, Some, None, Bor, sym, ap, ◌∙◌, arith}
use Rattle.std.specs.Prelude.{unwrap_or}
use Rattle.std.specs.Option.{option_map}
use Rattle.tsl_value.specs.View.{View}
use Rattle.plain_solver.specs.inner.Lent.{aggregate_in}
use Rattle.plain_solver.proofs.LentLemmas.{lent_cell}
use Rattle.plain_solver.proofs.lender.Lender.cell.Goals as goal

-- what a look-up found is the argument of that number
found : (values : List (Option View)) (i n : ℕ) (r : Option (Bor (Option View))) (o : Option View) → i ≡ n → unwrap_or (option_map (λ (x : Bor (Option View)). x.now) r) None ≡ get_or values i None → unwrap_or (option_map (λ (x : Bor (Option View)). x.now) r) None ≡ o → o ≡ get_or values n None
found values i n r o same at is = sym is ∙ at ∙ ap (λ k. get_or values k None) same

pub returns-in-Some-Some : goal.returns-in-Some-Some
returns-in-Some-Some c =
    let values = c.args.self.now.values.now in
    c.cell.ensures
    ∙ ap aggregate_in (found values c.get.result c.args.handle c.get-2.result (Some c.in-Some-Some.value) c.get.ensures (c.get-2.ensures.lookup.4 (omega arith) None) (ap (λ r. unwrap_or (option_map (λ (x : Bor (Option View)). x.now) r) None) c.in-Some-Some.is ∙ c.in-Some-Some.field-0-is))
    ∙ sym (lent_cell values c.args.handle)

pub returns-in-Some-None : goal.returns-in-Some-None
returns-in-Some-None c =
    let values = c.args.self.now.values.now in
    ap aggregate_in (found values c.get.result c.args.handle c.get-2.result None c.get.ensures (c.get-2.ensures.lookup.4 (omega arith) None) (ap (λ r. unwrap_or (option_map (λ (x : Bor (Option View)). x.now) r) None) c.in-Some-None.is ∙ c.in-Some-None.field-0-is))
    ∙ sym (lent_cell values c.args.handle)

pub returns-in-None : goal.returns-in-None
returns-in-None c =
    let values = c.args.self.now.values.now in
    ap aggregate_in (found values c.get.result c.args.handle c.get-2.result None c.get.ensures (c.get-2.ensures.lookup.4 (omega arith) None) (ap (λ r. unwrap_or (option_map (λ (x : Bor (Option View)). x.now) r) None) c.in-None.is))
    ∙ sym (lent_cell values c.args.handle)
