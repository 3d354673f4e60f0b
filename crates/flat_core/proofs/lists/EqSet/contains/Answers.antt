use Rattle.std.proofs.Common.{◌≡◌, ℕ, List, Ok, Err, sym, ◌∙◌}
use Rattle.std.specs.Prelude.{Result, is_ok}
use Rattle.flat_core.specs.Members.{is_in, IsPlace}
use Rattle.flat_core.proofs.Members.{at_place, past_place}
use Rattle.flat_core.proofs.lists.EqSet.contains.Goals as goal

told : (xs : List ℕ) (i : ℕ) (r : Result ℕ ℕ) → IsPlace xs i r → is_ok r ≡ is_in xs i
told xs i (Ok k) place = sym (at_place xs i k place)
told xs i (Err k) place = sym (past_place xs i k place)

pub returns : goal.returns
returns c = c.is_ok.ensures.value ∙ told c.args.self.now c.args.id c.find.result c.find.ensures
