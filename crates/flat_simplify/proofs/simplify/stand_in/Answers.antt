use Rattle.std.proofs.Common.{sym, subst}
use Rattle.flat_simplify.specs.Replaced.{IsReplacedBy, StandsFor, itself, through}
use Rattle.flat_simplify.proofs.simplify.stand_in.Goals as goal

pub returns-in-Some : goal.returns-in-Some
returns-in-Some c =
    let s = c.args.flat.now in
    let by = subst (IsReplacedBy s c.args.id) c.in-Some.is c.in_ok-first.ensures in
    subst (StandsFor s c.args.id) (sym c.new_number.ensures) (through by (c.requires.known c.in-Some.first by))

pub returns-in-None : goal.returns-in-None
returns-in-None c = itself (subst (IsReplacedBy c.args.flat.now c.args.id) c.in-None.is c.in_ok-first.ensures)
