use Rattle.trigger_diagram.proofs.Questions.{met_told}
use Rattle.trigger_diagram.proofs.diagrams.Diagrams.together.Goals as goal

pub returns : goal.returns
returns c = met_told c.args.self.now c.self.inside.rules.items c.self.inside.arena c.args.a c.args.b c.a.inside.number c.b.inside.number c.together.result c.self.view_is c.a.view_is c.b.view_is c.together.ensures
