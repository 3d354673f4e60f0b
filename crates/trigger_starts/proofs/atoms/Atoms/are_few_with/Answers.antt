use Rattle.std.proofs.Common.{rules, ◌≡◌, length}
use Rattle.trigger_starts.proofs.Gathered.{few_answer, many_answer}
use Rattle.trigger_starts.proofs.atoms.Atoms.are_few_with.Goals as goal

pub returns-then-count-most : goal.returns-then-count-most
returns-then-count-most c =
    let same : c.len-count.result ≡ length c.args.self.now = search rules in
    few_answer c.args.self.now c.args.other.now c.requires.first c.len-count.result c.others.result same c.if-count-most.true c.others.ensures

pub returns-else-count-most : goal.returns-else-count-most
returns-else-count-most c =
    let same : c.len-count.result ≡ length c.args.self.now = search rules in
    many_answer c.args.self.now c.args.other.now c.requires.first c.len-count.result same c.if-count-most.false
