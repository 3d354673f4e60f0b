use Rattle.code_reader.proofs.Names.{added}
use Rattle.code_reader.proofs.joined.add_name.Goals as goal

pub returns : goal.returns
returns c =
    let told = c.in_ok-is_new.ensures in
    added c.args.names.now.keys c.insert.new.self.keys c.in_ok-name.name c.args.name.now c.in_ok-is_new.is_new c.in_ok-name.ensures.ok told.added told.keys
