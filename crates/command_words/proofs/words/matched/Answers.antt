use Rattle.std.proofs.Common.{ap, inl, inr, ◌∙◌}
use Rattle.clap.specs.Faults.{is_simple_and_free}
use Rattle.command_words.proofs.WordLemmas.{among_faults, refused_asks_not, taken_asks}
use Rattle.command_words.proofs.WordTurns.{is_exact}
use Rattle.command_words.proofs.words.matched.Goals as goal

pub returns-in-Ok-clause-some : goal.returns-in-Ok-clause-some
returns-in-Ok-clause-some c =
    let is = c.in_ok-reader.ensures in
    taken_asks _ _ c.in-Ok.matches is c.requires.texts (c.in-Ok.ensures.kinds (ap is_simple_and_free is ∙ is_exact)) c.in-Ok.ensures.matches

pub returns : goal.returns
returns c =
    let is = c.in_ok-reader.ensures in
    let kinds = c.in-Err.ensures.kinds (ap is_simple_and_free is ∙ is_exact) in
    record {
      some = tt;
      none = refused_asks_not _ _ is c.requires.texts (elim kinds [
        | inl memory ↦ absurd (c.in_default.not-OutOfMemory (c.kind.ensures ∙ memory))
        | inr among ↦ among_faults _ _ among
      ]);
    }
