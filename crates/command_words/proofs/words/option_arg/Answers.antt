use Rattle.std.proofs.Common.{◌∙◌, ap, Some}
use Rattle.clap.specs.Walk.{Rule}
use Rattle.clap.specs.Words.{rule_of}
use Rattle.clap.specs.declared.builder.arg.Arg.{Arg}
use Rattle.command_words.proofs.words.option_arg.Goals as goal

pub returns : goal.returns
returns c = record {
  rule = ap rule_of c.long.ensures ∙ ap (λ (r : Rule). record r { long = Some c.args.name.now }) c.new.ensures.rule;
  own = ap (λ (a : Arg). a.global) c.long.ensures ∙ c.new.ensures.optional.1;
}
