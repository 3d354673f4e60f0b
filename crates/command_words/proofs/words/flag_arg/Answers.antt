use Rattle.std.proofs.Common.{◌∙◌, ap, Some}
use Rattle.clap.specs.Walk.{Rule}
use Rattle.clap.specs.Words.{rule_of}
use Rattle.clap.specs.declared.builder.action.ArgAction.TheVariants.{SetTrue}
use Rattle.clap.specs.declared.builder.arg.Arg.{Arg}
use Rattle.command_words.proofs.words.flag_arg.Goals as goal

pub returns : goal.returns
returns c = record {
  rule = ap rule_of c.action.ensures ∙ ap (λ (r : Rule). record r { action = Some SetTrue }) c.option_arg.ensures.rule;
  own = ap (λ (a : Arg). a.global) c.action.ensures ∙ c.option_arg.ensures.own;
}
