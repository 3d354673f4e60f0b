use Rattle.std.proofs.Common.{◌∙◌, ap, ap₂, true}
use Rattle.std.proofs.lemmas.Result.{IfOk-weaker}
use Rattle.clap.specs.Simple.{Shape, app_of_fields, on_top, with_rule}
use Rattle.clap.specs.Walk.{Rule}
use Rattle.clap.specs.Words.{rule_of}
use Rattle.clap.specs.declared.builder.arg.Arg.{Arg}
use Rattle.command_words.proofs.words.reader.Goals as goal

pub returns : goal.returns
returns c =
    let start = ap app_of_fields c.disable_help_flag.ensures ∙ ap (on_top (λ (s : Shape). record s { disable_help_flag = true })) c.new-2.ensures.app in
    let first_is = ap rule_of c.required-first.ensures ∙ ap (λ (r : Rule). record r { required = true }) c.new.ensures.rule in
    let first = c.in_ok-arg.ensures.shape (ap (λ (a : Arg). a.global) c.required-first.ensures ∙ c.new.ensures.optional.1) ∙ ap₂ with_rule start first_is in
    let second = c.in_ok-arg-2.ensures.shape c.new-3.ensures.optional.1 ∙ ap₂ with_rule first c.new-3.ensures.rule in
    let third = c.in_ok-arg-3.ensures.shape c.new-4.ensures.optional.1 ∙ ap₂ with_rule second c.new-4.ensures.rule in
    let fourth = c.in_ok-arg-4.ensures.shape c.new-5.ensures.optional.1 ∙ ap₂ with_rule third c.new-5.ensures.rule in
    let until = c.in_ok-arg-5.ensures.shape c.option_arg.ensures.own ∙ ap₂ with_rule fourth c.option_arg.ensures.rule in
    let instants = c.in_ok-arg-6.ensures.shape c.option_arg-2.ensures.own ∙ ap₂ with_rule until c.option_arg-2.ensures.rule in
    let bytes = c.in_ok-arg-7.ensures.shape c.option_arg-3.ensures.own ∙ ap₂ with_rule instants c.option_arg-3.ensures.rule in
    let save = c.in_ok-arg-8.ensures.shape c.option_arg-4.ensures.own ∙ ap₂ with_rule bytes c.option_arg-4.ensures.rule in
    let resume = c.in_ok-arg-9.ensures.shape c.option_arg-5.ensures.own ∙ ap₂ with_rule save c.option_arg-5.ensures.rule in
    let strict = c.in_ok-arg-10.ensures.shape c.flag_arg.ensures.own ∙ ap₂ with_rule resume c.flag_arg.ensures.rule in
    IfOk-weaker c.arg-11.result _ _ (λ command added. added.shape c.flag_arg-2.ensures.own ∙ ap₂ with_rule strict c.flag_arg-2.ensures.rule) c.arg-11.ensures
