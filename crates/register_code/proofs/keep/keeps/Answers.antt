use Rattle.std.proofs.Common.{ap, ◌∙◌}
use Rattle.std.proofs.lemmas.Result.{IfOk-weaker}
use Rattle.std.proofs.lemmas.List.Elements.{filter_agree}
use Rattle.std.specs.List.{filter, range_with_len}
use Rattle.flat_core.specs.Members.{is_in}
use Rattle.flat_core.specs.Kept.{is_kept}
use Rattle.register_code.proofs.keep.keeps.Goals as goal

pub returns : goal.returns
returns c =
    IfOk-weaker c.listed.result _ _ (λ ids is.
    is
    ∙ ap (λ n. filter (is_in c.in_ok-set.set) (range_with_len 0 n)) c.count.ensures.count
    ∙ filter_agree (is_in c.in_ok-set.set) (is_kept c.args.flat.now) c.in_ok-set.ensures _) c.listed.ensures
