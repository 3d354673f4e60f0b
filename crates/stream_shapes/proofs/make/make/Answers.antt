use Rattle.std.proofs.Common.{◌≡◌, ◌∷◌, length, map, refl, rules}
use Rattle.std.proofs.lemmas.Result.{on_err_weaker}
use Rattle.tsl_value.proofs.Results.{on_err}
use Rattle.spec_meaning.specs.Shape.{operand}
use Rattle.stream_constructs.proofs.Partly.{has_none}
use Rattle.stream_shapes.specs.declared.construct.Construct.TheVariants as given
use Rattle.stream_constructs.proofs.LiftingHangs.{operands_vary}
use Rattle.stream_shapes.proofs.MakeLemmas.{fits_as, last_type, merge_type, filter_type, filter_by_type, empty_type}
use Rattle.stream_shapes.proofs.make.make.Goals as goal

pub with_streams-requires : goal.with_streams-requires
with_streams-requires c =
    let h = fits_as c.args.construct (given.Update c.in-Update.op c.in-Update.literals) (length c.args.maker.now.equations) c.args.parts.now c.args.of c.in-Update.is c.requires.fits in
    operands_vary (map operand c.in-Update.literals.items) c.args.parts.now (c.args.of ∷ h.0) h.1

pub returns-in-Empty-clause-stream : goal.returns-in-Empty-clause-stream
returns-in-Empty-clause-stream c =
    let same : c.in-Empty.of ≡ c.args.of = empty_type c.args.parts.now c.args.of c.in-Empty.of (fits_as c.args.construct (given.Empty c.in-Empty.of) (length c.args.maker.now.equations) c.args.parts.now c.args.of c.in-Empty.is c.requires.fits) in
    search rules

pub returns-in-Last-clause-stream : goal.returns-in-Last-clause-stream
returns-in-Last-clause-stream c =
    let same : c.index-parts-0-in-Last.result.of ≡ c.args.of = last_type c.args.parts.now c.args.of c.index-parts-0-in-Last.result (fits_as c.args.construct given.Last (length c.args.maker.now.equations) c.args.parts.now c.args.of c.in-Last.is c.requires.fits) c.index-parts-0-in-Last.is in
    search rules

pub returns-in-Merge-clause-stream : goal.returns-in-Merge-clause-stream
returns-in-Merge-clause-stream c =
    let same : c.index-parts-0-in-Merge.result.of ≡ c.args.of = merge_type c.args.parts.now c.args.of c.index-parts-0-in-Merge.result (fits_as c.args.construct given.Merge (length c.args.maker.now.equations) c.args.parts.now c.args.of c.in-Merge.is c.requires.fits) c.index-parts-0-in-Merge.is in
    search rules

pub returns-in-Filter-clause-stream : goal.returns-in-Filter-clause-stream
returns-in-Filter-clause-stream c =
    let same : c.index-parts-0-in-Filter.result.of ≡ c.args.of = filter_type c.args.parts.now c.args.of c.index-parts-0-in-Filter.result (fits_as c.args.construct given.Filter (length c.args.maker.now.equations) c.args.parts.now c.args.of c.in-Filter.is c.requires.fits) c.index-parts-0-in-Filter.is in
    search rules

pub returns-in-FilterBy-clause-stream : goal.returns-in-FilterBy-clause-stream
returns-in-FilterBy-clause-stream c =
    let same : c.index-parts-0-in-FilterBy.result.of ≡ c.args.of = filter_by_type c.args.parts.now c.in-FilterBy.holds c.args.of c.index-parts-0-in-FilterBy.result (fits_as c.args.construct (given.FilterBy c.in-FilterBy.holds) (length c.args.maker.now.equations) c.args.parts.now c.args.of c.in-FilterBy.is c.requires.fits) c.index-parts-0-in-FilterBy.is in
    search rules

pub returns-in-Nil-clause-partly : goal.returns-in-Nil-clause-partly
returns-in-Nil-clause-partly c = on_err_weaker c.nil.result (has_none c.args.maker.now c.nil.new.self _) c.nil.ensures.err

pub returns-in-Unit-clause-partly : goal.returns-in-Unit-clause-partly
returns-in-Unit-clause-partly c = on_err_weaker c.unit.result (has_none c.args.maker.now c.unit.new.self _) c.unit.ensures.err

pub returns-in-Empty-clause-partly : goal.returns-in-Empty-clause-partly
returns-in-Empty-clause-partly c = on_err_weaker c.empty.result (has_none c.args.maker.now c.empty.new.self _) c.empty.ensures.err

pub returns-in-Time-clause-partly : goal.returns-in-Time-clause-partly
returns-in-Time-clause-partly c = on_err_weaker c.time.result (has_none c.args.maker.now c.time.new.self _) c.time.ensures.err

pub returns-in-Last-clause-partly : goal.returns-in-Last-clause-partly
returns-in-Last-clause-partly c = on_err_weaker c.last.result (has_none c.args.maker.now c.last.new.self _) c.last.ensures.err

pub returns-in-Delay-clause-partly : goal.returns-in-Delay-clause-partly
returns-in-Delay-clause-partly c = on_err_weaker c.delay.result (has_none c.args.maker.now c.delay.new.self _) c.delay.ensures.err

pub returns-in-Merge-clause-partly : goal.returns-in-Merge-clause-partly
returns-in-Merge-clause-partly c = on_err_weaker c.merge.result (has_none c.args.maker.now c.merge.new.self _) c.merge.ensures.err

pub returns-in-Const-clause-partly : goal.returns-in-Const-clause-partly
returns-in-Const-clause-partly c = on_err_weaker c.constant.result (has_none c.args.maker.now c.constant.new.self _) c.constant.ensures.err

pub returns-in-Lift-clause-partly : goal.returns-in-Lift-clause-partly
returns-in-Lift-clause-partly c = on_err_weaker c.lift.result (has_none c.args.maker.now c.lift.new.self _) c.lift.ensures.err

pub returns-in_err-operands-in-Update-clause-partly : goal.returns-in_err-operands-in-Update-clause-partly
returns-in_err-operands-in-Update-clause-partly c = on_err _ (has_none c.args.maker.now c.args.maker.now _ refl)
