use Rattle.std.proofs.Common.{◌≡◌, ◌-◌, Option, Vec, Global, map, set, ap, sym, ◌∙◌}
use Rattle.std.specs.Option.{option_map}
use Rattle.std.proofs.lemmas.List.{append-nil}
use Rattle.syntax_tree.specs.inner.OneLevel.{item_of}
use Rattle.name_check.specs.Scope.{seen}
use Rattle.type_rules.specs.Asked.{inner}
use Rattle.expr_types.specs.Bodies.{at_top}
use Rattle.expr_types.specs.inner.Shown.{kinds_of}
use Rattle.equation_marks.specs.inner.Counted.{counted}
use Rattle.equation_marks.specs.Marks.{body_marks, macro_marks}
use Rattle.stream_constructs.specs.declared.construct.Stream.{Stream}
use Rattle.macro_flatten.proofs.Foreseen.{all_foreseen, none_foreseen, other_turn, stream_turn}
use Rattle.macro_flatten.proofs.top.foresee.Goals as goal
use Rattle.macro_flatten.proofs.top.foresee.Goals.{in-Some+in_ok-count, in_default}
use Rattle.definition_cycles.specs.declared.limits.TheConstants.{MOST_CALLS}

pub loop-number-init : goal.loop-number-init
loop-number-init c = none_foreseen c.args.counter.now.items.now (kinds_of c.args.counter.now.kinds.now) c.args.made c.args.streams.now.items c.requires.few c.requires.room

pub loop-number-preserved : goal.loop-number-preserved
loop-number-preserved c =
    let xs = c.args.counter.now.items.now in
    let kinds = kinds_of c.args.counter.now.kinds.now in
    let k = c.loop-number.number in
    let next = c.match-stream_definition.count in
    let new = c.match-stream_definition.streams.items in
    elim c.match-stream_definition.branch [
      | in-Some+in_ok-count w ↦
          let scope = ap seen c.all-scope.ensures ∙ append-nil c.args.counter.now.names.now ∙ c.requires.names in
          let own : w.ending_at.result ≡ option_map (λ t. record { id = next - 1; of = inner t }) (kinds.item k) =
          w.ending_at.ensures ∙ (λ j. option_map (λ t. record { id = sym w.count-is j - 1; of = inner t }) (w.item.ensures j)) in
          let streams = ap (λ (v : Vec (Option Stream) Global). v.items) w.streams-is in
          let around = record (at_top (map item_of xs) kinds k) { scope = seen c.all-scope.result } in
          stream_turn xs kinds c.args.made k c.loop-number.count c.args.streams.now.items c.loop-number.streams.items c.index-items-number.result c.loop-number-test.true c.index-items-number.is c.loop-number.invariant w.in-Some.definition.now
          around next new w.in-Some.ensures (ap (λ s. record (at_top (map item_of xs) kinds k) { scope = s }) scope)
          (w.count-is ∙ w.in_ok-count.ensures ∙ ap (λ e. counted c.loop-number.count (body_marks around (macro_marks (map item_of xs) kinds MOST_CALLS) e)) w.result_of.ensures)
          (streams ∙ ap (set c.loop-number.streams.items k) own)
      | in_default w ↦
          other_turn xs kinds c.args.made k c.loop-number.count c.args.streams.now.items c.loop-number.streams.items c.index-items-number.result c.loop-number-test.true c.index-items-number.is c.loop-number.invariant next new w.in_default.ensures w.count-is (ap (λ (v : Vec (Option Stream) Global). v.items) w.streams-is)
    ]

pub returns-clause-foreseen : goal.returns-clause-foreseen
returns-clause-foreseen c =
    all_foreseen c.args.counter.now.items.now (kinds_of c.args.counter.now.kinds.now) c.args.made c.loop-number.number c.loop-number.count c.args.streams.now.items c.loop-number.streams.items c.loop-number-test.false c.loop-number.invariant
