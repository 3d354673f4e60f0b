use Rattle.std.proofs.Common.{◌≡◌, ℕ, ◌<◌, true, List, ◌∷◌, [], ◌++◌, length, map, get_or, refl, ap, sym, subst, ◌∙◌, arith}
use Rattle.std.specs.Option.{option_map}
use Rattle.std.proofs.lemmas.List.{length-map, get_or-map, nil_from_length}
use Rattle.std.proofs.lemmas.Option.{slice_get-get_or, slice_get-map}
use Rattle.flat_core.specs.declared.equation.Equation.{Equation}
use Rattle.flat_core.specs.inner.Marks.{Marked, is_marked, is_waiting}
use Rattle.flat_core.specs.Members.{is_in}
use Rattle.flat_core.specs.Needed.{HasArgument}
use Rattle.flat_core.specs.Renumbered.{new_number, with_new_args}
use Rattle.flat_core.specs.declared.reach.Marks.{Marks}
use Rattle.flat_core.proofs.MarkLemmas.{argument_of, arguments_below, last_in, mark_within, of_argument}
use Rattle.flat_core.proofs.Spreads.{spreading_none, spreading_more, spreading_done}
use Rattle.flat_core.proofs.reach.Marks.spread.Goals as goal

pub loop-id-init : goal.loop-id-init
loop-id-init c = spreading_none (HasArgument (map (with_new_args c.args.replaced.now) c.args.equations.now)) c.args.self.now c.requires.all_wait

-- the number of an equation that waited
within : (xs : List ℕ) (n : Marks) (id j size : ℕ) → n.waiting.items ≡ xs ++ (id ∷ []) → j ≡ id → ((i : ℕ) → is_waiting n i ≡ true → is_marked n i ≡ true) → length n.marked.items ≡ size → j < size
within xs n id j size taken same waiting all =
    let low = mark_within n.marked.items id (waiting id (ap (λ zs. is_in zs id) taken ∙ last_in xs id)) in omega arith

pub bounds-equations-get : goal.bounds-equations-get
bounds-equations-get c =
    within c.pop.new.self.items c.loop-id.self c.in-Some.id c.get.result (length c.args.equations.now) c.in-Some.ensures.items c.get.ensures c.loop-id.invariant.waiting (c.loop-id.invariant.one_each ∙ c.requires.one_each)

pub mark_all-requires : goal.mark_all-requires
mark_all-requires c =
    let number = new_number c.args.replaced.now in
    let f = with_new_args c.args.replaced.now in
    let equations = c.args.equations.now in
    let all = c.loop-id.invariant.one_each ∙ c.requires.one_each in
    let low = within c.pop.new.self.items c.loop-id.self c.in-Some.id c.get.result (length equations) c.in-Some.ensures.items c.get.ensures c.loop-id.invariant.waiting all in
    let e = c.index-equations-get.result in
    let count = length-map equations f in
    let new_low : c.get.result < length (map f equations) = omega arith in
    let read = get_or-map f equations c.get.result e (f e) low in
    let args = ap (map number) c.ids.ensures ∙ sym (ap (λ (x : Equation). x.args) read) in
    arguments_below (map f equations) c.get.result (f e) (map number c.ids.result.now) (length c.loop-id.self.marked.items) c.requires.there new_low args (all ∙ sym count)

pub loop-id-preserved : goal.loop-id-preserved
loop-id-preserved c =
    let number = new_number c.args.replaced.now in
    let f = with_new_args c.args.replaced.now in
    let equations = c.args.equations.now in
    let all = c.loop-id.invariant.one_each ∙ c.requires.one_each in
    let low = within c.pop.new.self.items c.loop-id.self c.in-Some.id c.get.result (length equations) c.in-Some.ensures.items c.get.ensures c.loop-id.invariant.waiting all in
    let popped : Marks = record { marked = c.loop-id.self.marked; waiting = c.pop.new.self } in
    let more = subst (λ ids. Marked (map number ids) popped c.mark_all.new.self) c.ids.ensures c.in_ok-mark_all.ensures in
    let taken = c.in-Some.ensures.items ∙ ap (λ j. c.pop.new.self.items ++ (j ∷ [])) (sym c.get.ensures) in
    let e : Equation = get_or equations c.get.result c.index-equations-get.result in
    let read = slice_get-map f equations c.get.result ∙ ap (option_map f) (slice_get-get_or equations c.get.result c.index-equations-get.result low) in
    spreading_more (HasArgument (map f equations)) c.args.self.now c.loop-id.self popped c.mark_all.new.self c.get.result (f e).args c.loop-id.invariant refl taken
    (argument_of (map f equations) c.get.result (f e) read) (of_argument (map f equations) c.get.result (f e) read) more

pub returns : goal.returns
returns c =
    let equations = map (with_new_args c.args.replaced.now) c.args.equations.now in
    let waiting = c.loop-id.self.waiting in
    let size : length waiting.items ≡ 0 = omega (arith, waiting.ok.0, c.in_default.ensures.cases.0) in
    let none = nil_from_length waiting.items size in
    let done = spreading_done (HasArgument equations) c.args.self.now c.loop-id.self none c.loop-id.invariant in
    record { one_each = done.one_each; kept = done.kept; from = done.from; closed = done.closed }
