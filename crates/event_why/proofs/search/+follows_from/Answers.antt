use Rattle.std.proofs.Common.{rules, ◌≡◌, ◌++◌, ◌∷◌, ◌-◌, [], ap, arith, length, map, refl, subst, sym, ◌∙◌}
use Rattle.std.proofs.lemmas.Bool.{false≢true}
use Rattle.std.proofs.lemmas.List.{length-map, map_push}
use Rattle.tsl_value.proofs.Lists.{none_in_nil}
use Rattle.flat_core.specs.Line.{inputs_of}
use Rattle.flat_core.proofs.Members.{all_append, all_at}
use Rattle.event_why.specs.Said.{said}
use Rattle.event_why.specs.inner.Grounds.{AreTypedFacts, IsTypedFact}
use Rattle.event_why.specs.inner.Search.{EndsWell, FollowsSo, Lack}
use Rattle.event_why.proofs.LoopLemmas.{is_member, none_end, none_more}
use Rattle.event_why.proofs.SearchLemmas.{cut_back, none_next, one_next, roomier, too_many}
use Rattle.event_why.proofs.search.+follows_from.Goals as goal

pub returns-then-ends-clause-order : goal.returns-then-ends-clause-order
returns-then-ends-clause-order t c =
    let P = FollowsSo c.args.grounds.now.flat.now c.args.grounds.now.slice.now (inputs_of c.args.grounds.now.lines.now) (said c.args.fact.now) in
    let named = map said c.args.named.now in
    let here : EndsWell P named (map said c.args.chosen.now.items) 0 =
    subst (λ xs. EndsWell P named (map said xs) 0) c.deref.ensures.value (c.in_ok-ends.ensures.0 c.if-ends.true) in
    let found = roomier P named (map said c.args.chosen.now.items) c.args.room here in
    (λ is. found, λ is. refl)

pub returns-then-count_lacking-room-clause-order : goal.returns-then-count_lacking-room-clause-order
returns-then-count_lacking-room-clause-order t c =
    let P = FollowsSo c.args.grounds.now.flat.now c.args.grounds.now.slice.now (inputs_of c.args.grounds.now.lines.now) (said c.args.fact.now) in
    let named = map said c.args.named.now in
    let lack = subst (λ xs. Lack (map said xs) named c.count_lacking.result) c.deref-2.ensures.value c.count_lacking.ensures in
    let none = too_many P named (map said c.args.chosen.now.items) c.args.room c.count_lacking.result c.requires.distinct lack c.if-count_lacking-room.true in
    (λ is. absurd (false≢true is), λ e. absurd (none e))

pub returns-then-room-eq0-clause-order : goal.returns-then-room-eq0-clause-order
returns-then-room-eq0-clause-order t c =
    let P = FollowsSo c.args.grounds.now.flat.now c.args.grounds.now.slice.now (inputs_of c.args.grounds.now.lines.now) (said c.args.fact.now) in
    let named = map said c.args.named.now in
    let chosen = map said c.args.chosen.now.items in (
      λ is. absurd (false≢true is),
      λ e.
          let here : EndsWell P named chosen 0 = subst (EndsWell P named chosen) c.if-room-eq0.true e in
          absurd (false≢true (sym c.if-ends.false ∙ c.in_ok-ends.ensures.1 (subst (λ xs. EndsWell P named (map said xs) 0) (sym c.deref.ensures.value) here))),
    )

pub loop-next-init : goal.loop-next-init
loop-next-init t c = record { chosen = refl; none = λ f among. absurd (none_in_nil f among) }

pub follows_from-requires : goal.follows_from-requires
follows_from-requires t c =
    let s = c.args.grounds.now.flat.now in
    let P = FollowsSo c.args.grounds.now.flat.now c.args.grounds.now.slice.now (inputs_of c.args.grounds.now.lines.now) (said c.args.fact.now) in
    let named = map said c.args.named.now in
    let chosen = map said c.args.chosen.now.items in
    let item = c.next-item.result in
    let f = said item in
    let pushed : c.push.new.self.items ≡ c.loop-next.chosen.items ++ c.in_ok-copy.copy ∷ [] = search rules in
    let put : map said c.push.new.self.items ≡ chosen ++ f ∷ [] =
    ap (map said) pushed ∙ map_push said c.loop-next.chosen.items c.in_ok-copy.copy ∙ (λ k. c.loop-next.invariant.chosen k ++ c.in_ok-copy.ensures k ∷ []) in
    let typed = subst (AreTypedFacts s) (sym put)
    (all_append (IsTypedFact s) chosen (f ∷ []) c.requires.chosen (all_at (IsTypedFact s) named c.requires.named f (is_member said c.args.named.now c.loop-next.next-index item c.loop-next-test.true c.next-item.is), tt)) in
    (search rules, (c.requires.grounds, (c.requires.distinct, (c.requires.named, typed))))

pub returns-then-found-clause-order : goal.returns-then-found-clause-order
returns-then-found-clause-order t c =
    let P = FollowsSo c.args.grounds.now.flat.now c.args.grounds.now.slice.now (inputs_of c.args.grounds.now.lines.now) (said c.args.fact.now) in
    let named = map said c.args.named.now in
    let chosen = map said c.args.chosen.now.items in
    let item = c.next-item.result in
    let f = said item in
    let pushed : c.push.new.self.items ≡ c.loop-next.chosen.items ++ c.in_ok-copy.copy ∷ [] = search rules in
    let put : map said c.push.new.self.items ≡ chosen ++ f ∷ [] =
    ap (map said) pushed ∙ map_push said c.loop-next.chosen.items c.in_ok-copy.copy ∙ (λ k. c.loop-next.invariant.chosen k ++ c.in_ok-copy.ensures k ∷ []) in
    let other = c.if-room-eq0.false in
    let more = subst (λ xs. EndsWell P named xs (c.args.room - 1)) put (c.in_ok-found.ensures.order.0 c.if-found.true) in
    let found = one_next P named chosen c.args.room f (omega (arith, other)) (is_member said c.args.named.now c.loop-next.next-index item c.loop-next-test.true c.next-item.is) more in
    (λ is. found, λ e. refl)

pub loop-next-preserved : goal.loop-next-preserved
loop-next-preserved t c =
    let P = FollowsSo c.args.grounds.now.flat.now c.args.grounds.now.slice.now (inputs_of c.args.grounds.now.lines.now) (said c.args.fact.now) in
    let named = map said c.args.named.now in
    let chosen = map said c.args.chosen.now.items in
    let item = c.next-item.result in
    let f = said item in
    let pushed : c.push.new.self.items ≡ c.loop-next.chosen.items ++ c.in_ok-copy.copy ∷ [] = search rules in
    let put : map said c.push.new.self.items ≡ chosen ++ f ∷ [] =
    ap (map said) pushed ∙ map_push said c.loop-next.chosen.items c.in_ok-copy.copy ∙ (λ k. c.loop-next.invariant.chosen k ++ c.in_ok-copy.ensures k ∷ []) in
    let after = c.in_ok-found.ensures.kept c.if-found.false ∙ put in
    let long : length c.args.chosen.now.items ≡ c.len-before.result = search rules in
    record {
      chosen = ap (map said) c.truncate.ensures.items
          ∙ cut_back said c.follows_from.new.chosen.items chosen f c.len-before.result (length-map c.args.chosen.now.items said ∙ long) after;
      none = none_more said c.args.named.now c.loop-next.next-index item c.loop-next-test.true c.next-item.is (λ g. EndsWell P named (chosen ++ g ∷ []) (c.args.room - 1))
          (λ e. false≢true (sym c.if-found.false ∙ c.in_ok-found.ensures.order.1 (subst (λ xs. EndsWell P named xs (c.args.room - 1)) (sym put) e))) c.loop-next.invariant.none;
    }

pub returns-clause-order : goal.returns-clause-order
returns-clause-order t c =
    let P = FollowsSo c.args.grounds.now.flat.now c.args.grounds.now.slice.now (inputs_of c.args.grounds.now.lines.now) (said c.args.fact.now) in
    let named = map said c.args.named.now in
    let chosen = map said c.args.chosen.now.items in
    let never = none_end said c.args.named.now c.loop-next.next-index c.loop-next-test.false (λ g. EndsWell P named (chosen ++ g ∷ []) (c.args.room - 1)) c.loop-next.invariant.none in
    let none = none_next P named chosen c.args.room
    (λ e. false≢true (sym c.if-ends.false ∙ c.in_ok-ends.ensures.1 (subst (λ xs. EndsWell P named (map said xs) 0) (sym c.deref.ensures.value) e))) never in
    (λ is. absurd (false≢true is), λ e. absurd (none e))
