use Rattle.std.proofs.Common.{rules, ◌≡◌, ◌∷◌, [], map}
use Rattle.event_why.specs.Said.{said}
use Rattle.event_why.proofs.Iff.{through}
use Rattle.event_why.proofs.ListedFacts.{one_is}
use Rattle.event_why.proofs.SilentLemmas.{missing_test}
use Rattle.event_why.proofs.silent.is_missing.Goals as goal

pub returns-in-Some : goal.returns-in-Some
returns-in-Some c =
    let f = said c.in-Some.fact.now in
    let one : map said c.args.named.now ≡ f ∷ [] = one_is (map said c.args.named.now) f (search rules) in
    through c.is_silence_of_one.ensures (missing_test c.args.ids.now c.args.t (map said c.args.named.now) f one)
