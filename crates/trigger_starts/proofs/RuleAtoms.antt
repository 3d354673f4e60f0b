-- The atoms of an equation, by its rule and the lists of its arguments.
use Rattle.std.proofs.Common.{◌≡◌, ℕ, ◌<◌, Bool, true, false, List, Contains, sym, subst, ◌∙◌}
use Rattle.std.specs.List.{AllByRecursion}
use Rattle.std.proofs.lemmas.Bool.{true≢false}
use Rattle.std.proofs.lemmas.List.Elements.{recursion_from_All}
use Rattle.trigger_rules.specs.declared.atom.Atom.{Atom}
use Rattle.trigger_rules.specs.declared.atom.Atom.TheVariants.{Start, Happens, Holds}
use Rattle.trigger_starts.specs.declared.rules.Rule.{Rule}
use Rattle.trigger_starts.specs.declared.rules.Rule.TheVariants as rule
use Rattle.trigger_starts.specs.inner.AtomLists.{Adds, IsInSome, StandsBy, atoms_at}
use Rattle.trigger_starts.specs.inner.Rules.{ArgumentsBelow, named_by, starts_at}
use Rattle.trigger_starts.proofs.AtomLists.{adds_also, adds_alike, adds_none}

pub named_below : (count : ℕ) (it known : Rule) → it ≡ known → ArgumentsBelow count it → AllByRecursion (λ a. a < count) (named_by known)
named_below count it known is all = recursion_from_All (λ a. a < count) (named_by known) (subst (ArgumentsBelow count) is all)

module _ (it : Rule) (own : ℕ) (starts : List Bool) (all : List (List Atom)) where
  abbrev Added : List Atom → List Atom → Type 0
  Added old new = Adds old (StandsBy it own starts all) new

  known : (at : Rule) (old new : List Atom) → it ≡ at → Adds old (StandsBy at own starts all) new → Added old new
  known at old new is adds = subst (λ r. Adds old (StandsBy r own starts all) new) (sym is) adds

  each : {old new : List Atom} (args ids : List ℕ) → ids ≡ args → Adds old (IsInSome all ids) new → Adds old (IsInSome all args) new
  each {old = old} {new = new} args ids same adds = subst (λ xs. Adds old (IsInSome all xs) new) same adds

  listed : {old new : List Atom} (a : ℕ) (seen : List Atom) → seen ≡ atoms_at all a → Adds old (Contains seen) new → Adds old (Contains (atoms_at all a)) new
  listed {old = old} {new = new} a seen same adds = subst (λ l. Adds old (Contains l) new) same adds

  pub added_start : (old new : List Atom) → it ≡ rule.Start → Adds old (λ a. a ≡ Start) new → Added old new
  added_start old new is adds = known rule.Start old new is adds

  pub added_own : (old new : List Atom) → it ≡ rule.Own → Adds old (λ a. a ≡ Happens own) new → Added old new
  added_own old new is adds = known rule.Own old new is adds

  pub added_all : (args ids : List ℕ) (old new : List Atom) → it ≡ rule.All args → ids ≡ args → Adds old (IsInSome all ids) new → Added old new
  added_all args ids old new is same adds = known (rule.All args) old new is (each args ids same adds)

  pub added_any : (args ids : List ℕ) (old new : List Atom) → it ≡ rule.Any args → ids ≡ args → Adds old (IsInSome all ids) new → Added old new
  added_any args ids old new is same adds = known (rule.Any args) old new is (each args ids same adds)

  pub added_any_own : (args ids : List ℕ) (old mid new : List Atom) → it ≡ rule.AnyAndOwn args → ids ≡ args → Adds old (λ a. a ≡ Happens own) mid → Adds mid (IsInSome all ids) new → Added old new
  added_any_own args ids old mid new is same one adds = known (rule.AnyAndOwn args) old new is (adds_also one (each args ids same adds))

  pub added_filter : (e c : ℕ) (es cs old mid last new : List Atom) → it ≡ rule.Filter e c → es ≡ atoms_at all e → cs ≡ atoms_at all c → Adds old (Contains es) mid → Adds mid (Contains cs) last → Adds last (λ a. a ≡ Holds c) new → Added old new
  added_filter e c es cs old mid last new is es_are cs_are one two three =
      known (rule.Filter e c) old new is (adds_also (adds_also (listed e es es_are one) (listed c cs cs_are two)) three)

  pub added_last : (v r n : ℕ) (rs old mid last new : List Atom) → it ≡ rule.Last v r → n ≡ v → starts_at starts n ≡ false → rs ≡ atoms_at all r → Adds old (λ a. a ≡ Start) mid → Adds mid (Contains rs) last → Adds last (λ a. a ≡ Happens own) new → Added old new
  added_last v r n rs old mid last new is at quiet_n rs_are one two three =
      let quiet : starts_at starts v ≡ false = subst (λ m. starts_at starts m ≡ false) at quiet_n in
      known (rule.Last v r) old new is (adds_also (adds_also one (listed r rs rs_are two)) (adds_alike (λ a same. (quiet, same)) (λ a both. both.1) three))

  pub added_last_started : (v r n : ℕ) (rs old mid new : List Atom) → it ≡ rule.Last v r → n ≡ v → starts_at starts n ≡ true → rs ≡ atoms_at all r → Adds old (λ a. a ≡ Start) mid → Adds mid (Contains rs) new → Added old new
  added_last_started v r n rs old mid new is at started_n rs_are one two =
      let started : starts_at starts v ≡ true = subst (λ m. starts_at starts m ≡ true) at started_n in
      known (rule.Last v r) old new is (adds_also (adds_also one (listed r rs rs_are two)) (adds_none new (λ a. (starts_at starts v ≡ false) × (a ≡ Happens own)) (λ a both. true≢false (sym started ∙ both.0))))

  pub added_delay : (old mid new : List Atom) → it ≡ rule.Delay → Adds old (λ a. a ≡ Start) mid → Adds mid (λ a. a ≡ Happens own) new → Added old new
  added_delay old mid new is one two = known rule.Delay old new is (adds_also one two)
