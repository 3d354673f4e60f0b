-- At most one thing happens at an occurrence at a time.
use Rattle.std.proofs.Common.{◌≡◌, ℕ, suc, ◌+◌, ◌<◌, List, [], ◌∷◌, length, Option, Some, refl, ap, sym, subst, ◌∙◌, arith}
use Rattle.std.specs.Prelude.{slice_get}
use Rattle.std.proofs.lemmas.Option.{same_Some}
use Rattle.flat_core.specs.Stream.{Outcome, History}
use Rattle.flat_core.specs.Events.{Inputs}
use Rattle.syntax_tree.specs.Tree as tree
use Rattle.stream_constructs.specs.Construct.{Construct, outcome, root}
use Rattle.spec_meaning.specs.Occurrence.{Occurrence}
use Rattle.spec_meaning.specs.Shape.{all_parts}
use Rattle.spec_meaning.specs.Happens.{counts_below, history, Happens, happens}
use Rattle.flat_meaning.proofs.ListLemmas.{at_place}
use Rattle.flat_meaning.proofs.Congruence.{Two, ones, others, AgreeFrom, AgreeTo, outcome_same, root_same}

-- two lists of streams of one length side by side
abbrev pub pairs : List History → List History → List Two
pairs [] gs = []
pairs (h ∷ hs) [] = []
pairs (h ∷ hs) (g ∷ gs) = record { one = h; other = g } ∷ pairs hs gs

pub ones_are : (hs gs : List History) → length hs ≡ length gs → ones (pairs hs gs) ≡ hs
ones_are [] gs same = refl
ones_are (h ∷ hs) [] same = absurd (omega arith)
ones_are (h ∷ hs) (g ∷ gs) same = ap (λ rest. h ∷ rest) (ones_are hs gs (omega arith))

pub others_are : (hs gs : List History) → length hs ≡ length gs → others (pairs hs gs) ≡ gs
others_are [] [] same = refl
others_are [] (g ∷ gs) same = absurd (omega arith)
others_are (h ∷ hs) [] same = absurd (omega arith)
others_are (h ∷ hs) (g ∷ gs) same = ap (λ rest. g ∷ rest) (others_are hs gs (omega arith))

agree_pairs : (c : Construct) (t k : ℕ) (hs gs : List History) → ((j : ℕ) → j < length hs → (u : ℕ) → u < counts_below c (k + j) t → history hs j u ≡ history gs j u) → AgreeFrom c t k (pairs hs gs)
agree_pairs c t k [] gs same = tt
agree_pairs c t k (h ∷ hs) [] same = tt
agree_pairs c t k (h ∷ hs) (g ∷ gs) same = (
  (λ u lt. same 0 (omega arith) u (let e : k + 0 ≡ k = omega arith in subst (λ n. u < counts_below c n t) (sym e) lt)),
  agree_pairs c t (suc k) hs gs (λ j low u lt. same (suc j) (omega arith) u (let e : suc k + j ≡ k + suc j = omega arith in subst (λ n. u < counts_below c n t) e lt)),
)

agree_to_pairs : (t : ℕ) (hs gs : List History) → ((j : ℕ) → j < length hs → (u : ℕ) → u < suc t → history hs j u ≡ history gs j u) → AgreeTo t (pairs hs gs)
agree_to_pairs t [] gs same = tt
agree_to_pairs t (h ∷ hs) [] same = tt
agree_to_pairs t (h ∷ hs) (g ∷ gs) same = ((λ u lt. same 0 (omega arith) u lt), agree_to_pairs t hs gs (λ j low u lt. same (suc j) (omega arith) u lt))

-- streams that agree at the times that count
pub outcomes_agree : (inputs : Inputs) (c : Construct) (hs gs : List History) (t : ℕ) → length hs ≡ length gs → ((j : ℕ) → j < length hs → (u : ℕ) → u < counts_below c j t → history hs j u ≡ history gs j u) → outcome inputs c hs t ≡ outcome inputs c gs t
outcomes_agree inputs c hs gs t lengths same =
    let agree = agree_pairs c t 0 hs gs (λ j low u lt. same j low u (let e : 0 + j ≡ j = omega arith in subst (λ n. u < counts_below c n t) e lt)) in
    ap (λ xs. outcome inputs c xs t) (sym (ones_are hs gs lengths)) ∙ outcome_same inputs t c (pairs hs gs) agree ∙ ap (λ xs. outcome inputs c xs t) (others_are hs gs lengths)

pub roots_agree : (inputs : Inputs) (c : Construct) (hs gs : List History) (t : ℕ) → length hs ≡ length gs → ((j : ℕ) → j < length hs → (u : ℕ) → u < suc t → history hs j u ≡ history gs j u) → root inputs c hs t ≡ root inputs c gs t
roots_agree inputs c hs gs t lengths same =
    ap (λ xs. root inputs c xs t) (sym (ones_are hs gs lengths)) ∙ root_same inputs t c (pairs hs gs) (agree_to_pairs t hs gs same) ∙ ap (λ xs. root inputs c xs t) (others_are hs gs lengths)

module _ (items : List tree.Item) (inputs : Inputs) where
  pub one_thing : (o : Occurrence) (t : ℕ) (x y : Option Outcome) → Happens items inputs o t x → Happens items inputs o t y → x ≡ y
  one_thing o t x y (happens s hs is many parts x_is) (happens r gs be count others_happen y_is) =
      let same : s ≡ r = same_Some s r (sym is ∙ be) in
      let lengths : length hs ≡ length gs = many ∙ ap (λ v. length (all_parts o v)) same ∙ sym count in
      let agree = outcomes_agree inputs s.construct hs gs t lengths (λ j low u lt.
      let found = at_place (all_parts o s) j (let e = many in omega arith) in
      one_thing found.0 u (history hs j u) (history gs j u) (parts j found.0 found.1 u lt) (others_happen j found.0 (subst (λ v. slice_get (all_parts o v) j ≡ Some found.0) same found.1) u (subst (λ v. u < counts_below v.construct j t) same lt))) in
      x_is ∙ agree ∙ ap (λ v. outcome inputs v.construct gs t) same ∙ sym y_is
