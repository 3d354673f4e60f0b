-- At most one text is due.
use Rattle.std.proofs.Common.{◌≡◌, ℕ, List, [], ◌∷◌, ◌++◌, take, refl, sym, subst, ◌∙◌}
use Rattle.std.specs.List.{Contains}
use Rattle.flat_core.specs.Stream.{event}
use Rattle.flat_core.specs.Line.{Line, inputs_of}
use Rattle.flat_core.specs.Text.{event_line}
use Rattle.syntax_tree.specs.Tree as tree
use Rattle.spec_meaning.specs.Due.{Printed, outputs_of, IsFaulty, AreInstants, AreDue, IsTextAt, IsTextOf, IsDueText}
use Rattle.spec_meaning.specs.Due as due
use Rattle.flat_meaning.proofs.OneThing.{one_thing}
use Rattle.flat_meaning.proofs.Rising.{rising, same_rising}

module _ (items : List tree.Item) (lines : List Line) where
  -- the instants below a bound
  pub same_instants : (bound : ℕ) (xs ys : List ℕ) → AreInstants items lines bound xs → AreInstants items lines bound ys → xs ≡ ys
  same_instants bound xs ys a b = same_rising 0 0 xs ys (rising xs a.rising) (rising ys b.rising) (λ t c. (b.each t).1 ((a.each t).0 c)) (λ t c. (a.each t).1 ((b.each t).0 c))

  same_due : (bound limit : ℕ) (xs ys : List ℕ) → AreDue items lines bound limit xs → AreDue items lines bound limit ys → xs ≡ ys
  same_due bound limit xs ys a b =
      let same = same_instants bound a.instants b.instants a.are b.are in
      same_rising 0 0 xs ys (rising xs a.rising) (rising ys b.rising)
      (λ t c. let h = (a.each t).0 c in (b.each t).1 (subst (λ is. Contains (take limit is) t) same h.0, h.1))
      (λ t c. let h = (b.each t).0 c in (a.each t).1 (subst (λ is. Contains (take limit is) t) (sym same) h.0, h.1))

  same_text_at : (t : ℕ) (os : List Printed) (xs ys : List ℕ) → IsTextAt items lines t os xs → IsTextAt items lines t os ys → xs ≡ ys
  same_text_at t [] xs ys due.IsTextAt.end due.IsTextAt.end = refl
  same_text_at t (o ∷ os) xs ys (due.IsTextAt.output x rest here more is) (due.IsTextAt.output y others there less be) =
      let same = one_thing items (inputs_of lines) o.is t x y here there in
      let tail = same_text_at t os rest others more less in
      is ∙ (λ i. event_line t o.name (event (same i)) ++ tail i) ∙ sym be

  same_text_of : (ts : List ℕ) (xs ys : List ℕ) → IsTextOf items lines ts xs → IsTextOf items lines ts ys → xs ≡ ys
  same_text_of [] xs ys due.IsTextOf.end due.IsTextOf.end = refl
  same_text_of (t ∷ ts) xs ys (due.IsTextOf.instant first rest here more is) (due.IsTextOf.instant second others there less be) =
      let head = same_text_at t (outputs_of items) first second here there in
      let tail = same_text_of ts rest others more less in
      is ∙ (λ i. head i ++ tail i) ∙ sym be

  pub one_text : (bound limit : ℕ) (xs ys : List ℕ) → IsDueText items lines bound limit xs → IsDueText items lines bound limit ys → xs ≡ ys
  one_text bound limit xs ys a b =
      let same = same_due bound limit a.due b.due a.are_due b.are_due in
      same_text_of b.due xs ys (subst (λ ts. IsTextOf items lines ts xs) same a.is) b.is
