-- Where reading stops, the tokens are refused, and nowhere else.
use Rattle.std.proofs.Common.{◌≡◌, ℕ, suc, Bool, true, false, not, ◌&&◌, List, [], ◌∷◌, ◌++◌, length, Some, refl, sym, ap, subst, ◌∙◌, inl, inr, arith, append_assoc}
use Rattle.std.specs.Prelude.{◌⊎◌}
use Rattle.std.proofs.lemmas.Bool.{cases_lt}
use Rattle.std.proofs.lemmas.List.{append_cancel_right, append-nil}
use Rattle.spec_lexer.specs.declared.token.Token.{Token}
use Rattle.token_reader.specs.inner.Reader.{Refusal, Unexpected, TooDeep, Outcome, Read, Stopped, and_then, many, head}
use Rattle.token_reader.proofs.LocalLaws.{CarefulAt, Leads, is_calm}
use Rattle.token_reader.proofs.ViableLaws.{ArePlain as reader_plain, Alike, alike_end, ViableAt, Goes, Reaches, near, far, Barred}
use Rattle.token_reader.proofs.RoomLaws.{RisesTo, DeepAt}
use Rattle.token_reader.proofs.Meets.{Meets}
use Rattle.syntax_tree.specs.Tree.{Item}
use Rattle.spec_parser.specs.Words.{is_minus, is_number_next, may_open, opens_level}
use Rattle.spec_parser.specs.inner.Reading.{Reader, items_at, ended, specification}
use Rattle.spec_parser.specs.Grammar.{Spells, empty}
use Rattle.spec_parser.specs.Refusals.{Begins, ArePlain, OpensAlike, IsWithin, IsUnexpected, IsTooDeep}
use Rattle.spec_parser.proofs.RoomLaws.{rises_above}
use Rattle.spec_parser.proofs.ItemLaws.{item_signs, items_fine, items_careful}
use Rattle.spec_parser.proofs.Items.{sound, complete}

module _ (room : ℕ) where
  abbrev items : Reader (List Item)
  items = many (items_at room)

  abbrev deeper_items : Reader (List Item)
  deeper_items = many (items_at (suc room))

-- what is read is a tree
pub spelled : (room : ℕ) (ts : List Token) (is : List Item) → specification room ts ≡ Read is [] → Spells room ts is
spelled room ts is h = subst (Meets (λ is rest. Spells room ts is)) h (sound room ts)

begins : (room : ℕ) (front : List Token) → (more : List Token) × (is : List Item) × (items room (front ++ (more ++ [])) ≡ Read is []) → Begins room front
begins room front g = (g.0 ++ [], g.1, spelled room (front ++ (g.0 ++ [])) g.1 (ap (λ q. and_then q ended) g.2))

-- a token that opens a level may open one, and opens one where no number follows
module _ (t : Token) where
  and_left : (a b : Bool) → a && b ≡ true → a ≡ true
  and_left true b h = refl
  and_left false b h = cc

  pub may : (left : List Token) → opens_level t left ≡ true → may_open t.kind ≡ true
  may left h = and_left (may_open t.kind) (not (is_minus t.kind && is_number_next left)) h

  no_number : (a b : Bool) → a ≡ true → a && not (b && false) ≡ true
  no_number true true h = refl
  no_number true false h = refl
  no_number false b h = cc

  calm_next : (more : List Token) → is_calm item_signs more ≡ false → is_number_next more ≡ false
  calm_next [] h = refl
  calm_next (u ∷ us) h = h

  opens_calmly : (more : List Token) → may_open t.kind ≡ true → is_number_next more ≡ false → opens_level t more ≡ true
  opens_calmly more h calm = (λ k. may_open t.kind && not (is_minus t.kind && calm k)) ∙ no_number (may_open t.kind) (is_minus t.kind) h

  opens_either : (more : List Token) → may_open t.kind ≡ true → (opens_level t more ≡ true) ⊎ (is_calm item_signs more ≡ false) → opens_level t more ≡ true
  opens_either more h (inl e) = e
  opens_either more h (inr calm) = opens_calmly more h (calm_next more calm)

opens_alike : (front left more : List Token) → Alike item_signs front left more → OpensAlike front left more
opens_alike [] left more h = tt
opens_alike (t ∷ []) left more h = λ o. opens_either t more (may t left o) (h (may t left o) o)
opens_alike (t ∷ u ∷ front) left more h = opens_alike (u ∷ front) left more h

abbrev read_whole : List Item → Outcome Token (List Item)
read_whole is = Read is []

abbrev stopped : Refusal → List Token → Outcome Token (List Item)
stopped r rest = Stopped r rest

read_is_no_stop : (is : List Item) (r : Refusal) (rest : List Token) → read_whole is ≡ stopped r rest → ⊥
read_is_no_stop is r rest e = cc

module _ (room : ℕ) (ts : List Token) where
  -- the same front and the same next token are refused again
  pub record Refused (rest : List Token) : Type 0 where
    pub front : List Token
    pub whole : ts ≡ front ++ rest
    pub again : (more : List Token) → head more ≡ head rest → specification room (front ++ more) ≡ Stopped Unexpected more

  first_refused : (rest : List Token) → Leads item_signs (items room) ts (Stopped Unexpected rest) → Refused rest
  first_refused rest l = record { front = l.front; whole = l.whole; again = λ more h. ap (λ q. and_then q ended) (l.again more h) }

  end_refused : (is : List Item) (t : Token) (us : List Token) → Leads item_signs (items room) ts (Read is (t ∷ us)) → Refused (t ∷ us)
  end_refused is t us l = record {
    front = l.front;
    whole = l.whole;
    again = λ more h. ap (λ q. and_then q ended) (l.again more (inl h)) ∙ stops more h;
  }
    where
      stops : (more : List Token) → head more ≡ Some t → ended is more ≡ Stopped Unexpected more
      stops [] h = cc
      stops (x ∷ xs) h = refl

  no_deeper_tree : (rest : List Token) (f : Refused rest) (more : List Token) → head more ≡ head rest → (deeper : ℕ) (is : List Item) → Spells deeper (f.front ++ more) is → ⊥
  no_deeper_tree rest f more h deeper is s = elim (cases_lt deeper room) [
    | inl less ↦ read_is_no_stop is Unexpected more (sym (subst (λ o. RisesTo o (specification room (f.front ++ more))) (complete deeper (f.front ++ more) is s) (rises_above deeper room (f.front ++ more) (omega arith))) ∙ f.again more h)
    | inr more_room ↦ read_is_no_stop is Unexpected more (sym (complete deeper (f.front ++ more) is s) ∙ subst (λ o. RisesTo o (specification deeper (f.front ++ more))) (f.again more h) (rises_above room deeper (f.front ++ more) (omega arith)))
  ]

  same_front : (a b rest : List Token) → ts ≡ a ++ rest → ts ≡ b ++ rest → a ≡ b
  same_front a b rest h k = append_cancel_right a b rest (sym h ∙ k)

  plain_of : (b : List Token) → reader_plain item_signs b → ArePlain b
  plain_of [] h = tt
  plain_of (t ∷ ts) h = (h.0, plain_of ts h.1)

  -- the tokens before the last ones are within the room
  within : (front left : List Token) → ts ≡ front ++ left → Reaches item_signs (items room) ts left → IsWithin room front left
  within front left whole (near b e plain) = ([], b, same_front front b left whole e, ([], [], empty, tt), plain_of b plain)
  within front left whole (far b plain g) =
      let c = g.goes [] tt in
      let s = spelled room (g.front ++ (c.0 ++ [])) c.1 (ap (λ q. and_then q ended) c.2) in
      (g.front, b, same_front front (g.front ++ b) left whole (g.whole ∙ sym (append_assoc g.front b left)), (c.0 ++ [], c.1, s, opens_alike g.front (b ++ left) (c.0 ++ []) c.3), plain_of b plain)

  unexpected_of : (rest : List Token) (f : Refused rest) → IsWithin room f.front rest → (deeper : ℕ) × Begins deeper f.front → IsUnexpected room ts f.front rest
  unexpected_of rest f w b = record {
    whole = f.whole;
    within = w;
    begun = b;
    refused = λ t us shape deeper g. no_deeper_tree rest f (t ∷ g.0) (sym (ap head shape)) deeper g.1 (subst (λ l. Spells deeper l g.1) (append_assoc f.front (t ∷ []) g.0) g.2);
    unfinished = λ shape deeper is s. no_deeper_tree rest f [] (sym (ap head shape)) deeper is (subst (λ l. Spells deeper l is) (f.whole ∙ ap (λ l. f.front ++ l) shape) s);
  }

  abbrev pub Refuses : Outcome Token (List Item) → Type 0
  Refuses (Read is rest) = Unit {0}
  Refuses (Stopped Unexpected rest) = (front : List Token) × IsUnexpected room ts front rest
  Refuses (Stopped TooDeep rest) = (front : List Token) × (t : Token) × IsTooDeep room ts front t rest

  too_deep_of : (rest : List Token) (t : Token) (b : Barred item_signs (items room) ts t rest) → Reaches item_signs (items room) ts (t ∷ rest) → Goes item_signs (deeper_items room) ts rest → IsTooDeep room ts b.front t rest
  too_deep_of rest t b r g = record {
    whole = b.whole;
    within = within b.front (t ∷ rest) b.whole r;
    opens = b.opened;
    begun = subst (Begins (suc room)) (same_front g.front (b.front ++ t ∷ []) rest g.whole (b.whole ∙ sym (append_assoc b.front (t ∷ []) rest))) (begins (suc room) g.front (g.goes [] tt));
    refused = λ more h is s. read_is_no_stop is TooDeep more (sym (complete room (b.front ++ t ∷ more) is s) ∙ ap (λ q. and_then q ended) (b.again more h));
  }

  refuses : (o : Outcome Token (List Item)) → Leads item_signs (items room) ts o → CarefulAt item_signs ts o → ViableAt item_signs (items room) ts o → DeepAt item_signs (deeper_items room) ts o → Refuses (and_then o ended)
  unfolding end_refused first_refused
  refuses (Read is []) l c v d = tt
  refuses (Read is (t ∷ us)) l c v d =
      let f = end_refused is t us l in
      let s = spelled room (l.front ++ []) is (ap (λ q. and_then q ended) (l.again [] (inr tt))) in
      let alike = opens_alike l.front (t ∷ us) [] (alike_end item_signs l.front (t ∷ us) [] tt) in
      (f.front, unexpected_of (t ∷ us) f (l.front, [], sym (append-nil l.front), ([], is, s, alike), tt) (room, ([], is, s)))
  refuses (Stopped Unexpected rest) l c v d =
      let f = first_refused rest l in
      (f.front, unexpected_of rest f (within l.front rest l.whole v) (suc room, subst (Begins (suc room)) (same_front d.front l.front rest d.whole l.whole) (begins (suc room) d.front (d.goes [] tt))))
  refuses (Stopped TooDeep rest) l c (inl same) d = absurd (omega (arith, ap length same))
  refuses (Stopped TooDeep rest) l c (inr (t, b, r)) d = (b.front, t, too_deep_of rest t b r d)

pub refused_rightly : (room : ℕ) (ts : List Token) → Refuses room ts (specification room ts)
refused_rightly room ts = refuses room ts (items room ts) ((items_fine room).local ts) (items_careful room ts) ((items_fine room).viable ts) ((items_fine room).deepens ts)
