-- Tokens are refused at one place alone, and for one reason.
use Rattle.std.proofs.Common.{◌≡◌, ℕ, suc, true, false, List, [], ◌∷◌, ◌++◌, refl, sym, ap, subst, ◌∙◌, inl, inr, append_assoc}
use Rattle.std.specs.Prelude.{◌⊎◌}
use Rattle.std.proofs.lemmas.List.{append-nil}
use Rattle.spec_lexer.specs.declared.token.Token.{Token}
use Rattle.syntax_tree.specs.Tree.{Item}
use Rattle.spec_parser.specs.Words.{may_open, opens_level}
use Rattle.spec_parser.specs.Grammar.{Spells}
use Rattle.spec_parser.specs.Refusals.{Begins, ArePlain, OpensAlike, BeginsAlike, IsWithin, IsUnexpected, IsTooDeep}
use Rattle.spec_parser.proofs.RefusalLaws.{may}

-- a list that is cut into two parts twice: at one place, or at an earlier one and a later
abbrev Parted : List Token → List Token → List Token → List Token → Type 0
Parted a b c d = ((m : List Token) × (c ≡ a ++ m) × (b ≡ m ++ d)) ⊎ ((x : Token) × (m : List Token) × (a ≡ c ++ x ∷ m) × (d ≡ x ∷ (m ++ b)))

first_is : (x y : Token) (a b : List Token) → x ∷ a ≡ y ∷ b → x ≡ y
first_is x y a b e = cc

others_are : (x y : Token) (a b : List Token) → x ∷ a ≡ y ∷ b → a ≡ b
others_are x y a b e = cc

part_on : (x y : Token) (a b c d : List Token) → x ≡ y → Parted a b c d → Parted (x ∷ a) b (y ∷ c) d
part_on x y a b c d h (inl r) = inl (r.0, (λ k. sym h k ∷ r.1 k), r.2)
part_on x y a b c d h (inr r) = inr (r.0, r.1, (λ k. h k ∷ r.2 k), r.3)

parted : (a b c d : List Token) → a ++ b ≡ c ++ d → Parted a b c d
parted [] b c d e = inl (c, refl, e)
parted (x ∷ a) b [] d e = inr (x, a, refl, sym e)
parted (x ∷ a) b (y ∷ c) d e = part_on x y a b c d (first_is x y (a ++ b) (c ++ d) e) (parted a b c d (others_are x y (a ++ b) (c ++ d) e))

plain_at : (n : List Token) (t : Token) (m : List Token) → ArePlain (n ++ t ∷ m) → may_open t.kind ≡ false
plain_at [] t m h = h.0
plain_at (x ∷ n) t m h = plain_at n t m h.1

last_alike : (front : List Token) (t : Token) (left more : List Token) → OpensAlike (front ++ t ∷ []) left more → opens_level t left ≡ true → opens_level t more ≡ true
last_alike [] t left more h = h
last_alike (x ∷ []) t left more h = h
last_alike (x ∷ y ∷ front) t left more h = last_alike (y ∷ front) t left more h

different : true ≡ false → ⊥
different e = cc

-- no later token is within the room after one that is too deep
module _ (room : ℕ) (ts front : List Token) (t : Token) (left : List Token) (d : IsTooDeep room ts front t left) where
  opens_on : (n f last rest more : List Token) → f ≡ front ++ t ∷ n → left ≡ (n ++ last) ++ rest → OpensAlike f (last ++ rest) more → opens_level t (n ++ more) ≡ true
  opens_on [] f last rest more p e alike = last_alike front t (last ++ rest) more (subst (λ l. OpensAlike l (last ++ rest) more) p alike) (subst (λ l. opens_level t l ≡ true) e d.opens)
  opens_on (y ∷ n) f last rest more p e alike = subst (λ l. opens_level t l ≡ true) e d.opens

  no_tree : (n f last rest : List Token) → f ≡ front ++ t ∷ n → left ≡ (n ++ last) ++ rest → BeginsAlike room f (last ++ rest) → ⊥
  no_tree n f last rest p e b = d.refused (n ++ b.0) (opens_on n f last rest b.0 p e b.3) b.1 (subst (λ l. Spells room l b.1) (ap (λ l. l ++ b.0) p ∙ append_assoc front (t ∷ n) b.0) b.2)

  no_front : (m rest f last : List Token) → left ≡ m ++ rest → BeginsAlike room f (last ++ rest) → ArePlain last → Parted f last front (t ∷ m) → ⊥
  no_front m rest f last e b plain (inl r) = different (sym (may t left d.opens) ∙ plain_at r.0 t m (subst ArePlain r.2 plain))
  no_front m rest f last e b plain (inr r) =
      let same : t ≡ r.0 = first_is t r.0 m (r.1 ++ last) r.3 in
      no_tree r.1 f last rest (r.2 ∙ (λ k. front ++ sym same k ∷ r.1)) (e ∙ ap (λ l. l ++ rest) (others_are t r.0 m (r.1 ++ last) r.3)) b

  not_within : (m rest : List Token) → left ≡ m ++ rest → IsWithin room (front ++ t ∷ m) rest → ⊥
  not_within m rest e w = no_front m rest w.0 w.1 e w.3 w.4 (parted w.0 w.1 front (t ∷ m) (sym w.2))

  -- a front that goes on after the token is none
  no_later : (f : List Token) (x : Token) (m rest : List Token) → f ≡ front ++ x ∷ m → t ∷ left ≡ x ∷ (m ++ rest) → IsWithin room f rest → ⊥
  no_later f x m rest p q w =
      let same : t ≡ x = first_is t x left (m ++ rest) q in
      not_within m rest (others_are t x left (m ++ rest) q) (subst (λ l. IsWithin room l rest) (p ∙ (λ k. front ++ sym same k ∷ m)) w)

begins_shorter : (deeper : ℕ) (front : List Token) (x : Token) (m more : List Token) (items : List Item) → Spells deeper ((front ++ x ∷ m) ++ more) items → Begins deeper (front ++ x ∷ [])
begins_shorter deeper front x m more items s = (m ++ more, items, subst (λ l. Spells deeper l items) (regroup front x m more) s)
  where
    regroup : (front : List Token) (x : Token) (m more : List Token) → (front ++ x ∷ m) ++ more ≡ (front ++ x ∷ []) ++ (m ++ more)
    regroup front x m more = append_assoc front (x ∷ m) more ∙ sym (append_assoc front (x ∷ []) (m ++ more))

-- tokens that can't go on at one don't go on after it
module _ (room : ℕ) (ts front rest : List Token) (u : IsUnexpected room ts front rest) where
  not_begun : (f m others : List Token) (x : Token) → f ≡ front ++ x ∷ m → rest ≡ x ∷ others → (deeper : ℕ) → Begins deeper f → ⊥
  not_begun f m others x p q deeper b = u.refused x others q deeper (begins_shorter deeper front x m b.0 b.1 (subst (λ l. Spells deeper (l ++ b.0) b.1) p b.2))

begun_by : (front : List Token) → ((deeper : ℕ) × Begins deeper front) → ((deeper : ℕ) → Begins deeper front → ⊥) → ⊥
begun_by front (deeper, b) k = k deeper b

-- both refusals
module _ (room : ℕ) (ts front rest : List Token) (u : IsUnexpected room ts front rest) (before : List Token) (t : Token) (left : List Token) (d : IsTooDeep room ts before t left) where
  at_or_before : (m : List Token) → before ≡ front ++ m → rest ≡ m ++ t ∷ left → ⊥
  at_or_before [] p q = not_begun room ts front rest u (before ++ t ∷ []) [] left t (ap (λ l. l ++ t ∷ []) (p ∙ append-nil front)) q (suc room) d.begun
  at_or_before (x ∷ m) p q = not_begun room ts front rest u (before ++ t ∷ []) (m ++ t ∷ []) (m ++ t ∷ left) x (ap (λ l. l ++ t ∷ []) p ∙ append_assoc front (x ∷ m) (t ∷ [])) q (suc room) d.begun

  excluded : Parted front rest before (t ∷ left) → ⊥
  excluded (inl r) = at_or_before r.0 r.1 r.2
  excluded (inr r) = no_later room ts before t left d front r.0 r.1 rest r.2 r.3 u.within

  pub one_refusal : ⊥
  one_refusal = excluded (parted front rest before (t ∷ left) (sym u.whole ∙ d.whole))

-- two of one kind
module _ (room : ℕ) (ts front rest : List Token) (u : IsUnexpected room ts front rest) (front2 rest2 : List Token) (v : IsUnexpected room ts front2 rest2) where
  same_rest : Parted front rest front2 rest2 → rest ≡ rest2
  same_rest (inl r) = at r.0 r.1 r.2
    where
      at : (m : List Token) → front2 ≡ front ++ m → rest ≡ m ++ rest2 → rest ≡ rest2
      at [] p q = q
      at (x ∷ m) p q = absurd (begun_by front2 v.begun (not_begun room ts front rest u front2 m (m ++ rest2) x p q))
  same_rest (inr r) = absurd (begun_by front u.begun (not_begun room ts front2 rest2 v front r.1 (r.1 ++ rest) r.0 r.2 r.3))

  pub one_unexpected : rest ≡ rest2
  one_unexpected = same_rest (parted front rest front2 rest2 (sym u.whole ∙ v.whole))

module _ (room : ℕ) (ts front : List Token) (t : Token) (left : List Token) (d : IsTooDeep room ts front t left) (front2 : List Token) (t2 : Token) (left2 : List Token) (e : IsTooDeep room ts front2 t2 left2) where
  same_left : Parted front (t ∷ left) front2 (t2 ∷ left2) → t ∷ left ≡ t2 ∷ left2
  same_left (inl r) = at r.0 r.1 r.2
    where
      at : (m : List Token) → front2 ≡ front ++ m → t ∷ left ≡ m ++ t2 ∷ left2 → t ∷ left ≡ t2 ∷ left2
      at [] p q = q
      at (x ∷ m) p q = absurd (no_later room ts front t left d front2 x m (t2 ∷ left2) p q e.within)
  same_left (inr r) = absurd (no_later room ts front2 t2 left2 e front r.0 r.1 (t ∷ left) r.2 r.3 d.within)

  pub one_too_deep : t ∷ left ≡ t2 ∷ left2
  one_too_deep = same_left (parted front (t ∷ left) front2 (t2 ∷ left2) (sym d.whole ∙ e.whole))
