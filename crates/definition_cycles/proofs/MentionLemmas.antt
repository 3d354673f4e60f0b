-- The mentions that are kept, and the relation of them.
use Rattle.std.proofs.Common.{◌≡◌, ℕ, zero, suc, ◌+◌, List, [], ◌∷◌, ◌++◌, map, length, Option, Some, None, refl, sym, ap, subst, ◌∙◌, append_assoc, add-one, inl, inr, arith}
use Rattle.std.specs.Prelude.{slice_get}
use Rattle.std.specs.Option.{option_map}
use Rattle.std.specs.List.{Contains}
use Rattle.std.proofs.lemmas.List.{append-nil, length_push}
use Rattle.std.proofs.lemmas.List.Elements.{Contains-append_left, Contains-append_right, Contains-append_cases}
use Rattle.tsl_value.proofs.Lists.{none_in_nil}
use Rattle.name_check.specs.declared.declaration.Declaration.{Declaration}
use Rattle.name_check.specs.Scope.{Scope}
use Rattle.name_check.specs.Parts.{Part, parts}
use Rattle.name_check.specs.Bodies.{Seen}
use Rattle.definition_cycles.specs.declared.mention.Mention.{Mention}
use Rattle.definition_cycles.specs.declared.found.Head.{Head}
use Rattle.definition_cycles.specs.Nodes.{Node}
use Rattle.definition_cycles.specs.Mentions.{declared}
use Rattle.definition_cycles.specs.Calls.{is_call}
use Rattle.definition_cycles.specs.inner.Walk.{head_of, mention_in, mentions_at, mentions_of, mentions_from, Kept, with_node, with_nodes, nothing_kept}
use Rattle.definition_cycles.proofs.ListLemmas.{in_filtered, from_filtered}

-- ---- all that is kept
same_kept : (hs gs : List Head) (ms ns : List Mention) → hs ≡ gs → ms ≡ ns → (let a : Kept = record { heads = hs; mentions = ms } in let b : Kept = record { heads = gs; mentions = ns } in a ≡ b)
same_kept hs gs ms ns h m =
    let f : List Head → Kept = λ x. record { heads = x; mentions = ms } in
    let g : List Mention → Kept = λ x. record { heads = gs; mentions = x } in ap f h ∙ ap g m

kept_by : (k : Kept) (ns : List Node) → with_nodes k ns ≡ record { heads = k.heads ++ map head_of ns; mentions = k.mentions ++ mentions_from (length k.heads) ns }
kept_by k [] = same_kept _ _ _ _ (sym (append-nil k.heads)) (sym (append-nil k.mentions))
kept_by k (n ∷ ns) =
    kept_by (with_node k n) ns
    ∙ same_kept _ _ _ _ (append_assoc k.heads (head_of n ∷ []) (map head_of ns))
    (append_assoc k.mentions (mentions_of (length k.heads) n) (mentions_from (length (k.heads ++ head_of n ∷ [])) ns)
    ∙ ap (λ a. k.mentions ++ (mentions_of (length k.heads) n ++ mentions_from a ns)) (length_push k.heads (head_of n) ∙ add-one (length k.heads)))

pub all_kept : (ns : List Node) (k : Kept) → k ≡ with_nodes nothing_kept ns → (k.heads ≡ map head_of ns) × (k.mentions ≡ mentions_from 0 ns)
all_kept ns k h = let e = h ∙ kept_by nothing_kept ns in (ap (λ x. x.heads) e, ap (λ x. x.mentions) e)

-- ---- a mention in a body
pub record MentionedAt (i a : ℕ) (body : Option Seen) (m : Mention) : Type 0 where
  pub seen : Seen
  pub is_body : body ≡ Some seen
  pub part : Part
  pub is_part : Contains (parts seen.expr) part
  pub stands_for : declared seen.scope part ≡ Some m.is
  pub calls : m.calls ≡ is_call part
  pub item : m.item ≡ i
  pub node : m.node ≡ a

pub record IsMentionIn (i a : ℕ) (s : Scope) (p : Part) (m : Mention) : Type 0 where
  pub stands_for : declared s p ≡ Some m.is
  pub calls : m.calls ≡ is_call p
  pub item : m.item ≡ i
  pub node : m.node ≡ a

pub mention_facts : (i a : ℕ) (s : Scope) (p : Part) (m : Mention) → mention_in i a s p ≡ Some m → IsMentionIn i a s p m
mention_facts i a s p m h = by (declared s p) refl h
  where
    by : (o : Option Declaration) → declared s p ≡ o → option_map (λ d. record { item = i; node = a; is = d; calls = is_call p }) o ≡ Some m → IsMentionIn i a s p m
    by None e k = absurd (cc)
    by (Some d) e k =
        let same : record { item = i; node = a; is = d; calls = is_call p } ≡ m = cc in record {
          stands_for = e ∙ ap (λ x. Some x.is) same;
          calls = sym (ap (λ x. x.calls) same);
          item = sym (ap (λ x. x.item) same);
          node = sym (ap (λ x. x.node) same);
        }

mentioned_at : (i a : ℕ) (body : Option Seen) (m : Mention) → Contains (mentions_at i a body) m → MentionedAt i a body m
mentioned_at i a None m c = absurd (none_in_nil m c)
mentioned_at i a (Some s) m c =
    let g = from_filtered (mention_in i a s.scope) (parts s.expr) m c in
    let f = mention_facts i a s.scope g.from m g.gives in record {
      seen = s;
      is_body = refl;
      part = g.from;
      is_part = g.is_there;
      stands_for = f.stands_for;
      calls = f.calls;
      item = f.item;
      node = f.node;
    }

-- ---- among nodes the first of which has number a
pub record Mentioned (a : ℕ) (ns : List Node) (m : Mention) : Type 0 where
  pub number : ℕ
  pub node : Node
  pub is_node : slice_get ns number ≡ Some node
  pub at : MentionedAt node.item (a + number) node.body m

pub mentioned : (a : ℕ) (ns : List Node) (m : Mention) → Contains (mentions_from a ns) m → Mentioned a ns m
mentioned a [] m c = absurd (none_in_nil m c)
mentioned a (n ∷ ns) m c = elim (Contains-append_cases (mentions_of a n) (mentions_from (suc a) ns) m c) [ inl k ↦ first (mentioned_at n.item a n.body m k) | inr k ↦ rest (mentioned (suc a) ns m k) ]
  where
    first : MentionedAt n.item a n.body m → Mentioned a (n ∷ ns) m
    first f = let P : ℕ → Type 0 = λ x. MentionedAt n.item x n.body m in let e : a ≡ a + 0 = omega arith in record { number = 0; node = n; is_node = refl; at = subst P e f }

    rest : Mentioned (suc a) ns m → Mentioned a (n ∷ ns) m
    rest r = let P : ℕ → Type 0 = λ x. MentionedAt r.node.item x r.node.body m in let e : suc a + r.number ≡ a + suc r.number = omega arith in record { number = suc r.number; node = r.node; is_node = r.is_node; at = subst P e r.at }

-- what is mentioned is kept
pub is_kept : (a : ℕ) (ns : List Node) (k : ℕ) (n : Node) (s : Seen) (p : Part) (d : Declaration) → slice_get ns k ≡ Some n → n.body ≡ Some s → Contains (parts s.expr) p → declared s.scope p ≡ Some d → Contains (mentions_from a ns) (record { item = n.item; node = a + k; is = d; calls = is_call p })
is_kept a [] k n s p d at body there stands = absurd (cc)
is_kept a (x ∷ ns) zero n s p d at body there stands =
    let same : x ≡ n = cc in
    let m : Mention = record { item = n.item; node = a; is = d; calls = is_call p } in
    let gives : mention_in n.item a s.scope p ≡ Some m = ap (option_map (λ e. record { item = n.item; node = a; is = e; calls = is_call p })) stands in
    let P : List Mention → Type 0 = λ l. Contains l m in
    let here : Contains (mentions_of a x) m = subst P (sym (ap (mentions_of a) same ∙ ap (mentions_at n.item a) body)) (in_filtered (mention_in n.item a s.scope) (parts s.expr) p m there gives) in
    let Q : ℕ → Type 0 = λ b. Contains (mentions_from a (x ∷ ns)) (record { item = n.item; node = b; is = d; calls = is_call p }) in
    let e : a ≡ a + 0 = omega arith in subst Q e (Contains-append_left (mentions_of a x) (mentions_from (suc a) ns) m here)
is_kept a (x ∷ ns) (suc k) n s p d at body there stands =
    let Q : ℕ → Type 0 = λ b. Contains (mentions_from a (x ∷ ns)) (record { item = n.item; node = b; is = d; calls = is_call p }) in
    let e : suc a + k ≡ a + suc k = omega arith in
    subst Q e (Contains-append_right (mentions_of a x) (mentions_from (suc a) ns) (record { item = n.item; node = suc a + k; is = d; calls = is_call p }) (is_kept (suc a) ns k n s p d at body there stands))
