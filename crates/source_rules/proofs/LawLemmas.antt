-- A source is one specification at most, and is refused in one way at most.
use Rattle.std.proofs.Common.{◌≡◌, ℕ, List, [], ◌∷◌, length, map, Some, None, refl, ap, sym, ◌∙◌, subst}
use Rattle.tsl_value.specs.declared.place.Place.{Place}
use Rattle.flat_core.specs.System.{System, equation}
use Rattle.flat_core.specs.WellFormed.{IsWellFormed}
use Rattle.spec_lexer.specs.declared.token.Token.{Token}
use Rattle.spec_lexer.specs.declared.fault.LexFault.{LexFault}
use Rattle.spec_lexer.specs.declared.fault.LexFault.TheVariants as lex_fault
use Rattle.spec_lexer.specs.Tokens.{Spelled}
use Rattle.spec_lexer.specs.Source.{HasTokens, HasFault}
use Rattle.spec_lexer.proofs.SourceLaws.{one_list as one_spelled, one_refusal as one_fault, tokens_or_fault}
use Rattle.syntax_tree.specs.Tree as tree
use Rattle.spec_parser.specs.declared.parse.ParseFault.{ParseFault}
use Rattle.spec_parser.specs.declared.parse.ParseFault.TheVariants as parse_fault
use Rattle.spec_parser.specs.Grammar.{Spells}
use Rattle.spec_parser.specs.Answers.{place_at}
use Rattle.spec_parser.proofs.Items.{one_tree}
use Rattle.spec_parser.proofs.AnswerLaws.{tree_or_unexpected, tree_or_too_deep}
use Rattle.spec_parser.proofs.OneRefusal.{one_refusal as one_kind, one_unexpected, one_too_deep as one_token}
use Rattle.spec_parser.specs.declared.limits.TheConstants.{MOST_LEVELS}
use Rattle.name_check.specs.Faults.{first}
use Rattle.type_rules.specs.Kinds.{Kinds}
use Rattle.expr_types.specs.Bodies.{AreKinds}
use Rattle.type_check.specs.declared.fault.TypeFault.{TypeFault}
use Rattle.type_check.specs.declared.fault.TypeFault.TheVariants as type_fault
use Rattle.type_check.specs.Faults.{IsFirstFault}
use Rattle.type_check.proofs.LawLemmas.{one_kinds, one_fault as one_type_fault, accepted_has_no_fault, kinds_same}
use Rattle.call_limits.specs.Nesting.{IsFirstMacroCycle, IsFirstTooDeep}
use Rattle.call_limits.proofs.LawLemmas.{one_macro_cycle, one_too_deep}
use Rattle.function_bodies.specs.Bodies.{too_large_bodies}
use Rattle.stream_constructs.specs.declared.maker.MakeFault.TheVariants as make_fault
use Rattle.equation_marks.specs.Marks.{all_marks}
use Rattle.equation_marks.specs.Refused.{refused}
use Rattle.spec_meaning.specs.Flat.{IsFlatOf}
use Rattle.flat_meaning.proofs.LawLemmas.{one_system as one_flat_system}
use Rattle.translation_order.specs.Cycle.{IsCycleOfWalk}
use Rattle.translation_order.proofs.Cycles.{one_cycle}
use Rattle.recursion_check.specs.Feeds.{Feeds}
use Rattle.source_rules.specs.declared.fault.FlatFault.{FlatFault}
use Rattle.source_rules.specs.declared.fault.FlatFault.TheVariants as flat_fault
use Rattle.source_rules.specs.declared.fault.SpecFault.TheVariants as fault
use Rattle.source_rules.specs.Source.{IsSpelled, IsWellTyped, Specifies, HasSystem, SpellsSystem, IsLexFault, IsParseFault, IsMisspelled, IsTypeFault, IsMistyped, IsFlatFault, HasNoFlat, IsCyclic}
use Rattle.program_text.specs.Text.{label_text}
use Rattle.source_rules.specs.inner.Laws.{OneReading, OneSystem, RefusedSpellsNone, OneRefusal, RefusalsAreNoMemory}
use Rattle.source_rules.proofs.CycleLemmas.{as_cycle, first_there, no_order}

-- ---- tokens
has_fault : (source : List ℕ) (e : LexFault) → IsLexFault source e → HasFault source e
has_fault source lex_fault.Memory h = absurd h
has_fault source e h = h

lexed_or_fault : (source : List ℕ) (e : LexFault) (a : Spelled) → IsLexFault source e → HasTokens source a → ⊥
lexed_or_fault source e a h tokens = tokens_or_fault source a e tokens (has_fault source e h)

one_parse_fault : (tokens : List Token) (end : Place) (d e : ParseFault) → IsParseFault tokens end d → IsParseFault tokens end e → d ≡ e
one_parse_fault tokens end parse_fault.Memory e g h = absurd g
one_parse_fault tokens end (parse_fault.Unexpected p) parse_fault.Memory g h = absurd h
one_parse_fault tokens end (parse_fault.Unexpected p) (parse_fault.Unexpected q) g h =
    let rest : g.1 ≡ h.1 = one_unexpected MOST_LEVELS tokens g.0 g.1 g.2 h.0 h.1 h.2 in
    ap (λ k. parse_fault.Unexpected k) (g.3 ∙ (ap (λ r. place_at r end) rest ∙ sym h.3))
one_parse_fault tokens end (parse_fault.Unexpected p) (parse_fault.TooDeep q) g h = absurd (one_kind MOST_LEVELS tokens g.0 g.1 g.2 h.0 h.1 h.2 h.3)
one_parse_fault tokens end (parse_fault.TooDeep p) parse_fault.Memory g h = absurd h
one_parse_fault tokens end (parse_fault.TooDeep p) (parse_fault.Unexpected q) g h = absurd (one_kind MOST_LEVELS tokens h.0 h.1 h.2 g.0 g.1 g.2 g.3)
one_parse_fault tokens end (parse_fault.TooDeep p) (parse_fault.TooDeep q) g h =
    let left : g.1 ∷ g.2 ≡ h.1 ∷ h.2 = one_token MOST_LEVELS tokens g.0 g.1 g.2 g.3 h.0 h.1 h.2 h.3 in
    let token : g.1 ≡ h.1 = cc in
    ap (λ k. parse_fault.TooDeep k) (g.4 ∙ (ap (λ (t : Token). t.place) token ∙ sym h.4))

-- ---- the tree
-- tokens that spell a tree are not refused
no_parse_fault : (tokens : List Token) (end : Place) (e : ParseFault) (items : List tree.Item) → IsParseFault tokens end e → Spells MOST_LEVELS tokens items → ⊥
no_parse_fault tokens end parse_fault.Memory items h spells = h
no_parse_fault tokens end (parse_fault.Unexpected p) items h spells = tree_or_unexpected MOST_LEVELS tokens items h.0 h.1 spells h.2
no_parse_fault tokens end (parse_fault.TooDeep p) items h spells = tree_or_too_deep MOST_LEVELS tokens items h.0 h.1 h.2 spells h.3

same_tokens : (source : List ℕ) (a b : Spelled) (e : ParseFault) → HasTokens source a → HasTokens source b → IsParseFault a.tokens a.end e → IsParseFault b.tokens b.end e
same_tokens source a b e has_a has_b h = subst (λ (c : Spelled). IsParseFault c.tokens c.end e) (one_spelled source a b has_a has_b) h

module _ (source : List ℕ) where
  spelled_or_refused : (e : ParseFault) (items : List tree.Item) (end : Place) → IsMisspelled source e → IsSpelled source items end → ⊥
  spelled_or_refused e items end m s =
      no_parse_fault s.spelled.tokens s.spelled.end e items (same_tokens source m.spelled s.spelled e m.tokens s.tokens m.refused) s.spells

  -- one tree, and one end
  module _ (items others : List tree.Item) (end last : Place) (g : IsSpelled source items end) (h : IsSpelled source others last) where
    same_spelled : g.spelled ≡ h.spelled
    same_spelled = one_spelled source g.spelled h.spelled g.tokens h.tokens

    same_items : items ≡ others
    same_items = one_tree MOST_LEVELS h.spelled.tokens items others (subst (λ (c : Spelled). Spells MOST_LEVELS c.tokens items) same_spelled g.spells) h.spells

    same_end : end ≡ last
    same_end = sym g.end_is ∙ (ap (λ (c : Spelled). c.end) same_spelled ∙ h.end_is)

  -- ---- types
  is_first_fault : (items : List tree.Item) (end : Place) (e : TypeFault) → IsTypeFault items end e → IsFirstFault items end e
  is_first_fault items end type_fault.Memory h = absurd h
  is_first_fault items end e h = h

  -- the fault is that of any items that the source spells
  same_fault : (e : TypeFault) (items : List tree.Item) (end : Place) → IsMistyped source e → IsSpelled source items end → IsFirstFault items end e
  same_fault e items end m s =
      subst (λ last. IsFirstFault items last e) (same_end m.items items m.end end m.spelled s) (subst (λ others. IsFirstFault others m.end e) (same_items m.items items m.end end m.spelled s) (is_first_fault m.items m.end e m.refused))

  one_type_refusal : (d e : TypeFault) → IsMistyped source d → IsMistyped source e → d ≡ e
  one_type_refusal d e g h = one_type_fault h.items h.end d e (same_fault d h.items h.end g h.spelled) (is_first_fault h.items h.end e h.refused)

  typed_or_refused : (e : TypeFault) (items : List tree.Item) (kinds : Kinds) → IsMistyped source e → IsWellTyped source items kinds → ⊥
  typed_or_refused e items kinds m t = accepted_has_no_fault items t.end kinds e t.accepted (same_fault e items t.end m t.spelled)

  -- ---- what the declared names are
  module _ (items others : List tree.Item) (kinds again : Kinds) (g : IsWellTyped source items kinds) (h : IsWellTyped source others again) where
    typed_items : items ≡ others
    typed_items = same_items items others g.end h.end g.spelled h.spelled

    typed_kinds : kinds ≡ again
    typed_kinds =
        kinds_same kinds again (one_kinds others kinds again h.accepted.no_cycle (subst (λ is. AreKinds is kinds) typed_items g.accepted.are_kinds) h.accepted.are_kinds)

-- ---- refusals of the flattening
some_or_none : {A : Type 0} (x : A) → Some x ≡ None → ⊥
some_or_none x e = cc

no_flat_fault : (items : List tree.Item) (kinds : Kinds) (e : FlatFault) → IsFirstMacroCycle items None → IsFirstTooDeep items None → too_large_bodies items ≡ [] → refused (all_marks items kinds) ≡ None → IsFlatFault items kinds e → ⊥
no_flat_fault items kinds (flat_fault.MacroCycle p) no_cycle nests small few h = some_or_none p (one_macro_cycle items (Some p) None h no_cycle)
no_flat_fault items kinds (flat_fault.CallsTooDeep p) no_cycle nests small few h = some_or_none p (one_too_deep items (Some p) None h.1 nests)
no_flat_fault items kinds (flat_fault.BodyTooLarge p) no_cycle nests small few h = some_or_none p (sym h.2 ∙ ap first small)
no_flat_fault items kinds (flat_fault.TooManyEquations p) no_cycle nests small few h = some_or_none (make_fault.TooManyEquations p) (sym h.3 ∙ few)
no_flat_fault items kinds (flat_fault.TooManyUpdates p) no_cycle nests small few h = some_or_none (make_fault.TooManyUpdates p) (sym h.3 ∙ few)

one_flat_fault : (items : List tree.Item) (kinds : Kinds) (d e : FlatFault) → IsFlatFault items kinds d → IsFlatFault items kinds e → d ≡ e
one_flat_fault items kinds (flat_fault.MacroCycle p) (flat_fault.MacroCycle q) g h = let same = one_macro_cycle items (Some p) (Some q) g h in cc
one_flat_fault items kinds (flat_fault.MacroCycle p) e g h = absurd (some_or_none p (one_macro_cycle items (Some p) None g h.0))
one_flat_fault items kinds d (flat_fault.MacroCycle q) g h = absurd (some_or_none q (one_macro_cycle items (Some q) None h g.0))
one_flat_fault items kinds (flat_fault.CallsTooDeep p) (flat_fault.CallsTooDeep q) g h = let same = one_too_deep items (Some p) (Some q) g.1 h.1 in cc
one_flat_fault items kinds (flat_fault.CallsTooDeep p) e g h = absurd (some_or_none p (one_too_deep items (Some p) None g.1 h.1))
one_flat_fault items kinds d (flat_fault.CallsTooDeep q) g h = absurd (some_or_none q (one_too_deep items (Some q) None h.1 g.1))
one_flat_fault items kinds (flat_fault.BodyTooLarge p) (flat_fault.BodyTooLarge q) g h = let same = sym g.2 ∙ h.2 in cc
one_flat_fault items kinds (flat_fault.BodyTooLarge p) e g h = absurd (some_or_none p (sym g.2 ∙ ap first h.2))
one_flat_fault items kinds d (flat_fault.BodyTooLarge q) g h = absurd (some_or_none q (sym h.2 ∙ ap first g.2))
one_flat_fault items kinds d e g h = let same = sym g.3 ∙ h.3 in cc

module _ (source : List ℕ) where
  -- the fault is that of any items and kinds that are the source's
  same_flat_fault : (e : FlatFault) (items : List tree.Item) (kinds : Kinds) → HasNoFlat source e → IsWellTyped source items kinds → IsFlatFault items kinds e
  same_flat_fault e items kinds n t =
      subst (λ again. IsFlatFault items again e) (typed_kinds source n.items items n.kinds kinds n.typed t) (subst (λ others. IsFlatFault others n.kinds e) (typed_items source n.items items n.kinds kinds n.typed t) n.refused)

  one_flat_refusal : (d e : FlatFault) → HasNoFlat source d → HasNoFlat source e → d ≡ e
  one_flat_refusal d e g h = one_flat_fault h.items h.kinds d e (same_flat_fault d h.items h.kinds g h.typed) h.refused

  specified_or_refused : (e : FlatFault) (items : List tree.Item) (kinds : Kinds) → HasNoFlat source e → Specifies source items kinds → ⊥
  specified_or_refused e items kinds n s =
      no_flat_fault items kinds e s.no_macro_cycle s.nests s.small s.few (same_flat_fault e items kinds n s.typed)

  -- ---- one system
  module _ (items others : List tree.Item) (s t : System) (g : HasSystem source items s) (h : HasSystem source others t) where
    system_items : items ≡ others
    system_items = typed_items source items others g.kinds h.kinds g.specifies.typed h.specifies.typed

    same_system : s ≡ t
    same_system =
        let kinds : g.kinds ≡ h.kinds = typed_kinds source items others g.kinds h.kinds g.specifies.typed h.specifies.typed in
        one_flat_system others g.kinds h.kinds s t (record { items_same = λ i k. (kinds k).item i; locals_same = λ i j k. (kinds k).local i j }) (subst (λ is. IsFlatOf is g.kinds s.equations s.outputs) system_items g.is_flat_of) h.is_flat_of g.is_flat h.is_flat g.needed h.needed

  -- ---- cycles of equations
  module _ (p q : Place) (names others : List (List ℕ)) (g : IsCyclic source p names) (h : IsCyclic source q others) where
    one : g.system ≡ h.system
    one = same_system g.items h.items g.system h.system g.is_system h.is_system

    one_walk : g.cycle ≡ h.cycle
    one_walk =
        one_cycle (length h.system.equations) (Feeds h.system) g.cycle h.cycle (subst (λ (s : System). IsCycleOfWalk (length s.equations) (Feeds s) g.cycle) one g.walked) h.walked

    one_place : p ≡ q
    one_place =
        let c = as_cycle h.system h.cycle h.walked in
        let e = first_there h.system h.cycle h.walked in
        g.place_is c.first c.rest e.0 (one_walk ∙ c.is) (ap (λ s. equation s c.first) one ∙ e.1) ∙ sym (h.place_is c.first c.rest e.0 c.is e.1)

    same_names : names ≡ others
    same_names = g.names_are ∙ ((λ k. map (label_text (one k)) (one_walk k)) ∙ sym h.names_are)

  ordered_or_cyclic : (place : Place) (names : List (List ℕ)) (items : List tree.Item) (s : System) → IsCyclic source place names → SpellsSystem source items s → ⊥
  ordered_or_cyclic place names items s c spells =
      no_order c.system c.cycle c.walked c.is_system.is_flat (subst IsWellFormed (same_system items c.items s c.system spells.system c.is_system) spells.well_formed)

-- ---- the laws
pub one_reading : OneReading
one_reading source items others kinds again g h =
    (typed_items source items others kinds again g.typed h.typed, typed_kinds source items others kinds again g.typed h.typed)

pub one_system : OneSystem
one_system source items others s t g h = (system_items source items others s t g.system h.system, same_system source items others s t g.system h.system)

pub refused_spells_none : RefusedSpellsNone
refused_spells_none source (fault.Lex e) items s other refused spells =
    let is = spells.system.specifies.typed.spelled in lexed_or_fault source e is.spelled refused is.tokens
refused_spells_none source (fault.Parse e) items s other refused spells =
    let typed = spells.system.specifies.typed in spelled_or_refused source e items typed.end refused typed.spelled
refused_spells_none source (fault.Types e) items s other refused spells =
    typed_or_refused source e items spells.system.kinds refused spells.system.specifies.typed
refused_spells_none source (fault.Flat e) items s other refused spells =
    specified_or_refused source e items spells.system.kinds refused spells.system.specifies
refused_spells_none source (fault.Cycle place names) items s other refused spells = ordered_or_cyclic source place names.items items s refused spells
refused_spells_none source fault.Memory items s other refused spells = other refl

-- an earlier refusal, and a later one
module _ (source : List ℕ) where
  lex_or_types : (d : LexFault) (e : TypeFault) → IsLexFault source d → IsMistyped source e → ⊥
  lex_or_types d e g h = lexed_or_fault source d h.spelled.spelled g h.spelled.tokens

  lex_or_flat : (d : LexFault) (e : FlatFault) → IsLexFault source d → HasNoFlat source e → ⊥
  lex_or_flat d e g h = lexed_or_fault source d h.typed.spelled.spelled g h.typed.spelled.tokens

  lex_or_cycle : (d : LexFault) (place : Place) (names : List (List ℕ)) → IsLexFault source d → IsCyclic source place names → ⊥
  lex_or_cycle d place names g h =
      let is = h.is_system.specifies.typed.spelled in lexed_or_fault source d is.spelled g is.tokens

  parse_or_types : (d : ParseFault) (e : TypeFault) → IsMisspelled source d → IsMistyped source e → ⊥
  parse_or_types d e g h = spelled_or_refused source d h.items h.end g h.spelled

  parse_or_flat : (d : ParseFault) (e : FlatFault) → IsMisspelled source d → HasNoFlat source e → ⊥
  parse_or_flat d e g h = spelled_or_refused source d h.items h.typed.end g h.typed.spelled

  parse_or_cycle : (d : ParseFault) (place : Place) (names : List (List ℕ)) → IsMisspelled source d → IsCyclic source place names → ⊥
  parse_or_cycle d place names g h =
      let typed = h.is_system.specifies.typed in spelled_or_refused source d h.items typed.end g typed.spelled

  types_or_flat : (d : TypeFault) (e : FlatFault) → IsMistyped source d → HasNoFlat source e → ⊥
  types_or_flat d e g h = typed_or_refused source d h.items h.kinds g h.typed

  types_or_cycle : (d : TypeFault) (place : Place) (names : List (List ℕ)) → IsMistyped source d → IsCyclic source place names → ⊥
  types_or_cycle d place names g h = typed_or_refused source d h.items h.is_system.kinds g h.is_system.specifies.typed

  flat_or_cycle : (d : FlatFault) (place : Place) (names : List (List ℕ)) → HasNoFlat source d → IsCyclic source place names → ⊥
  flat_or_cycle d place names g h = specified_or_refused source d h.items h.is_system.kinds g h.is_system.specifies

pub one_refusal : OneRefusal
one_refusal source fault.Memory e other_d other_e g h = absurd (other_d refl)
one_refusal source d fault.Memory other_d other_e g h = absurd (other_e refl)
one_refusal source (fault.Lex d) (fault.Lex e) other_d other_e g h = ap fault.Lex (one_fault source d e (has_fault source d g) (has_fault source e h))
one_refusal source (fault.Lex d) (fault.Parse e) other_d other_e g h = absurd (lexed_or_fault source d h.spelled g h.tokens)
one_refusal source (fault.Lex d) (fault.Types e) other_d other_e g h = absurd (lex_or_types source d e g h)
one_refusal source (fault.Lex d) (fault.Flat e) other_d other_e g h = absurd (lex_or_flat source d e g h)
one_refusal source (fault.Lex d) (fault.Cycle q others) other_d other_e g h = absurd (lex_or_cycle source d q others.items g h)
one_refusal source (fault.Parse d) (fault.Lex e) other_d other_e g h = absurd (lexed_or_fault source e g.spelled h g.tokens)
one_refusal source (fault.Parse d) (fault.Parse e) other_d other_e g h =
    ap fault.Parse (one_parse_fault h.spelled.tokens h.spelled.end d e (same_tokens source g.spelled h.spelled d g.tokens h.tokens g.refused) h.refused)
one_refusal source (fault.Parse d) (fault.Types e) other_d other_e g h = absurd (parse_or_types source d e g h)
one_refusal source (fault.Parse d) (fault.Flat e) other_d other_e g h = absurd (parse_or_flat source d e g h)
one_refusal source (fault.Parse d) (fault.Cycle q others) other_d other_e g h = absurd (parse_or_cycle source d q others.items g h)
one_refusal source (fault.Types d) (fault.Lex e) other_d other_e g h = absurd (lex_or_types source e d h g)
one_refusal source (fault.Types d) (fault.Parse e) other_d other_e g h = absurd (parse_or_types source e d h g)
one_refusal source (fault.Types d) (fault.Types e) other_d other_e g h = ap fault.Types (one_type_refusal source d e g h)
one_refusal source (fault.Types d) (fault.Flat e) other_d other_e g h = absurd (types_or_flat source d e g h)
one_refusal source (fault.Types d) (fault.Cycle q others) other_d other_e g h = absurd (types_or_cycle source d q others.items g h)
one_refusal source (fault.Flat d) (fault.Lex e) other_d other_e g h = absurd (lex_or_flat source e d h g)
one_refusal source (fault.Flat d) (fault.Parse e) other_d other_e g h = absurd (parse_or_flat source e d h g)
one_refusal source (fault.Flat d) (fault.Types e) other_d other_e g h = absurd (types_or_flat source e d h g)
one_refusal source (fault.Flat d) (fault.Flat e) other_d other_e g h = ap fault.Flat (one_flat_refusal source d e g h)
one_refusal source (fault.Flat d) (fault.Cycle q others) other_d other_e g h = absurd (flat_or_cycle source d q others.items g h)
one_refusal source (fault.Cycle p names) (fault.Lex e) other_d other_e g h = absurd (lex_or_cycle source e p names.items h g)
one_refusal source (fault.Cycle p names) (fault.Parse e) other_d other_e g h = absurd (parse_or_cycle source e p names.items h g)
one_refusal source (fault.Cycle p names) (fault.Types e) other_d other_e g h = absurd (types_or_cycle source e p names.items h g)
one_refusal source (fault.Cycle p names) (fault.Flat e) other_d other_e g h = absurd (flat_or_cycle source e p names.items h g)
one_refusal source (fault.Cycle p names) (fault.Cycle q others) other_d other_e g h =
    (one_place source p q names.items others.items g h, same_names source p q names.items others.items g h)

pub refusals_are_no_memory : RefusalsAreNoMemory
refusals_are_no_memory source = record { lexed = λ h. h; parsed = λ m. m.refused; typed = λ m. m.refused }
