-- The longest symbol in front is found.
use Rattle.std.proofs.Common.{◌≡◌, ◌≤◌, ℕ, ◌&&◌, ◌||◌, Bool, true, false, List, [], ◌∷◌, length, Some, None, refl, sym, ap, ◌∙◌, arith}
use Rattle.std.specs.List.{list_all}
use Rattle.std.specs.Prelude.{◌==◌, not, nat_lt}
use Rattle.std.specs.Char.{is_ascii_alphabetic, is_ascii_digit}
use Rattle.std.specs.Cmp.Derive.{both_true}
use Rattle.std.proofs.lemmas.Bool.{eqb-true, and_parts}
use Rattle.spec_lexer.specs.declared.token.Symbol.{Symbol}
use Rattle.spec_lexer.specs.declared.token.Symbol.TheVariants as symbol
use Rattle.spec_lexer.specs.Spelling.{is_within_line, symbol_spelling}
use Rattle.spec_lexer.specs.Found.{pair_of, single_of, next_of}
use Rattle.spec_lexer.proofs.Choices.{Tells, tell_next, no_such}

one : (c k : ℕ) → (c == k) ≡ true → k ∷ [] ≡ c ∷ []
one c k h = ap (λ x. x ∷ []) (sym (eqb-true c k h))

two : (c d k l : ℕ) → (c == k && d == l) ≡ true → k ∷ l ∷ [] ≡ c ∷ d ∷ []
two c d k l h = let parts = and_parts (c == k) (d == l) h in λ i. sym (eqb-true c k parts.0) i ∷ sym (eqb-true d l parts.1) i ∷ []

pub pair_of-spells : (c d : ℕ) → Tells (λ s. symbol_spelling s ≡ c ∷ d ∷ []) (pair_of c d)
unfolding pair_of
pair_of-spells c d =
    tell_next _ _ symbol.Define _ (two c d 58 61)
    (tell_next _ _ symbol.Or _ (two c d 124 124)
    (tell_next _ _ symbol.And _ (two c d 38 38)
    (tell_next _ _ symbol.Same _ (two c d 61 61)
    (tell_next _ _ symbol.Differs _ (two c d 33 61)
    (tell_next _ _ symbol.AtMost _ (two c d 60 61)
    (tell_next _ _ symbol.AtLeast _ (two c d 62 61) (λ s is. cc)))))))

pub single_of-spells : (c : ℕ) → Tells (λ s. symbol_spelling s ≡ c ∷ []) (single_of c)
unfolding single_of
single_of-spells c =
    tell_next _ _ symbol.Equals _ (one c 61)
    (tell_next _ _ symbol.Colon _ (one c 58)
    (tell_next _ _ symbol.Comma _ (one c 44)
    (tell_next _ _ symbol.Dot _ (one c 46)
    (tell_next _ _ symbol.Open _ (one c 40)
    (tell_next _ _ symbol.Close _ (one c 41)
    (tell_next _ _ symbol.OpenBracket _ (one c 91)
    (tell_next _ _ symbol.CloseBracket _ (one c 93)
    (tell_next _ _ symbol.OpenBrace _ (one c 123)
    (tell_next _ _ symbol.CloseBrace _ (one c 125)
    (tell_next _ _ symbol.Below _ (one c 60)
    (tell_next _ _ symbol.Above _ (one c 62)
    (tell_next _ _ symbol.Plus _ (one c 43)
    (tell_next _ _ symbol.Minus _ (one c 45)
    (tell_next _ _ symbol.Times _ (one c 42)
    (tell_next _ _ symbol.Divide _ (one c 47)
    (tell_next _ _ symbol.Remainder _ (one c 37)
    (tell_next _ _ symbol.Not _ (one c 33) (λ s is. cc))))))))))))))))))

-- what is found in front of a symbol's spelling
pub data SymbolLength : Symbol → Type 0 where
  double : {s : Symbol} {k l : ℕ} → symbol_spelling s ≡ k ∷ l ∷ [] → pair_of k l ≡ Some s → SymbolLength s
  single : {s : Symbol} {k : ℕ} → symbol_spelling s ≡ k ∷ [] → single_of k ≡ Some s → SymbolLength s

pub shape : (s : Symbol) → SymbolLength s
unfolding pair_of single_of
shape symbol.Define = double refl refl
shape symbol.Equals = single refl refl
shape symbol.Colon = single refl refl
shape symbol.Comma = single refl refl
shape symbol.Dot = single refl refl
shape symbol.Open = single refl refl
shape symbol.Close = single refl refl
shape symbol.OpenBracket = single refl refl
shape symbol.CloseBracket = single refl refl
shape symbol.OpenBrace = single refl refl
shape symbol.CloseBrace = single refl refl
shape symbol.Or = double refl refl
shape symbol.And = double refl refl
shape symbol.Same = double refl refl
shape symbol.Differs = double refl refl
shape symbol.AtMost = double refl refl
shape symbol.AtLeast = double refl refl
shape symbol.Below = single refl refl
shape symbol.Above = single refl refl
shape symbol.Plus = single refl refl
shape symbol.Minus = single refl refl
shape symbol.Times = single refl refl
shape symbol.Divide = single refl refl
shape symbol.Remainder = single refl refl
shape symbol.Not = single refl refl

-- visible ASCII characters that begin no name, number, text or comment by themselves
abbrev pub symbol_character : ℕ → Bool
symbol_character c = (nat_lt 32 c && nat_lt c 126) && ((not (is_ascii_alphabetic c) && not (is_ascii_digit c)) && not ((c == 34 || c == 35) || c == 95))

pub symbol_characters : (s : Symbol) → list_all symbol_character (symbol_spelling s) ≡ true
symbol_characters symbol.Define = refl
symbol_characters symbol.Equals = refl
symbol_characters symbol.Colon = refl
symbol_characters symbol.Comma = refl
symbol_characters symbol.Dot = refl
symbol_characters symbol.Open = refl
symbol_characters symbol.Close = refl
symbol_characters symbol.OpenBracket = refl
symbol_characters symbol.CloseBracket = refl
symbol_characters symbol.OpenBrace = refl
symbol_characters symbol.CloseBrace = refl
symbol_characters symbol.Or = refl
symbol_characters symbol.And = refl
symbol_characters symbol.Same = refl
symbol_characters symbol.Differs = refl
symbol_characters symbol.AtMost = refl
symbol_characters symbol.AtLeast = refl
symbol_characters symbol.Below = refl
symbol_characters symbol.Above = refl
symbol_characters symbol.Plus = refl
symbol_characters symbol.Minus = refl
symbol_characters symbol.Times = refl
symbol_characters symbol.Divide = refl
symbol_characters symbol.Remainder = refl
symbol_characters symbol.Not = refl

pub character_within : (c : ℕ) → symbol_character c ≡ true → is_within_line c ≡ true
character_within c h = ap not (no_such symbol_character 10 refl c h)

all_within : (cs : List ℕ) → list_all symbol_character cs ≡ true → list_all is_within_line cs ≡ true
all_within [] h = refl
all_within (c ∷ cs) h = let parts = and_parts (symbol_character c) (list_all symbol_character cs) h in both_true (character_within c parts.0) (all_within cs parts.1)

pub spelled_within : (s : Symbol) → list_all is_within_line (symbol_spelling s) ≡ true
spelled_within s = all_within (symbol_spelling s) (symbol_characters s)

-- no second character is NUL
pub no_nul : (s : Symbol) (c : ℕ) → symbol_spelling s ≡ c ∷ 0 ∷ [] → ⊥
no_nul s c is = let passes = sym (symbol_characters s) ∙ ap (list_all symbol_character) is in let second = and_parts (symbol_character c) false (sym passes) in cc (second.1)

pub at_most_two : (s : Symbol) → length (symbol_spelling s) ≤ 2
at_most_two s = elim (shape s) [
  | double is found ↦ let size = ap length is in omega (arith, size)
  | single is found ↦ let size = ap length is in omega (arith, size)
]

-- where two characters spell no symbol, none of two characters is spelled
pub no_pair : (c : ℕ) (cs : List ℕ) → pair_of c (next_of cs) ≡ None → (k l : ℕ) (more : List ℕ) (s : Symbol) → c ∷ cs ≡ k ∷ l ∷ more → pair_of k l ≡ Some s → ⊥
no_pair c cs none k l more s is found =
    let first : c ≡ k = cc in
    let after : cs ≡ l ∷ more = cc in
    let same : pair_of c (next_of cs) ≡ pair_of k l = λ i. pair_of (first i) (next_of (after i)) in
    let clash = sym none ∙ same ∙ found in cc

pub no_single : (c : ℕ) (cs : List ℕ) → single_of c ≡ None → (k : ℕ) (more : List ℕ) (s : Symbol) → c ∷ cs ≡ k ∷ more → single_of k ≡ Some s → ⊥
no_single c cs none k more s is found =
    let first : c ≡ k = cc in
    let clash = sym none ∙ ap single_of first ∙ found in cc
