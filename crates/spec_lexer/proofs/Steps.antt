-- One piece that is found, and then the rest.
use Rattle.std.proofs.Common.{◌≡◌, ℕ, ◌+◌, ◌<◌, ◌≤◌, List, [], ◌∷◌, ◌++◌, length, drop, sym, ap, subst, ◌∙◌, arith, length-append, Result, Ok, Err}
use Rattle.std.specs.Prelude.{nat_lt}
use Rattle.std.proofs.Math.Seq.{drop-append_seam}
use Rattle.tsl_value.specs.declared.place.Place.{Place}
use Rattle.spec_lexer.specs.declared.token.Token.{Token}
use Rattle.spec_lexer.specs.declared.token.TokenKind.{TokenKind}
use Rattle.spec_lexer.specs.declared.fault.LexFault.{LexFault}
use Rattle.spec_lexer.specs.declared.fault.LexFault.TheVariants as fault
use Rattle.spec_lexer.specs.declared.piece.Piece.TheVariants.{Blank, LineEnd, Made}
use Rattle.spec_lexer.specs.Pieces.{place_after, IsSkipped, line_end, Makes}
use Rattle.spec_lexer.specs.Source.{Lexes, end, skip, token, Fails, here, past_skip, past_token, IsFaultAnd, IfFault}
use Rattle.spec_lexer.specs.Found.{found}
use Rattle.spec_lexer.proofs.Places.{place_after-within, place_after-append}
use Rattle.spec_lexer.proofs.Sound.{Fronts, Stands, sound}

-- the place after so many characters of one line
abbrev pub moved : Place → ℕ → Place
moved at n = record { line = at.line; column = at.column + n }

module _ (at : Place) (c : ℕ) (after rest : List ℕ) (is : rest ≡ c ∷ after) (n : ℕ) where
  module _ (P : List ℕ → List ℕ → Type 0) (f : Fronts c after n P) where
    split : rest ≡ (c ∷ f.more) ++ f.rest
    split = is ∙ ap (λ l. c ∷ l) f.whole

    left : drop n rest ≡ f.rest
    left = (λ i. drop (f.counted i) (split i)) ∙ (let one : 1 + length f.more ≡ length (c ∷ f.more) = omega arith in ap (λ k. drop k ((c ∷ f.more) ++ f.rest)) one) ∙ drop-append_seam (c ∷ f.more) f.rest

    whole : rest ≡ (c ∷ f.more) ++ drop n rest
    whole = split ∙ ap (λ l. (c ∷ f.more) ++ l) (sym left)

    holds : P (c ∷ f.more) (drop n rest)
    holds = subst (P (c ∷ f.more)) (sym left) f.holds

    there : place_after at (c ∷ f.more) ≡ moved at n
    there = place_after-within at (c ∷ f.more) f.within ∙ (let same : at.column + length (c ∷ f.more) ≡ at.column + n = omega (arith, f.counted) in λ i. record { line = at.line; column = same i })

    fits : (0 < n) × (n ≤ length rest)
    fits = let size = ap length split ∙ length-append (c ∷ f.more) f.rest in (omega (arith, f.counted), omega (arith, f.counted, size))

    ends : place_after (moved at n) (drop n rest) ≡ place_after at rest
    ends = ap (λ p. place_after p (drop n rest)) (sym there) ∙ sym (place_after-append at (c ∷ f.more) (drop n rest)) ∙ ap (place_after at) (sym whole)

  blank_front : Ok (Blank n) ≡ found at c after → Fronts c after n IsSkipped
  blank_front h = subst (Stands at c after) (sym h) (sound at c after)

  made_front : (k : TokenKind) → Ok (Made k n) ≡ found at c after → Fronts c after n (λ front rest. Makes front rest k)
  made_front k h = subst (Stands at c after) (sym h) (sound at c after)

  pub blank_fits : Ok (Blank n) ≡ found at c after → (0 < n) × (n ≤ length rest)
  blank_fits h = fits IsSkipped (blank_front h)

  pub blank_ends : Ok (Blank n) ≡ found at c after → place_after (moved at n) (drop n rest) ≡ place_after at rest
  blank_ends h = ends IsSkipped (blank_front h)

  pub lex_blank : (last : ℕ) (tokens : List Token) → Ok (Blank n) ≡ found at c after → Lexes (moved at n) last (drop n rest) tokens → Lexes at last rest tokens
  lex_blank last tokens h l = let f = blank_front h in skip (whole IsSkipped f) (holds IsSkipped f) (subst (λ p. Lexes p last (drop n rest) tokens) (sym (there IsSkipped f)) l)

  pub fail_blank : (e : LexFault) → Ok (Blank n) ≡ found at c after → Fails (moved at n) (drop n rest) e → Fails at rest e
  fail_blank e h l = let f = blank_front h in past_skip (whole IsSkipped f) (holds IsSkipped f) (subst (λ p. Fails p (drop n rest) e) (sym (there IsSkipped f)) l)

  pub made_fits : (k : TokenKind) → Ok (Made k n) ≡ found at c after → (0 < n) × (n ≤ length rest)
  made_fits k h = fits (λ front rest. Makes front rest k) (made_front k h)

  pub made_ends : (k : TokenKind) → Ok (Made k n) ≡ found at c after → place_after (moved at n) (drop n rest) ≡ place_after at rest
  made_ends k h = ends (λ front rest. Makes front rest k) (made_front k h)

  pub lex_made : (k : TokenKind) (last : ℕ) (tokens : List Token) → Ok (Made k n) ≡ found at c after → Lexes (moved at n) at.line (drop n rest) tokens → Lexes at last rest (record { kind = k; place = at; first = nat_lt last at.line } ∷ tokens)
  lex_made k last tokens h l = let f = made_front k h in token (whole (λ front rest. Makes front rest k) f) (holds (λ front rest. Makes front rest k) f) (subst (λ p. Lexes p at.line (drop n rest) tokens) (sym (there (λ front rest. Makes front rest k) f)) l)

  pub fail_made : (k : TokenKind) (e : LexFault) → Ok (Made k n) ≡ found at c after → Fails (moved at n) (drop n rest) e → Fails at rest e
  fail_made k e h l = let f = made_front k h in past_token (whole (λ front rest. Makes front rest k) f) (holds (λ front rest. Makes front rest k) f) (subst (λ p. Fails p (drop n rest) e) (sym (there (λ front rest. Makes front rest k) f)) l)

module _ (at : Place) (c : ℕ) (after rest : List ℕ) (is : rest ≡ c ∷ after) where
  line_is : Ok LineEnd ≡ found at c after → rest ≡ (10 ∷ []) ++ after
  line_is h = is ∙ ap (λ q. q ∷ after) (subst (Stands at c after) (sym h) (sound at c after))

  pub line_ends : Ok LineEnd ≡ found at c after → place_after (record { line = at.line + 1; column = 1 }) after ≡ place_after at rest
  line_ends h = ap (place_after at) (sym (line_is h))

  pub lex_line : (last : ℕ) (tokens : List Token) → Ok LineEnd ≡ found at c after → Lexes (record { line = at.line + 1; column = 1 }) last after tokens → Lexes at last rest tokens
  lex_line last tokens h l = skip (line_is h) line_end l

  pub fail_line : (e : LexFault) → Ok LineEnd ≡ found at c after → Fails (record { line = at.line + 1; column = 1 }) after e → Fails at rest e
  fail_line e h l = past_skip (line_is h) line_end l

  pub fail_here : (e : LexFault) → Err e ≡ found at c after → Fails at rest e
  fail_here e h = let f = subst (Stands at c after) (sym h) (sound at c after) in here (is ∙ f.2) f.3

pub lex_end : (at : Place) (last : ℕ) (rest : List ℕ) → length rest ≡ 0 → Lexes at last rest []
lex_end at last [] h = end
lex_end at last (c ∷ cs) h = absurd (omega arith)

-- a fault that is handed on
pub fault_weaker : (e : LexFault) (P Q : LexFault → Type 0) → ((e : LexFault) → P e → Q e) → IsFaultAnd e P → IsFaultAnd e Q
fault_weaker (fault.SpecTooLong p) P Q f h = f (fault.SpecTooLong p) h
fault_weaker (fault.BadUtf8 p) P Q f h = f (fault.BadUtf8 p) h
fault_weaker (fault.BadCharacter p) P Q f h = f (fault.BadCharacter p) h
fault_weaker (fault.OpenText p) P Q f h = f (fault.OpenText p) h
fault_weaker (fault.BadEscape p) P Q f h = f (fault.BadEscape p) h
fault_weaker (fault.LiteralTooWide p) P Q f h = f (fault.LiteralTooWide p) h
fault_weaker (fault.TextTooLong p) P Q f h = f (fault.TextTooLong p) h
fault_weaker (fault.NameTooLong p) P Q f h = f (fault.NameTooLong p) h
fault_weaker fault.Memory P Q f h = tt

pub if_fault_weaker : {X : Type 0} (r : Result X LexFault) (P Q : LexFault → Type 0) → ((e : LexFault) → P e → Q e) → IfFault r P → IfFault r Q
if_fault_weaker (Ok x) P Q f h = tt
if_fault_weaker (Err e) P Q f h = fault_weaker e P Q f h
