-- Marks of which each token is printable are lexed again: their text has just these tokens.
use Rattle.std.proofs.Common.{◌≡◌, ℕ, ◌+◌, ◌≤◌, true, List, [], ◌∷◌, ◌++◌, refl, sym, ap, subst, ◌∙◌, arith, append_assoc}
use Rattle.std.specs.Prelude.{nat_lt, encode_utf8_all}
use Rattle.std.specs.Cmp.Derive.{both_true}
use Rattle.std.specs.Str.{all_scalars}
use Rattle.std.proofs.lemmas.Bool.{lt-ltb, le-ltb, and_parts}
use Rattle.std.proofs.lemmas.Str.{encode_ascii, encodes-append}
use Rattle.tsl_value.specs.declared.place.Place.{Place}
use Rattle.spec_lexer.specs.declared.token.Token.{Token}
use Rattle.spec_lexer.specs.declared.token.TokenKind.{TokenKind}
use Rattle.spec_lexer.specs.Pieces.{place_after, blank, line_end as lf}
use Rattle.spec_lexer.specs.Source.{Lexes, end, skip, token as one_token}
use Rattle.spec_lexer.proofs.Places.{place_after-within}
use Rattle.spec_printer.specs.inner.Marks.{Mark, token, line_end, kind_text, text_of}
use Rattle.spec_printer.specs.inner.Follow.{Follow, nothing, next_line, next_token}
use Rattle.spec_printer.proofs.Printable.{Printable, made_printable, scalars-append}

abbrev pub ArePrintable : List Mark → Type 0
ArePrintable [] = Unit {0}
ArePrintable (line_end ∷ ms) = ArePrintable ms
ArePrintable (token k ∷ ms) = Printable k × ArePrintable ms

pub printable-append : (ms ns : List Mark) → ArePrintable ms → ArePrintable ns → ArePrintable (ms ++ ns)
printable-append [] ns h k = k
printable-append (line_end ∷ ms) ns h k = printable-append ms ns h k
printable-append (token kind ∷ ms) ns h k = (h.0, printable-append ms ns h.1 k)

pub record Lexed (at : Place) (last : ℕ) (ms : List Mark) : Type 0 where
  pub characters : List ℕ
  pub scalars : all_scalars characters ≡ true
  pub encoded : encode_utf8_all characters ≡ text_of ms
  pub tokens : List Token
  pub lexes : Lexes at last characters tokens
  pub follow : Follow (nat_lt last at.line) ms tokens

line_more : (at : Place) (last : ℕ) (ms : List Mark) → last ≤ at.line → Lexed (record { line = at.line + 1; column = 1 }) last ms → Lexed at last (line_end ∷ ms)
line_more at last ms h l = record {
  characters = 10 ∷ l.characters;
  scalars = both_true {s = true} refl l.scalars;
  encoded = ap (λ e. e ++ encode_utf8_all l.characters) (encode_ascii 10 (omega arith)) ∙ ap (λ b. 10 ∷ b) l.encoded;
  tokens = l.tokens;
  lexes = skip {front = 10 ∷ []} {rest = l.characters} refl lf l.lexes;
  follow = next_line (subst (λ b. Follow b ms l.tokens) (lt-ltb last (at.line + 1) (omega arith)) l.follow);
}

token_more : (at : Place) (last : ℕ) (k : TokenKind) (ms : List Mark) (p : Printable k) → Lexed (place_after (place_after at p.characters) (32 ∷ [])) at.line ms → Lexed at last (token k ∷ ms)
token_more at last k ms p l =
    let stays : (place_after at p.characters).line ≡ at.line = ap (λ (q : Place). q.line) (place_after-within at p.characters p.within) in
    record {
      characters = p.characters ++ 32 ∷ l.characters;
      scalars = scalars-append p.characters (32 ∷ l.characters) p.scalars (both_true {s = true} refl l.scalars);
      encoded =
          encodes-append p.characters (32 ∷ l.characters)
          ∙ (λ i. p.encoded i ++ (encode_ascii 32 (omega arith) i ++ l.encoded i))
          ∙ sym (append_assoc (kind_text k) (32 ∷ []) (text_of ms));
      tokens = record { kind = k; place = at; first = nat_lt last at.line } ∷ l.tokens;
      lexes = one_token {front = p.characters} {rest = 32 ∷ l.characters} refl (p.makes l.characters) (skip {front = 32 ∷ []} {rest = l.characters} refl (blank refl) l.lexes);
      follow = next_token refl refl (subst (λ b. Follow b ms l.tokens) (le-ltb at.line (place_after at p.characters).line (omega (arith, stays))) l.follow);
    }

pub marks_lexed : (ms : List Mark) (at : Place) (last : ℕ) → last ≤ at.line → ArePrintable ms → Lexed at last ms
marks_lexed [] at last h a = record { characters = []; scalars = refl; encoded = refl; tokens = []; lexes = end; follow = nothing }
marks_lexed (line_end ∷ ms) at last h a = line_more at last ms h (marks_lexed ms (record { line = at.line + 1; column = 1 }) last (omega arith) a)
marks_lexed (token k ∷ ms) at last h a =
    let stays : (place_after at a.0.characters).line ≡ at.line = ap (λ (q : Place). q.line) (place_after-within at a.0.characters a.0.within) in
    token_more at last k ms a.0 (marks_lexed ms (place_after (place_after at a.0.characters) (32 ∷ [])) at.line (omega (arith, stays)) a.1)

-- ---- the tokens of a source are printable
abbrev pub TokensPrintable : List Token → Type 0
TokensPrintable [] = Unit {0}
TokensPrintable (t ∷ ts) = Printable t.kind × TokensPrintable ts

scalars_front : (a b : List ℕ) → all_scalars (a ++ b) ≡ true → (all_scalars a ≡ true) × (all_scalars b ≡ true)
scalars_front [] b h = (refl, h)
scalars_front (c ∷ cs) b h =
    let parts = and_parts _ (all_scalars (cs ++ b)) h in
    let others = scalars_front cs b parts.1 in
    (both_true parts.0 others.0, others.1)

pub lexed_printable : {at : Place} {last : ℕ} {all : List ℕ} {tokens : List Token} → Lexes at last all tokens → all_scalars all ≡ true → TokensPrintable tokens
lexed_printable end h = tt
lexed_printable (skip {front = front} {rest = rest} is s l) h = lexed_printable l (scalars_front front rest (sym (ap all_scalars is) ∙ h)).1
lexed_printable (one_token {front = front} {rest = rest} is m l) h =
    let parts = scalars_front front rest (sym (ap all_scalars is) ∙ h) in
    (made_printable m parts.0, lexed_printable l parts.1)
