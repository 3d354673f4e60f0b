-- A source has tokens or a fault.
use Rattle.std.proofs.Common.{◌≡◌, ◌⊎◌, ℕ, zero, suc, ◌≤◌, List, [], ◌∷◌, ◌++◌, length, refl, ap, arith, inl, inr, length-append, Result, Ok, Err}
use Rattle.tsl_value.specs.declared.place.Place.{Place}
use Rattle.spec_lexer.specs.declared.fault.LexFault.{LexFault}
use Rattle.spec_lexer.specs.declared.fault.LexFault.TheVariants.{SpecTooLong, BadUtf8}
use Rattle.spec_lexer.specs.declared.piece.Piece.{Piece}
use Rattle.spec_lexer.specs.declared.piece.Piece.TheVariants.{Blank, LineEnd, Made}
use Rattle.spec_lexer.specs.declared.token.TokenKind.{TokenKind}
use Rattle.spec_lexer.specs.declared.token.Token.{Token}
use Rattle.spec_lexer.specs.Found.{found}
use Rattle.spec_lexer.specs.Pieces.{place_after, IsSkipped, line_end, Makes}
use Rattle.spec_lexer.specs.Source.{Lexes, end, skip, token, Fails, here, past_skip, past_token, start, IsText, HasTokens, lexed, HasFault, too_long, fails}
use Rattle.spec_lexer.specs.inner.Laws.{SomeAnswer}
use Rattle.spec_lexer.specs.Tokens.{Spelled}
use Rattle.std.proofs.lemmas.Bool.{cases_lt}
use Rattle.spec_lexer.proofs.Sound.{Stands, sound}
use Rattle.spec_lexer.proofs.Utf8.{text_or_front, no_text}
use Rattle.spec_lexer.specs.declared.limits.TheConstants.{MOST_SOURCE_BYTES}

abbrev Answer : Place → ℕ → List ℕ → Type 0
Answer at last cs = ((tokens : List Token) × Lexes at last cs tokens) ⊎ ((fault : LexFault) × Fails at cs fault)

past : (at : Place) (last : ℕ) (all front rest : List ℕ) → all ≡ front ++ rest → IsSkipped front rest → Answer (place_after at front) last rest → Answer at last all
past at last all front rest is s (inl l) = inl (l.0, skip is s l.1)
past at last all front rest is s (inr f) = inr (f.0, past_skip is s f.1)

after : (at : Place) (last : ℕ) (all front rest : List ℕ) (k : TokenKind) → all ≡ front ++ rest → Makes front rest k → Answer (place_after at front) at.line rest → Answer at last all
after at last all front rest k is m (inl l) = inl (_, token is m l.1)
after at last all front rest k is m (inr f) = inr (f.0, past_token is m f.1)

shorter : (cs more rest : List ℕ) (n : ℕ) → cs ≡ more ++ rest → length cs ≤ n → length rest ≤ n
shorter cs more rest n is h = let size = ap length is in omega (arith, size, length-append more rest)

step : (n : ℕ) (at : Place) (last c : ℕ) (cs : List ℕ) → length cs ≤ n → ((at : Place) (last : ℕ) (rest : List ℕ) → length rest ≤ n → Answer at last rest) → (r : Result Piece LexFault) → Stands at c cs r → Answer at last (c ∷ cs)
step n at last c cs h others (Ok (Blank m)) f = past at last (c ∷ cs) (c ∷ f.more) f.rest (ap (λ l. c ∷ l) f.whole) f.holds (others _ last f.rest (shorter cs f.more f.rest n f.whole h))
step n at last c cs h others (Ok LineEnd) is = past at last (c ∷ cs) (10 ∷ []) cs (ap (λ c. c ∷ cs) is) line_end (others _ last cs h)
step n at last c cs h others (Ok (Made k m)) f = after at last (c ∷ cs) (c ∷ f.more) f.rest k (ap (λ l. c ∷ l) f.whole) f.holds (others _ at.line f.rest (shorter cs f.more f.rest n f.whole h))
step n at last c cs h others (Err e) f = inr (e, here f.2 f.3)

answers : (n : ℕ) (at : Place) (last : ℕ) (cs : List ℕ) → length cs ≤ n → Answer at last cs
answers n at last [] h = inl ([], end)
answers zero at last (c ∷ cs) h = absurd (omega arith)
answers (suc n) at last (c ∷ cs) h = step n at last c cs (omega arith) (answers n) (found at c cs) (sound at c cs)

-- a text of at most so many bytes
text_answers : (bytes characters : List ℕ) → length bytes ≤ MOST_SOURCE_BYTES → IsText characters bytes → Answer start 0 characters → ((spelled : Spelled) × HasTokens bytes spelled) ⊎ ((fault : LexFault) × HasFault bytes fault)
text_answers bytes characters short text (inl l) = inl (record { tokens = l.0; end = place_after start characters }, lexed short text l.1 refl)
text_answers bytes characters short text (inr f) = inr (f.0, fails short text f.1)

pub some_answer : SomeAnswer
some_answer bytes = elim (cases_lt MOST_SOURCE_BYTES (length bytes)) [
  | inl long ↦ inr (SpecTooLong start, too_long long)
  | inr short ↦ elim (text_or_front bytes) [
    | inl text ↦ text_answers bytes text.0 short (record { scalars = text.1.0; encoded = text.1.1 }) (answers (length text.0) start 0 text.0 (omega arith))
    | inr valid ↦
        let front = valid.1.front in
        inr (BadUtf8 (place_after start front.0), no_text bytes front.0 valid.0 short (record { scalars = front.1.0; encoded = front.1.1 }) valid.1)
  ]
]
