-- A source has one list of tokens or one fault, and not both.
use Rattle.std.proofs.Common.{◌≡◌, ℕ, ◌<◌, ◌≤◌, true, List, [], ◌∷◌, ◌++◌, length, refl, sym, ap, subst, ◌∙◌, arith, append_assoc, length-append, ◌⊎◌, inl, inr, Result, Ok, Err}
use Rattle.std.specs.Prelude.{encode_utf8, encode_utf8_all, IfOk}
use Rattle.std.specs.Char.{IsScalar}
use Rattle.std.specs.Str.{all_scalars, StartsWithNoChar}
use Rattle.std.proofs.lemmas.List.{append-nil}
use Rattle.std.proofs.lemmas.Str.{encode_same, encodes_same, length-encode, len_utf8_bounds}
use Rattle.tsl_value.specs.declared.place.Place.{Place}
use Rattle.spec_lexer.specs.declared.token.Token.{Token}
use Rattle.spec_lexer.specs.declared.token.TokenKind.{TokenKind}
use Rattle.spec_lexer.specs.declared.fault.LexFault.TheVariants as fault
use Rattle.spec_lexer.specs.declared.fault.LexFault.{LexFault}
use Rattle.spec_lexer.specs.declared.fault.LexFault.TheVariants.{BadUtf8}
use Rattle.spec_lexer.specs.Tokens.{Spelled}
use Rattle.spec_lexer.specs.Pieces.{place_after, Makes, word as a_word, name as a_name, number as a_number, text as a_text, symbol as a_symbol}
use Rattle.spec_lexer.specs.Source.{Lexes, end, skip, token, Fails, IsFaultAnd, IfFault, IsUnlessMemory, start, IsText, HasTokens, lexed, HasFault, too_long, bad_utf8, fails}
use Rattle.spec_lexer.specs.inner.Laws.{OneList, OneFault, FaultExcludesTokens}
use Rattle.spec_lexer.proofs.OneAnswer.{one_lexing, one_fault, never_both}
use Rattle.std.proofs.lemmas.Bool.{and_parts}
use Rattle.spec_lexer.proofs.Symbols.{shape, double, single}
use Rattle.spec_lexer.proofs.Utf8.{text_length}

some_bytes : (c : ℕ) (bs : List ℕ) → [] ≡ encode_utf8 c ++ bs → ⊥
some_bytes c bs is = let size = ap length is ∙ length-append (encode_utf8 c) bs in omega (arith, size, length-encode c, len_utf8_bounds c)

scalar_parts : (c : ℕ) (cs : List ℕ) → all_scalars (c ∷ cs) ≡ true → IsScalar c × (all_scalars cs ≡ true)
scalar_parts c cs h = and_parts _ _ h

-- whole characters, up to what begins with none
same_characters : (cs ds r s : List ℕ) → all_scalars cs ≡ true → all_scalars ds ≡ true → encode_utf8_all cs ++ r ≡ encode_utf8_all ds ++ s → StartsWithNoChar r → StartsWithNoChar s → cs ≡ ds
same_characters [] [] r s a b is h k = refl
same_characters [] (d ∷ ds) r s a b is h k = absurd (h d (encode_utf8_all ds ++ s) (scalar_parts d ds b).0 (is ∙ append_assoc (encode_utf8 d) (encode_utf8_all ds) s))
same_characters (c ∷ cs) [] r s a b is h k = absurd (k c (encode_utf8_all cs ++ r) (scalar_parts c cs a).0 (sym is ∙ append_assoc (encode_utf8 c) (encode_utf8_all cs) r))
same_characters (c ∷ cs) (d ∷ ds) r s a b is h k =
    let same = encode_same c d (encode_utf8_all cs ++ r) (encode_utf8_all ds ++ s) (sym (append_assoc (encode_utf8 c) (encode_utf8_all cs) r) ∙ is ∙ append_assoc (encode_utf8 d) (encode_utf8_all ds) s) in
    let others = same_characters cs ds r s (scalar_parts c cs a).1 (scalar_parts d ds b).1 same.1 h k in
    λ i. same.0 i ∷ others i

-- bytes that are no text are none
no_text_whole : (bytes cs ds front rest : List ℕ) → bytes ≡ front ++ rest → IsText cs front → 0 < length rest → StartsWithNoChar rest → IsText ds bytes → ⊥
no_text_whole bytes cs ds front rest is text some none whole =
    let same = same_characters cs ds rest [] text.scalars whole.scalars (ap (λ f. f ++ rest) text.encoded ∙ sym is ∙ sym whole.encoded ∙ sym (append-nil (encode_utf8_all ds))) none (λ c r scalar is. some_bytes c r is) in
    let size = ap length is ∙ length-append front rest in
    let bytes_size = ap length (sym whole.encoded ∙ ap encode_utf8_all (sym same) ∙ text.encoded) in
    omega (arith, some, size, bytes_size)

same_text : (bytes cs ds : List ℕ) → IsText cs bytes → IsText ds bytes → cs ≡ ds
same_text bytes cs ds a b = encodes_same cs ds (a.encoded ∙ sym b.encoded)

pub one_list : OneList
one_list bytes a b (lexed {characters = cs} short text l ends) (lexed {characters = ds} short' other k ends') =
    let same = same_text bytes cs ds text other in
    let tokens = one_lexing l (subst (λ cs. Lexes start 0 cs b.tokens) (sym same) k) in
    let places = ends ∙ ap (place_after start) same ∙ sym ends' in
    λ i. record { tokens = tokens i; end = places i }

pub one_refusal : OneFault
one_refusal bytes a b (too_long long) (too_long long') = refl
one_refusal bytes a b (too_long long) (bad_utf8 short is text some none) = absurd (omega arith)
one_refusal bytes a b (too_long long) (fails short text f) = absurd (omega arith)
one_refusal bytes a b (bad_utf8 short is text some none) (too_long long) = absurd (omega arith)
one_refusal bytes a b (fails short text f) (too_long long) = absurd (omega arith)
one_refusal bytes a b (bad_utf8 {characters = cs} {front = f} {rest = r} short is text some none) (bad_utf8 {characters = ds} {front = g} {rest = s} short' same other some' none') =
    let whole = ap (λ f. f ++ r) text.encoded ∙ sym is ∙ same ∙ sym (ap (λ f. f ++ s) other.encoded) in
    ap (λ cs. BadUtf8 (place_after start cs)) (same_characters cs ds r s text.scalars other.scalars whole none none')
one_refusal bytes a b (bad_utf8 {characters = cs} {front = f} {rest = r} short is text some none) (fails {characters = ds} short' other k) = absurd (no_text_whole bytes cs ds f r is text some none other)
one_refusal bytes a b (fails {characters = ds} short' other k) (bad_utf8 {characters = cs} {front = f} {rest = r} short is text some none) = absurd (no_text_whole bytes cs ds f r is text some none other)
one_refusal bytes a b (fails {characters = cs} short text f) (fails {characters = ds} short' other k) =
    one_fault f (subst (λ cs. Fails start cs b) (sym (same_text bytes cs ds text other)) k)

pub tokens_or_fault : FaultExcludesTokens
tokens_or_fault bytes a e (lexed short text l ends) (too_long long) = omega arith
tokens_or_fault bytes a e (lexed {characters = ds} short other l ends) (bad_utf8 {characters = cs} {front = f} {rest = r} short' is text some none) = no_text_whole bytes cs ds f r is text some none other
tokens_or_fault bytes a e (lexed {characters = cs} short text l ends) (fails {characters = ds} short' other f) = never_both l (subst (λ cs. Fails start cs e) (sym (same_text bytes cs ds text other)) f)

-- ---- no more tokens than bytes
made_length : {front rest : List ℕ} {k : TokenKind} → Makes front rest k → 0 < length front
made_length (a_word named is) = omega arith
made_length (a_name named none short) = omega arith
made_length (a_number number low) = omega arith
made_length (a_text means short) = omega arith
made_length (a_symbol {s = s} symbol) = elim (shape s) [
  | double is found ↦ let size = ap length is in omega (arith, size)
  | single is found ↦ let size = ap length is in omega (arith, size)
]

few_lexed : {at : Place} {last : ℕ} {all : List ℕ} {ts : List Token} → Lexes at last all ts → length ts ≤ length all
few_lexed end = omega arith
few_lexed (skip {front = front} {rest = rest} is s l) = let size = ap length is ∙ length-append front rest in omega (arith, size, few_lexed l)
few_lexed (token {front = front} {rest = rest} is m l) = let size = ap length is ∙ length-append front rest in omega (arith, size, made_length m, few_lexed l)

pub few_tokens : (bytes : List ℕ) (s : Spelled) → HasTokens bytes s → length s.tokens ≤ length bytes
few_tokens bytes s (lexed {characters = cs} short text l ends) = omega (arith, few_lexed l, text_length cs bytes text)

-- ---- answers
fault_or_memory : (e : LexFault) (P : LexFault → Type 0) → IsFaultAnd e P → P e ⊎ (e ≡ fault.Memory)
fault_or_memory (fault.SpecTooLong p) P h = inl h
fault_or_memory (fault.BadUtf8 p) P h = inl h
fault_or_memory (fault.BadCharacter p) P h = inl h
fault_or_memory (fault.OpenText p) P h = inl h
fault_or_memory (fault.BadEscape p) P h = inl h
fault_or_memory (fault.LiteralTooWide p) P h = inl h
fault_or_memory (fault.TextTooLong p) P h = inl h
fault_or_memory (fault.NameTooLong p) P h = inl h
fault_or_memory fault.Memory P h = inr refl

pub only_tokens : (bytes : List ℕ) (r : Result Spelled LexFault) → IfOk r (HasTokens bytes) → IfFault r (HasFault bytes) → (s : Spelled) → HasTokens bytes s → IsUnlessMemory r (Ok s)
only_tokens bytes (Ok t) ok err s h = inl (ap Ok (one_list bytes t s ok h))
only_tokens bytes (Err e) ok err s h = elim (fault_or_memory e (HasFault bytes) err) [ inl f ↦ absurd (tokens_or_fault bytes s e h f) | inr is ↦ inr (ap Err is) ]

pub only_fault : (bytes : List ℕ) (r : Result Spelled LexFault) → IfOk r (HasTokens bytes) → IfFault r (HasFault bytes) → (e : LexFault) → HasFault bytes e → IsUnlessMemory r (Err e)
only_fault bytes (Ok t) ok err e h = absurd (tokens_or_fault bytes t e ok h)
only_fault bytes (Err d) ok err e h = elim (fault_or_memory d (HasFault bytes) err) [ inl f ↦ inl (ap Err (one_refusal bytes d e f h)) | inr is ↦ inr (ap Err is) ]
