-- The tokens of a source, and its first fault.
use Rattle.std.specs.Prelude.{◌≡◌, ◌⊎◌, Result, Ok, Err, ◌≤◌, ◌<◌, ℕ, nat_lt, true, List, [], ◌∷◌, ◌++◌, length, encode_utf8_all}
use Rattle.std.specs.Str.{all_scalars, StartsWithNoChar}
use Rattle.tsl_value.specs.declared.place.Place.{Place}
use Rattle.spec_lexer.specs.declared.token.TokenKind.{TokenKind}
use Rattle.spec_lexer.specs.declared.token.Token.{Token}
use Rattle.spec_lexer.specs.declared.fault.LexFault.{LexFault}
use Rattle.spec_lexer.specs.declared.fault.LexFault.TheVariants.{SpecTooLong, BadUtf8, Memory}
use Rattle.spec_lexer.specs.Tokens.{Spelled}
use Rattle.spec_lexer.specs.Pieces.{place_after, IsSkipped, Makes, IsWrong}
use Rattle.spec_lexer.specs.declared.limits.TheConstants.{MOST_SOURCE_BYTES}

-- Characters have these tokens where the first stands at a place, and the last token before them in a line,
-- 0 where there is none. A token is the first of its line where the last one before it is in another.
pub data Lexes : Place → ℕ → List ℕ → List Token → Type 0 where
  end : {at : Place} {last : ℕ} → Lexes at last [] []
  skip :
      {at : Place} {last : ℕ} {all front rest : List ℕ} {tokens : List Token} →
      all ≡ front ++ rest →
      IsSkipped front rest →
      Lexes (place_after at front) last rest tokens →
      Lexes at last all tokens
  token :
      {at : Place} {last : ℕ} {all front rest : List ℕ} {kind : TokenKind} {tokens : List Token} →
      all ≡ front ++ rest →
      Makes front rest kind →
      Lexes (place_after at front) at.line rest tokens →
      Lexes at last all (record { kind = kind; place = at; first = nat_lt last at.line } ∷ tokens)

-- the first fault of characters that stand at a place
pub data Fails : Place → List ℕ → LexFault → Type 0 where
  here :
      {at : Place} {all front rest : List ℕ} {fault : LexFault} →
      all ≡ front ++ rest →
      IsWrong at front rest fault →
      Fails at all fault
  past_skip :
      {at : Place} {all front rest : List ℕ} {fault : LexFault} →
      all ≡ front ++ rest →
      IsSkipped front rest →
      Fails (place_after at front) rest fault →
      Fails at all fault
  past_token :
      {at : Place} {all front rest : List ℕ} {kind : TokenKind} {fault : LexFault} →
      all ≡ front ++ rest →
      Makes front rest kind →
      Fails (place_after at front) rest fault →
      Fails at all fault

abbrev pub start : Place
start = record { line = 1; column = 1 }

-- the bytes are the characters in UTF-8
pub record IsText (characters bytes : List ℕ) : Type 0 where
  pub scalars : all_scalars characters ≡ true
  pub encoded : encode_utf8_all characters ≡ bytes

pub data HasTokens : List ℕ → Spelled → Type 0 where
  lexed :
      {bytes characters : List ℕ} {spelled : Spelled} →
      length bytes ≤ MOST_SOURCE_BYTES →
      IsText characters bytes →
      Lexes start 0 characters spelled.tokens →
      spelled.end ≡ place_after start characters →
      HasTokens bytes spelled

pub data HasFault : List ℕ → LexFault → Type 0 where
  too_long : {bytes : List ℕ} → MOST_SOURCE_BYTES < length bytes → HasFault bytes (SpecTooLong start)
  bad_utf8 :
      {bytes characters front rest : List ℕ} →
      length bytes ≤ MOST_SOURCE_BYTES →
      bytes ≡ front ++ rest →
      IsText characters front →
      0 < length rest →
      StartsWithNoChar rest →
      HasFault bytes (BadUtf8 (place_after start characters))
  fails :
      {bytes characters : List ℕ} {fault : LexFault} →
      length bytes ≤ MOST_SOURCE_BYTES →
      IsText characters bytes →
      Fails start characters fault →
      HasFault bytes fault

-- ---- answers
-- what holds of a fault; out of memory is free
abbrev pub IsFaultAnd : LexFault → (LexFault → Type 0) → Type 0
IsFaultAnd Memory P = Unit {0}
IsFaultAnd e P = P e

abbrev pub IfFault : {X : Type 0} → Result X LexFault → (LexFault → Type 0) → Type 0
IfFault (Ok x) P = Unit {0}
IfFault (Err e) P = IsFaultAnd e P

-- the result, unless out of memory
abbrev pub IsUnlessMemory : {X : Type 0} → Result X LexFault → Result X LexFault → Type 0
IsUnlessMemory result expected = (result ≡ expected) ⊎ (result ≡ Err Memory)
