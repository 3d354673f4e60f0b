-- Readers of tokens.
use Rattle.std.specs.Prelude.{◌≡◌, ℕ, zero, suc, ◌+◌, ◌==◌, Bool, true, false, List, [], ◌∷◌, length, Option, Some, None}

-- why a reader stops: at the first token that is left, or at the token before it, which opens a level too deep
pub data Refusal : Type 0 where
  Unexpected : Refusal
  TooDeep : Refusal

-- what a reader makes of tokens, and the tokens that it leaves
pub data Outcome (T A : Type 0) : Type 0 where
  Read : A → List T → Outcome T A
  Stopped : Refusal → List T → Outcome T A

abbrev pub Reader : Type 0 → Type 0 → Type 0
Reader T A = List T → Outcome T A

abbrev pub give : {T A : Type 0} → A → Reader T A
give a ts = Read a ts

abbrev pub refuse : {T A : Type 0} → Refusal → Reader T A
refuse r ts = Stopped r ts

abbrev pub and_then : {T A B : Type 0} → Outcome T A → (A → Reader T B) → Outcome T B
and_then (Read a rest) f = f a rest
and_then (Stopped r rest) f = Stopped r rest

-- one reader and then another
infixl 10 ◌>>=◌
abbrev pub ◌>>=◌ : {T A B : Type 0} → Reader T A → (A → Reader T B) → Reader T B
(p >>= f) ts = and_then (p ts) f

-- what is done at a token: it is passed, or it does not fit
abbrev pub Turn : Type 0 → Type 0 → Type 0
Turn T A = T → Option (Reader T A)

abbrev pub when : {T A : Type 0} → Bool → Reader T A → Option (Reader T A)
when true p = Some p
when false p = None

abbrev pub taken : {T A : Type 0} → Option (Reader T A) → T → Reader T A
taken (Some p) t ts = p ts
taken None t ts = Stopped Unexpected (t ∷ ts)

-- a token that has to come
abbrev pub take_by : {T A : Type 0} → Turn T A → Reader T A
take_by f [] = Stopped Unexpected []
take_by f (t ∷ ts) = taken (f t) t ts

abbrev pub expect : {T A : Type 0} → (T → Bool) → Reader T A → Reader T A
expect test p = take_by (λ t. when (test t) p)

abbrev pub tried : {T A : Type 0} → Option (Reader T A) → A → T → Reader T A
tried (Some p) a t ts = p ts
tried None a t ts = Read a (t ∷ ts)

-- a token that may come
abbrev pub if_next : {T A : Type 0} → Turn T A → A → Reader T A
if_next f a [] = Read a []
if_next f a (t ∷ ts) = tried (f t) a t ts

abbrev pub chosen : {T A : Type 0} → Option (Reader T A) → Reader T A → T → Reader T A
chosen (Some p) q t ts = p ts
chosen None q t ts = q (t ∷ ts)

-- a token that may come in place of something else
abbrev pub or_else : {T A : Type 0} → Turn T A → Reader T A → Reader T A
or_else f q [] = q []
or_else f q (t ∷ ts) = chosen (f t) q t ts

-- a token that may come where a value is given, and has to come where none is
abbrev pub or_given : {T A : Type 0} → Turn T A → Option A → Reader T A
or_given f (Some a) = if_next f a
or_given f None = take_by f

-- a reader, and whether it passed one token alone
abbrev pub noted : {T A : Type 0} → ℕ → Outcome T A → Outcome T (A × Bool)
noted n (Read a rest) = Read (a, n == 1 + length rest) rest
noted n (Stopped r rest) = Stopped r rest

abbrev pub alone : {T A : Type 0} → Reader T A → Reader T (A × Bool)
alone p ts = noted (length ts) (p ts)

-- what a token opens, where a level more may be open
abbrev pub opened : {T A : Type 0} → ℕ → Reader T A → Reader T A
opened zero p = refuse TooDeep
opened (suc room) p = p

-- items as long as one begins: each turn passes the first token of one
pub record Lister (T A L : Type 0) : Type 0 where
  pub turn : Turn T A
  pub none : L
  pub more : A → L → L

abbrev pub looped : {T A L : Type 0} → Lister T A L → Reader T L → Option (Reader T A) → T → Reader T L
looped l others (Some p) t ts = and_then (p ts) (λ a. others >>= λ rest. give (l.more a rest))
looped l others None t ts = Read l.none (t ∷ ts)

unfoldable pub loop : {T A L : Type 0} → Lister T A L → ℕ → Reader T L
loop l zero ts = Read l.none ts
loop l (suc n) [] = Read l.none []
loop l (suc n) (t ∷ ts) = looped l (loop l n) (l.turn t) t ts

unfoldable pub many : {T A L : Type 0} → Lister T A L → Reader T L
many l ts = loop l (length ts) ts

abbrev pub head : {T : Type 0} → List T → Option T
head [] = None
head (t ∷ ts) = Some t

abbrev pub rest_of : {T A : Type 0} → Outcome T A → List T
rest_of (Read a rest) = rest
rest_of (Stopped r rest) = rest

abbrev pub with_rest : {T A : Type 0} → List T → Outcome T A → Outcome T A
with_rest more (Read a rest) = Read a more
with_rest more (Stopped r rest) = Stopped r more

-- tokens at which each construct ends; those that may open a level; those that tell, after one that may, that it opens none;
-- whether a token opens a level before others; and that none tells so of those at which constructs end
pub record Signs (T : Type 0) : Type 0 where
  pub ends : T → Bool
  pub opens : T → Bool
  pub calms : T → Bool
  pub bars : T → List T → Bool
  pub quiet : (t : T) → ends t ≡ true → calms t ≡ false

-- with the list that was read changed
abbrev pub with_list : {T L : Type 0} → (L → L) → Outcome T L → Outcome T L
with_list f (Read l rest) = Read (f l) rest
with_list f (Stopped r rest) = Stopped r rest
