-- Blanks that are dropped at the front and at the end.
use Rattle.std.proofs.Common.{◌≡◌, ℕ, Bool, true, false, ◌&&◌, List, [], ◌∷◌, ◌++◌, refl, sym, ap, ◌∙◌, append_assoc}
use Rattle.std.proofs.lemmas.Bool.{and_parts, true≢false, ne_eqb}
use Rattle.std.proofs.lemmas.List.Folds.{list_all-append}
use Rattle.std.specs.Prelude.{◌==◌, if◌then◌else◌}
use Rattle.std.specs.List.{list_all}
use Rattle.trace_reader.specs.Form.{put_kept, without_end, without_front}

-- a byte that passes is no mark that doesn't
pub not_mark : (p : ℕ → Bool) (b mark : ℕ) → p b ≡ true → p mark ≡ false → (b == mark) ≡ false
not_mark p b mark passes fails = let other : b ≡ mark → ⊥ = λ same. true≢false (sym passes ∙ ap p same ∙ fails) in ne_eqb b mark other

pub all_weaker : (p q : ℕ → Bool) (bytes : List ℕ) → ((b : ℕ) → p b ≡ true → q b ≡ true) → list_all p bytes ≡ true → list_all q bytes ≡ true
all_weaker p q [] weaker all = refl
all_weaker p q (b ∷ bytes) weaker all =
    let parts = and_parts (p b) (list_all p bytes) all in
    λ k. weaker b parts.0 k && all_weaker p q bytes weaker parts.1 k

pub all_joined : (p : ℕ → Bool) (xs ys : List ℕ) → list_all p xs ≡ true → list_all p ys ≡ true → list_all p (xs ++ ys) ≡ true
all_joined p xs ys front back = list_all-append p xs ys ∙ λ k. front k && back k

-- the last of some bytes
pub record LastOf (p : ℕ → Bool) (xs : List ℕ) : Type 0 where
  pub front : List ℕ
  pub last : ℕ
  pub is : xs ≡ front ++ last ∷ []
  pub passes : p last ≡ true

pub last_of : (p : ℕ → Bool) (b : ℕ) (bytes : List ℕ) → list_all p (b ∷ bytes) ≡ true → LastOf p (b ∷ bytes)
last_of p b [] all = record { front = []; last = b; is = refl; passes = (and_parts (p b) true all).0 }
last_of p b (c ∷ bytes) all =
    let it = last_of p c bytes (and_parts (p b) (list_all p (c ∷ bytes)) all).1 in
    record { front = b ∷ it.front; last = it.last; is = ap (λ bs. b ∷ bs) it.is; passes = it.passes }

-- nothing that passes comes first
abbrev pub StopsAt : (ℕ → Bool) → List ℕ → Type 0
StopsAt p [] = Unit {0}
StopsAt p (b ∷ bytes) = p b ≡ false

-- what is dropped at the front and what stays, and the same at the end
pub record FrontTo (p : ℕ → Bool) (bytes rest : List ℕ) : Type 0 where
  pub dropped : List ℕ
  pub all : list_all p dropped ≡ true
  pub is : bytes ≡ dropped ++ rest
  pub stops : StopsAt p rest

pub record EndTo (p : ℕ → Bool) (bytes rest : List ℕ) : Type 0 where
  pub dropped : List ℕ
  pub all : list_all p dropped ≡ true
  pub is : bytes ≡ rest ++ dropped
  pub stops : (front : List ℕ) (b : ℕ) → rest ≡ front ++ b ∷ [] → p b ≡ false

head_same : (b c : ℕ) (xs ys : List ℕ) → b ∷ xs ≡ c ∷ ys → b ≡ c
head_same b c xs ys is = cc

tail_same : (b c : ℕ) (xs ys : List ℕ) → b ∷ xs ≡ c ∷ ys → xs ≡ ys
tail_same b c xs ys is = cc

nil_cons : (b : ℕ) (xs : List ℕ) → [] ≡ b ∷ xs → ⊥
nil_cons b xs is = cc

nil_push : (front : List ℕ) (b : ℕ) → [] ≡ front ++ b ∷ [] → ⊥
nil_push [] b is = nil_cons b [] is
nil_push (c ∷ front) b is = nil_cons c (front ++ b ∷ []) is

module _ (p : ℕ → Bool) where
  pub front_dropped : (b : ℕ) (bytes : List ℕ) → p b ≡ true → without_front p (b ∷ bytes) ≡ without_front p bytes
  front_dropped b bytes is = ap (λ t. if t then without_front p bytes else b ∷ bytes) is

  pub front_kept : (b : ℕ) (bytes : List ℕ) → p b ≡ false → without_front p (b ∷ bytes) ≡ b ∷ bytes
  front_kept b bytes is = ap (λ t. if t then without_front p bytes else b ∷ bytes) is

  pub front_all : (a rest : List ℕ) → list_all p a ≡ true → StopsAt p rest → without_front p (a ++ rest) ≡ rest
  front_all [] [] all stops = refl
  front_all [] (b ∷ rest) all stops = front_kept b rest stops
  front_all (c ∷ a) rest all stops = let parts = and_parts (p c) (list_all p a) all in front_dropped c (a ++ rest) parts.0 ∙ front_all a rest parts.1 stops

  front_step : (passes : Bool) (b : ℕ) (bytes : List ℕ) → p b ≡ passes → FrontTo p bytes (without_front p bytes) → FrontTo p (b ∷ bytes) (if passes then without_front p bytes else b ∷ bytes)
  front_step true b bytes is it = record { dropped = b ∷ it.dropped; all = λ k. is k && it.all k; is = ap (λ bs. b ∷ bs) it.is; stops = it.stops }
  front_step false b bytes is it = record { dropped = []; all = refl; is = refl; stops = is }

  pub front_to : (bytes : List ℕ) → FrontTo p bytes (without_front p bytes)
  front_to [] = record { dropped = []; all = refl; is = refl; stops = tt }
  front_to (b ∷ bytes) = front_step (p b) b bytes refl (front_to bytes)

  put_plain : (b : ℕ) (bytes : List ℕ) → put_kept false b bytes ≡ b ∷ bytes
  put_plain b [] = refl
  put_plain b (c ∷ bytes) = refl

  put_push : (t : Bool) (c : ℕ) (bytes : List ℕ) (b : ℕ) (rest : List ℕ) → put_kept t c (bytes ++ b ∷ rest) ≡ c ∷ bytes ++ b ∷ rest
  put_push t c [] b rest = refl
  put_push t c (d ∷ bytes) b rest = refl

  -- all up to a byte that does not pass stays
  pub end_following : (bytes : List ℕ) (b : ℕ) (rest : List ℕ) → p b ≡ false → without_end p (bytes ++ b ∷ rest) ≡ bytes ++ b ∷ without_end p rest
  end_following [] b rest is = ap (λ t. put_kept t b (without_end p rest)) is ∙ put_plain b (without_end p rest)
  end_following (c ∷ bytes) b rest is = ap (put_kept (p c) c) (end_following bytes b rest is) ∙ put_push (p c) c bytes b (without_end p rest)

  pub end_all : (bytes : List ℕ) → list_all p bytes ≡ true → without_end p bytes ≡ []
  end_all [] all = refl
  end_all (b ∷ bytes) all = let parts = and_parts (p b) (list_all p bytes) all in ap (put_kept (p b) b) (end_all bytes parts.1) ∙ ap (λ t. put_kept t b []) parts.0

  pub end_kept : (bytes : List ℕ) (b : ℕ) → p b ≡ false → without_end p (bytes ++ b ∷ []) ≡ bytes ++ b ∷ []
  end_kept bytes b is = end_following bytes b [] is

  pub end_dropped : (bytes : List ℕ) (b : ℕ) → p b ≡ true → without_end p (bytes ++ b ∷ []) ≡ without_end p bytes
  end_dropped [] b is = ap (λ t. put_kept t b []) is
  end_dropped (c ∷ bytes) b is = ap (put_kept (p c) c) (end_dropped bytes b is)

  -- what passes after a last byte that does not is dropped
  pub end_at : (xs front : List ℕ) (last : ℕ) (z : List ℕ) → xs ≡ front ++ last ∷ [] → p last ≡ false → list_all p z ≡ true → without_end p (xs ++ z) ≡ xs
  end_at xs front last z is fails all =
      ap (λ bs. without_end p (bs ++ z)) is ∙ ap (without_end p) (append_assoc front (last ∷ []) z) ∙ end_following front last z fails ∙ ap (λ bs. front ++ last ∷ bs) (end_all z all) ∙ sym is

  end_step : (passes : Bool) (b : ℕ) (bytes rest : List ℕ) → p b ≡ passes → EndTo p bytes rest → EndTo p (b ∷ bytes) (put_kept passes b rest)
  end_step true b bytes [] is it = record { dropped = b ∷ it.dropped; all = λ k. is k && it.all k; is = ap (λ bs. b ∷ bs) it.is; stops = λ front c same. absurd (nil_push front c same) }
  end_step false b bytes [] is it = record { dropped = it.dropped; all = it.all; is = ap (λ bs. b ∷ bs) it.is; stops = one }
    where
      one : (front : List ℕ) (c : ℕ) → b ∷ [] ≡ front ++ c ∷ [] → p c ≡ false
      one [] c same = ap p (sym (head_same b c [] [] same)) ∙ is
      one (d ∷ front) c same = absurd (nil_push front c (tail_same b d [] (front ++ c ∷ []) same))
  end_step passes b bytes (r ∷ rest) is it = record { dropped = it.dropped; all = it.all; is = ap (λ bs. b ∷ bs) it.is; stops = more }
    where
      more : (front : List ℕ) (c : ℕ) → b ∷ r ∷ rest ≡ front ++ c ∷ [] → p c ≡ false
      more [] c same = absurd (nil_cons r rest (sym (tail_same b c (r ∷ rest) [] same)))
      more (d ∷ front) c same = it.stops front c (tail_same b d (r ∷ rest) (front ++ c ∷ []) same)

  pub end_to : (bytes : List ℕ) → EndTo p bytes (without_end p bytes)
  end_to [] = record { dropped = []; all = refl; is = refl; stops = λ front b same. absurd (nil_push front b same) }
  end_to (b ∷ bytes) = end_step (p b) b bytes (without_end p bytes) refl (end_to bytes)
