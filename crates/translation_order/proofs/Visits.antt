-- How far the search is with nodes, and what groups keep when nodes go on.
use Rattle.std.proofs.Common.{◌≡◌, ℕ, ◌<◌, ◌≤◌, Bool, true, false, List, [], ◌∷◌, Contains, refl, sym, subst, ◌⊎◌, inl, inr, arith}
use Rattle.translation_order.specs.Graph.{Path}
use Rattle.translation_order.specs.inner.Searching.{Leads, visit_of, IsOnPath, IsDone, IsRight, IsMember, IsFollowed, IsGroup, IsPath}
use Rattle.translation_order.specs.declared.search.Visit.{Visit}
use Rattle.translation_order.specs.declared.search.Visit.TheVariants.{New, OnPath, Done}
use Rattle.translation_order.specs.declared.search.Group.{Group}

pub on_path_weaker : (P Q : ℕ → Type 0) (v : Visit) → ((k : ℕ) → P k → Q k) → IsOnPath P v → IsOnPath Q v
on_path_weaker P Q New more h = absurd h
on_path_weaker P Q (OnPath k) more h = more k h
on_path_weaker P Q (Done b) more h = absurd h

pub on_path_both : (P Q : ℕ → Type 0) (v : Visit) → ((k : ℕ) → P k → Q k → ⊥) → IsOnPath P v → IsOnPath Q v → ⊥
on_path_both P Q New never p q = p
on_path_both P Q (OnPath k) never p q = never k p q
on_path_both P Q (Done b) never p q = p

pub on_path_not_done : (P : ℕ → Type 0) (v : Visit) → IsOnPath P v → IsDone v → ⊥
on_path_not_done P New p d = p
on_path_not_done P (OnPath k) p d = d
on_path_not_done P (Done b) p d = p

pub on_path_not_new : (P : ℕ → Type 0) (v : Visit) → v ≡ New → IsOnPath P v → ⊥
on_path_not_new P v is p = subst (IsOnPath P) is p

pub on_path_is : (P : ℕ → Type 0) (v : Visit) (k : ℕ) → v ≡ OnPath k → P k → IsOnPath P v
on_path_is P v k is p = subst (IsOnPath P) (sym is) p

pub on_path_at : (P : ℕ → Type 0) (v : Visit) (k : ℕ) → v ≡ OnPath k → IsOnPath P v → P k
on_path_at P v k is p = subst (IsOnPath P) is p

pub done_is : (v : Visit) (b : Bool) → v ≡ Done b → IsDone v
done_is v b is = subst IsDone (sym is) tt

pub done_not_new : (v : Visit) → v ≡ New → IsDone v → ⊥
done_not_new v is d = subst IsDone is d

pub done_from : (v : Visit) → (v ≡ New → ⊥) → (IsOnPath (λ _. Unit {0}) v → ⊥) → IsDone v
done_from New new on = absurd (new refl)
done_from (OnPath k) new on = absurd (on tt)
done_from (Done b) new on = tt

pub right_is : (successors : List (List ℕ)) (x : ℕ) (b : Bool) → (b ≡ true → Path (Leads successors) x x) → (b ≡ false → Path (Leads successors) x x → ⊥) → IsRight successors x (Done b)
right_is successors x true cyclic apart = cyclic refl
right_is successors x false cyclic apart = apart refl

-- ---- edges that need not be followed
pub followed_not_new : (g : Group) (x : ℕ) (v : Visit) → v ≡ New → IsFollowed g x v → ⊥
followed_not_new g x v is f = subst (IsFollowed g x) is f

cyclic_cases : (b : Bool) → (b ≡ true) ⊎ (b ≡ true → ⊥)
cyclic_cases true = inl refl
cyclic_cases false = inr (λ e. absurd (cc))

pub followed_more : (g h : Group) (x : ℕ) (v : Visit) → h.first ≤ g.first → (g.cyclic ≡ true → h.cyclic ≡ true) → (Contains h.nodes x → (h.cyclic ≡ true) ⊎ Contains g.nodes x) → IsFollowed g x v → IsFollowed h x v
followed_more g h x New first cyclic nodes f = absurd f
followed_more g h x (OnPath k) first cyclic nodes f =
    let low = f.0 in (
      omega arith,
      elim (f.1) [
        | inl is ↦ inl (cyclic is)
        | inr out ↦ elim (cyclic_cases h.cyclic) [
          | inl is ↦ inl is
          | inr never ↦ inr (λ c. elim (nodes c) [ inl is ↦ never is | inr there ↦ out there ])
        ]
      ],
    )
followed_more g h x (Done b) first cyclic nodes f = tt

pub followed_cases : (g : Group) (x : ℕ) (v : Visit) → IsFollowed g x v → IsDone v ⊎ (IsOnPath (λ k. g.first ≤ k) v × ((g.cyclic ≡ true) ⊎ (Contains g.nodes x → ⊥)))
followed_cases g x New f = absurd f
followed_cases g x (OnPath k) f = inr (f.0, f.1)
followed_cases g x (Done b) f = inl tt

-- ---- what stays when other nodes go on
module _ (successors : List (List ℕ)) (visits after : List Visit) (goes_on : (h : Group) (x : ℕ) → IsFollowed h x (visit_of visits x) → IsFollowed h x (visit_of after x)) where
  group_stays : (g : Group) (before : List Group) → ((a : ℕ) → IsMember (g ∷ before) a → visit_of after a ≡ visit_of visits a) → IsGroup successors visits g before → IsGroup successors after g before
  group_stays g before same i = record {
    reached = i.reached;
    reaches = i.reaches;
    inside = i.inside;
    numbered = λ a c. subst (IsOnPath (λ k. g.first ≤ k)) (sym (same a (inl c))) (i.numbered a c);
    earlier = λ a c. subst (IsOnPath (λ k. k < g.first)) (sym (same a (inr c))) (i.earlier a c);
    on_cycle = i.on_cycle;
    followed = λ a b c e. elim (i.followed a b c e) [
      | inl target ↦ inl target
      | inr f ↦ inr (goes_on g b f)
    ];
  }

  pub path_stays : (limit : ℕ) (path : List Group) → ((a : ℕ) → IsMember path a → visit_of after a ≡ visit_of visits a) → IsPath successors visits limit path → IsPath successors after limit path
  path_stays limit [] same p = tt
  path_stays limit (g ∷ before) same p = (p.0, group_stays g before same p.1, path_stays g.first before (λ a c. same a (inr c)) p.2)

pub path_limit : (successors : List (List ℕ)) (visits : List Visit) (low high : ℕ) (path : List Group) → low ≤ high → IsPath successors visits low path → IsPath successors visits high path
path_limit successors visits low high [] le p = tt
path_limit successors visits low high (g ∷ before) le p = let first = p.0 in (omega arith, p.1, p.2)
