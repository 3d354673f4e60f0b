-- Printed names.
use Rattle.std.proofs.Common.{◌≡◌, ℕ, Bool, true, false, if◌then◌else◌, List, [], ◌∷◌, ◌++◌, map, Some, None, String, sym, ap, ◌∙◌}
use Rattle.std.specs.List.{list_any}
use Rattle.std.specs.Str.{bytes_eq}
use Rattle.std.specs.String.{string_bytes, string_eq}
use Rattle.std.proofs.lemmas.List.{map-append}
use Rattle.indexmap.specs.IndexSet.{insert_key}
use Rattle.tsl_value.specs.declared.place.Place.{Place}
use Rattle.name_check.specs.Faults.{first}
use Rattle.name_check.proofs.FirstLemmas.{list_any-map}
use Rattle.form_check.specs.Outputs.{printed_again}

has_name : {A : Type 0} (n : List ℕ) (keys : List (String A)) → list_any (bytes_eq n) (map string_bytes keys) ≡ list_any (λ k. bytes_eq n (string_bytes k)) keys
has_name n keys = list_any-map (bytes_eq n) string_bytes keys

again_by : {A : Type 0} (keys : List (String A)) (p : Place) (n : List ℕ) (b c : Bool) → b ≡ list_any (λ k. bytes_eq n (string_bytes k)) keys → b ≡ c → first (printed_again (map string_bytes keys) p n) ≡ first (if c then p ∷ [] else [])
again_by keys p n b c h same = ap (λ t. first (if t then p ∷ [] else [])) (has_name n keys ∙ sym h ∙ same)

pub is_again : {A : Type 0} (keys : List (String A)) (p : Place) (n : List ℕ) (b : Bool) → b ≡ list_any (λ k. bytes_eq n (string_bytes k)) keys → b ≡ true → Some p ≡ first (printed_again (map string_bytes keys) p n)
is_again keys p n b h is = sym (again_by keys p n b true h is)

pub is_first : {A : Type 0} (keys : List (String A)) (p : Place) (n : List ℕ) (b : Bool) → b ≡ list_any (λ k. bytes_eq n (string_bytes k)) keys → b ≡ false → None ≡ first (printed_again (map string_bytes keys) p n)
is_first keys p n b h is = sym (again_by keys p n b false h is)

-- a name that is not among them goes last
pub one_more : {A : Type 0} (keys more : List (String A)) (k : String A) (n : List ℕ) (b : Bool) → string_bytes k ≡ n → b ≡ list_any (λ x. bytes_eq n (string_bytes x)) keys → b ≡ false → more ≡ insert_key string_eq keys k → map string_bytes more ≡ map string_bytes keys ++ n ∷ []
one_more keys more k n b same h is step =
    ap (λ l. map string_bytes l)
    (step ∙ ap (λ c. if c then keys else keys ++ k ∷ []) (ap (λ m. list_any (λ x. bytes_eq m (string_bytes x)) keys) same ∙ sym h ∙ is))
    ∙ map-append string_bytes keys (k ∷ [])
    ∙ ap (λ m. map string_bytes keys ++ m ∷ []) same
