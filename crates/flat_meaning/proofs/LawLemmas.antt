-- A specification has one flat system at most.
use Rattle.std.proofs.Common.{◌≡◌, ℕ, ◌+◌, List, ◌++◌, length, ap, sym, subst, ◌∙◌, arith}
use Rattle.std.specs.Prelude.{slice_get}
use Rattle.std.specs.List.{Contains}
use Rattle.flat_core.specs.declared.equation.Equation.{Equation}
use Rattle.flat_core.specs.declared.equation.Output.{Output}
use Rattle.flat_core.specs.Needed.{IsReached}
use Rattle.flat_core.proofs.Members.{in-Contains, Contains-in}
use Rattle.stream_constructs.specs.declared.construct.Stream.{Stream}
use Rattle.flat_meaning.proofs.Rising.{rising, same_rising}
use Rattle.flat_meaning.proofs.Scopes.{IsInputItem, IsStreamItem}
use Rattle.flat_meaning.specs.inner.OneFlat.{OneFlat, OneSystem}
use Rattle.flat_meaning.proofs.Once.{Agree}
use Rattle.flat_meaning.proofs.MakesOnce.{pinned}
use Rattle.flat_meaning.proofs.ItemsOnce.{inputs_once, streams_pinned, streams_once, outputs_once}

-- from the first item on
from_first : (IsItem : ℕ → Type 0) (P : ℕ → Type 0) → ((k : ℕ) → IsItem k → P (0 + k)) → (i : ℕ) → IsItem i → P i
from_first IsItem P each i is = let e : 0 + i ≡ i = omega arith in subst P e (each i is)

pub one_flat : OneFlat
one_flat items a b xs ys os ps same f g =
    let IsInputAt : ℕ → Type 0 = λ i. IsInputItem (slice_get items i) in
    let IsStreamAt : ℕ → Type 0 = λ i. IsStreamItem (slice_get items i) in
    let inputs = inputs_once items a b same f.top g.top f.makes_inputs g.makes_inputs in
    let input_same = from_first IsInputAt (λ i. f.top i ≡ g.top i) inputs.agreed in
    let first_pinned = from_first IsStreamAt (λ i. a.item i ≡ _) (streams_pinned items a f.top f.makes_streams).each in
    let second_pinned = from_first IsStreamAt (λ i. b.item i ≡ _) (streams_pinned items b g.top g.makes_streams).each in
    let tops : Agree items (λ v w. v.of ≡ w.of) f.top g.top = record {
      inputs = λ i is. ap (λ (v : Stream). v.of) (input_same i is);
      streams = λ i is. pinned (a.item i) (b.item i) (f.top i) (g.top i) (same.items_same i) (first_pinned i is) (second_pinned i is);
    } in
    let streams = streams_once items a b same f.top g.top tops (ap length inputs.made) f.makes_streams g.makes_streams in
    let exact : Agree items (λ v w. v ≡ w) f.top g.top = record { inputs = input_same; streams = from_first IsStreamAt (λ i. f.top i ≡ g.top i) streams.agreed } in
    let streams_same = streams.whole exact in
    let outputs = outputs_once items a b same f.top g.top tops exact (λ k. length (inputs.made k) + length (streams_same k)) f.makes_outputs g.makes_outputs in
    (f.equations_are ∙ (λ k. inputs.made k ++ streams_same k ++ outputs.0 k) ∙ sym g.equations_are, outputs.1)

reached_same : {xs ys : List Equation} {os ps : List Output} (i : ℕ) → xs ≡ ys → os ≡ ps → IsReached xs os i → IsReached ys ps i
reached_same {xs} {ys} {os} i equations outputs reached = subst (λ qs. IsReached ys qs i) outputs (subst (λ es. IsReached es os i) equations reached)

pub one_system : OneSystem
one_system items a b s u same f g s_flat u_flat s_needed u_needed =
    let once = one_flat items a b s.equations u.equations s.outputs u.outputs same f g in
    let to : (t : ℕ) → Contains s.running t → Contains u.running t =
    λ t c. Contains-in u.running t ((u_needed.each t).1 (reached_same t once.0 once.1 ((s_needed.each t).0 (in-Contains s.running t c)))) in
    let back : (t : ℕ) → Contains u.running t → Contains s.running t =
    λ t c. Contains-in s.running t ((s_needed.each t).1 (reached_same t (sym once.0) (sym once.1) ((u_needed.each t).0 (in-Contains u.running t c)))) in
    let running = same_rising 0 0 s.running u.running (rising s.running s_flat.ascending) (rising u.running u_flat.ascending) to back in
    λ k. record { equations = once.0 k; outputs = once.1 k; running = running k }
