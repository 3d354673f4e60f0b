use Rattle.std.proofs.Common.{map, sym, ap, ◌∙◌}
use Rattle.std.proofs.lemmas.List.{length-map}
use Rattle.std.specs.FinSet as set
use Rattle.tsl_value.specs.declared.scalar.Scalar.TheVariants as scalar
use Rattle.tsl_value.specs.inner.ScalarOrder.{scalar_cmp_total}
use Rattle.aggregate_store.specs.declared.key_tree.KeyTree.{KeyTree}
use Rattle.aggregate_store.specs.inner.Keys.{set_of}
use Rattle.aggregate_store.proofs.FiniteMaps.{len-of_keys}
use Rattle.aggregate_store.proofs.Numbers.{numbers_rise}
use Rattle.aggregate_store.proofs.key_tree.KeyTree.len.Goals as goal

pub returns-in-Numbers : goal.returns-in-Numbers
returns-in-Numbers c =
    let ns = c.in-Numbers.numbers.keys in
    c.len.ensures.len ∙ sym (length-map ns scalar.Int) ∙ sym (len-of_keys scalar_cmp_total (map scalar.Int ns) (numbers_rise ns c.len.ensures.ordered))
    ∙ sym (ap (λ (tree : KeyTree). set.len (set_of tree)) c.in-Numbers.is)

pub returns-in-Scalars : goal.returns-in-Scalars
returns-in-Scalars c =
    c.len-in-Scalars.ensures.len ∙ sym (len-of_keys scalar_cmp_total c.in-Scalars.scalars.keys c.len-in-Scalars.ensures.ordered)
    ∙ sym (ap (λ (tree : KeyTree). set.len (set_of tree)) c.in-Scalars.is)
