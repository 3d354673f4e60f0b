-- The order of scalars is total.
use Rattle.std.specs.Cmp.{IsTotalOrder, nat_cmp_total, int_cmp_total}
use Rattle.std.specs.Cmp.Lexicographic.{nat_list_cmp_total}
use Rattle.std.proofs.lemmas.Cmp.{on_total, then_total}
use Rattle.tsl_value.specs.View.{scalar_cmp, kind_of, number_of, bytes_of}

pub scalar_cmp_total : IsTotalOrder scalar_cmp
scalar_cmp_total =
    then_total (on_total kind_of nat_cmp_total) (then_total (on_total number_of int_cmp_total) (on_total bytes_of nat_list_cmp_total))
