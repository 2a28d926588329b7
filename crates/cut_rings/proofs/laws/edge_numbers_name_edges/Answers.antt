use Rattle.std.proofs.Common.{◌+◌, ◌*◌, ◌<◌, ◌≤◌, nat_lt, arith, mul-le-mul_right}
use Rattle.std.proofs.lemmas.Bool.{and_parts, ltb-true}
use Rattle.std.proofs.lemmas.Nat.{div-mul-add}
use Rattle.cut_rings.proofs.laws.edge_numbers_name_edges.Goals as goal

pub returns-clause-few : goal.returns-clause-few
returns-clause-few c k n e within =
    let parts = and_parts (nat_lt e.ring k) _ within in
    let ring : e.ring < k = ltb-true _ _ parts.0 in
    let subject : e.subject < n = ltb-true _ _ parts.1 in
    let room : (e.subject + 1) * k ≤ n * k = mul-le-mul_right k (let w : e.subject + 1 ≤ n = omega arith in w) in
    omega (arith, room, ring)

pub returns-clause-names : goal.returns-clause-names
returns-clause-names c k e f e_in f_in same =
    grind (arith, div-mul-add f.subject k f.ring f_in)
