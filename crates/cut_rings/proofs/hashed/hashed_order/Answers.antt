use Rattle.std.specs.Cmp.Lexicographic.{slice_cmp, nat_list_cmp_total}
use Rattle.std.specs.Ordering.{nat_cmp}
use Rattle.std.proofs.Common.{map, List, ℕ, ap, sym, subst, ◌∙◌}
use Rattle.cut_rings.specs.Hashed.{compare_hashed, digest_of}
use Rattle.std.proofs.lemmas.Result.{IfOk-weaker}
use Rattle.cut_lists.specs.Ranked.{IsRanked}
use Rattle.cut_lists.proofs.Keyed.{ranked, compare_by}
use Rattle.cut_rings.proofs.hashed.hashed_order.Goals as goal

pub returns : goal.returns
returns c =
    let items = c.sort_unstable.new.self.items in
    let moved = rw c.in_ok-digests.ensures at c.sort_unstable.ensures.permutation in
    let order : IsRanked (compare_by (slice_cmp nat_cmp) (digest_of c.args.seed.now c.args.ring)) c.args.nodes
    (map (λ x. x.1) items)
    = ranked (slice_cmp nat_cmp) nat_list_cmp_total (digest_of c.args.seed.now c.args.ring) c.args.nodes items moved
    c.sort_unstable.ensures.sorted
    in
    let P : List ℕ → Type 0 = λ xs. IsRanked (compare_hashed c.args.seed.now c.args.ring) c.args.nodes xs in
    IfOk-weaker c.processes.result _ _ (λ v same. subst P (sym (same ∙ ap (map (λ x. x.1)) c.as_slice.ensures.value))
    order) c.processes.ensures
