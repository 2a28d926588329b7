-- Ascending members and the targets among them, by counts.
use Rattle.std.proofs.Common.{◌≡◌, ℕ, ◌+◌, false, List, Option, Some, None, option_map, length, nat_lt}
use Rattle.std.proofs.Common.{arith}
use Rattle.cut_outcome.proofs.Words.{IfSome, count_by, EdgeSet, Layout}
use Rattle.cut_outcome.proofs.Words.{stable_members, Rule, proposal_of, Proposal, Assignment, is_target}
use Rattle.cut_outcome.proofs.Words.{targets_of, lacks_target, has_other, judged, AreAscending}
use Rattle.std.specs.Borrow.{Bor}
use Rattle.std.proofs.lemmas.List.Elements.{filter_passes}
use Rattle.std.proofs.lemmas.List.Sums.{length-filter}
use Rattle.cut_lists.proofs.Ascending.{filter-again}
use Rattle.cut_lists.proofs.Counts.{list_any-count_by}
use Rattle.cut_lists.proofs.Parts.{count_parts, count_rest}
use Rattle.cut_lists.proofs.Ranks.{count_by_all}

not_all : (a b n : ℕ) → a + b ≡ n → nat_lt 0 b ≡ nat_lt a n
not_all a b n is = grind arith

-- a target is missed where fewer members are targets than there are targets
pub lacks_target-count : (a : Assignment) (members : List ℕ) → AreAscending a members
    → lacks_target a members ≡ nat_lt (count_by (λ p. is_target a p) members) (length (targets_of a))
lacks_target-count a members ascending =
    grind (arith, count_parts, list_any-count_by, length-filter)

-- a member is no target where fewer members are targets than there are members
pub has_other-count : (a : Assignment) (members : List ℕ)
    → has_other a members ≡ nat_lt (count_by (λ p. is_target a p) members) (length members)
has_other-count a members =
    grind (arith, list_any-count_by, not_all, count_rest)

-- a proposal of exactly the targets is no conflict and has none besides
pub exact_is_right : (a : Assignment) (p : Proposal) → p.members ≡ targets_of a
    → record { silent = false; conflict = false; extra = false } ≡ judged a (Some p)
exact_is_right a p is =
    grind (arith, count_by_all, filter_passes, lacks_target-count, filter-again, has_other-count)

-- the members of a proposal are processes, ascending
pub proposed_ascend : (a : Assignment) (r : Layout) (rule : Rule) (E : ℕ → EdgeSet) (count : ℕ)
    → length a.roles ≡ r.nodes
    → (o : Option (Bor (List ℕ)))
    → option_map (λ (m : Bor (List ℕ)). m.now) o ≡ option_map (λ (p : Proposal). p.members)
    (proposal_of r rule E count)
    → IfSome o (λ m. AreAscending a m.now)
unfolding stable_members
proposed_ascend a r rule E count nodes None is = tt
proposed_ascend a r rule E count nodes (Some m) is =
    grind (arith, filter-again)
