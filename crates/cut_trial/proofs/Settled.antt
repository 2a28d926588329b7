-- Once a process has proposed, what is delivered later changes nothing.
use Rattle.std.proofs.Common.{◌≡◌, ℕ, ◌+◌, List, ◌++◌, length, length-append, sym, ap, ◌∙◌, arith}
use Rattle.cut_outcome.proofs.Words.{IsSome, find, range_with_len, Edge, EdgeSet, first_of, set_of, Layout, is_settled}
use Rattle.cut_outcome.proofs.Words.{stable_members, Rule, proposal_after, Proposal}
use Rattle.std.proofs.lemmas.List.{take-append-le}
use Rattle.cut_lists.proofs.Finds.{find-longer, IsSome-from_option_map}
use Rattle.cut_lists.proofs.Ranges.{ranges-join, All-range_with_len}

pub settled_stays : (r : Layout) (rule : Rule) (heard later : List Edge)
    → IsSome (proposal_after r rule heard)
    → proposal_after r rule heard ≡ proposal_after r rule (heard ++ later)
settled_stays r rule heard later some =
    let proposed : ℕ → EdgeSet → Proposal = λ n E. record { members = stable_members r rule E; at = n } in
    let firsts : List ℕ = range_with_len 1 (length heard) in
    let same = All-range_with_len (λ n. first_of heard n ≡ first_of (heard ++ later) n) 1 (length heard)
    (λ n _ below. ap (λ edges. set_of edges) (sym (take-append-le n heard later (omega arith)))) in
    find-longer (is_settled r rule) proposed (first_of heard) (first_of (heard ++ later)) firsts
    (range_with_len (1 + length heard) (length later)) same
    (IsSome-from_option_map (λ n. proposed n (first_of heard n))
    (find (λ n. is_settled r rule (first_of heard n)) firsts) some)
    ∙ rw (ranges-join, length-append)
