-- One part more stands at the end, until all are there.
use Rattle.std.proofs.Common.{ℕ, ◌+◌, ◌*◌, ◌++◌, ◌∷◌, [], map, ap, ◌∙◌, append_assoc, arith}
use Rattle.std.proofs.lemmas.List.FromFn.{map-range_with_len_more}
use Rattle.cut_ledger.proofs.Words.{Piece, part_of, range_with_len}
use Rattle.cut_ledger.proofs.ledger.add_parts.Goals as goal

pub loop-i-preserved : goal.loop-i-preserved
loop-i-preserved c =
    let part : ℕ → Piece = part_of c.args.size c.args.piece in
    let i : ℕ = c.loop-i.i in
    let last : ℕ → Piece = λ n. record { first = c.args.piece.first + i * c.args.size; count = n } in
    c.in_ok-push.ensures.items
    ∙ ap (λ (n : ℕ). c.loop-i.parts.items ++ last n ∷ []) c.min.ensures
    ∙ rw (c.loop-i.invariant, map-range_with_len_more part 0 i i (omega arith))
    (append_assoc c.args.parts.now.items (map part (range_with_len 0 i)) (part i ∷ []))

pub returns : goal.returns
returns c =
    grind arith
