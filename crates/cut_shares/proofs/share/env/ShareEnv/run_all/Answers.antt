use Rattle.std.proofs.Common.{◌≡◌, ◌<◌, ℕ, suc, List, [], ◌∷◌, length, get_or, refl, arith}
use Rattle.cut_shares.specs.declared.share.piece_task.PieceTask.{PieceTask}
use Rattle.cut_shares.specs.share.inside.Tasks.{pieces_of}
use Rattle.cut_shares.proofs.share.env.ShareEnv.run_all.Goals as goal

-- tasks whose pieces are the same at each place
same_pieces : (xs ys : List PieceTask) → length ys ≡ length xs
    → ((i : ℕ) (d : PieceTask) → i < length xs → (get_or ys i d).piece ≡ (get_or xs i d).piece)
    → pieces_of ys ≡ pieces_of xs
same_pieces [] [] long same = refl
same_pieces [] (y ∷ ys) long same = absurd (omega (arith, long))
same_pieces (x ∷ xs) [] long same = absurd (omega (arith, long))
same_pieces (x ∷ xs) (y ∷ ys) long same =
    let rest = same_pieces xs ys (omega (arith, long)) (λ i d low. same (suc i) d (omega arith)) in
    let first : y.piece ≡ x.piece = same 0 x (omega arith) in
    cc

pub returns-clause-pieces : goal.returns-clause-pieces
returns-clause-pieces g c =
    grind (arith, same_pieces)
