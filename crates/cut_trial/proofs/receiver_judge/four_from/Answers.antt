use Rattle.std.proofs.Common.{ℕ, List, [], ◌∷◌}
use Rattle.std.specs.Prelude.{All, Contains}
use Rattle.std.proofs.lemmas.List.Elements.{All-cons, All-nil}
use Rattle.cut_trial.proofs.receiver_judge.four_from.Goals as goal

four_within : (xs : List ℕ) (a b c d : ℕ) → Contains xs a → Contains xs b → Contains xs c → Contains xs d
    → All (λ j. Contains xs j) (a ∷ b ∷ c ∷ d ∷ [])
four_within xs a b c d in_a in_b in_c in_d =
    All-cons (λ j. Contains xs j) a (b ∷ c ∷ d ∷ []) in_a (All-cons (λ j. Contains xs j) b (c ∷ d ∷ []) in_b
    (All-cons (λ j. Contains xs j) c (d ∷ []) in_c
    (All-cons (λ j. Contains xs j) d [] in_d (All-nil (λ j. Contains xs j)))))

pub returns-clause-all : goal.returns-clause-all
returns-clause-all c =
    four_within c.args.receivers.now c.receiver_at.result c.receiver_at-2.result c.receiver_at-3.result
    c.receiver_at-4.result c.receiver_at.ensures.all c.receiver_at-2.ensures.all c.receiver_at-3.ensures.all
    c.receiver_at-4.ensures.all
