use Rattle.std.proofs.Common.{◌≡◌, ◌∙◌, ◌++◌, ◌∷◌, [], ◌+◌, ℕ, List, map, ap, sym, arith}
use Rattle.std.specs.List.{range_with_len}
use Rattle.std.proofs.lemmas.List.FromFn.{map-range_with_len_more}
use Rattle.cut_draws.specs.Source.{key_at}
use Rattle.cut_draws.specs.ProcessOrder.{process_place}
use Rattle.cut_draws.proofs.draws.Draws.process_keys.Goals as goal

keys_more : (f : ℕ → ℕ) (n key : ℕ) (before after : List (ℕ × ℕ)) → after ≡ before ++ (key, n) ∷ [] → key ≡ f n → before
    ≡ map (λ p. (f p, p)) (range_with_len 0 n) → after ≡ map (λ p. (f p, p)) (range_with_len 0 (n + 1))
keys_more f n key before after pushed value keys =
    pushed
    ∙ ap (λ xs. xs ++ (key, n) ∷ []) keys
    ∙ ap (λ x. map (λ p. (f p, p)) (range_with_len 0 n) ++ (x, n) ∷ []) value
    ∙ sym (map-range_with_len_more (λ p. (f p, p)) 0 n n (omega arith))

pub loop-process-preserved : goal.loop-process-preserved
loop-process-preserved c =
    let process = c.loop-process.process in
    record {
      same = c.process_key-key.ensures.same ∙ c.loop-process.invariant.same;
      keys =
          keys_more (λ p. key_at c.args.self.now (process_place p)) process c.process_key-key.result c.loop-process.keyed.items
          c.push.new.self.items
          c.in_ok-push.ensures.items
          (c.process_key-key.ensures.value ∙ ap (λ d. key_at d (process_place process)) c.loop-process.invariant.same)
          c.loop-process.invariant.keys;
    }
