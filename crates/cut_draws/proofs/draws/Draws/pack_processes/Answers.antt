use Rattle.std.proofs.Common.{◌≡◌, ◌∙◌, ◌++◌, ◌∷◌, [], ◌+◌, ℕ, List, map, ap, sym, arith}
use Rattle.std.specs.List.{range_with_len}
use Rattle.std.proofs.lemmas.List.FromFn.{map-range_with_len_more}
use Rattle.cut_draws.specs.Source.{key_at}
use Rattle.cut_draws.specs.ProcessOrder.{process_place}
use Rattle.cut_draws.specs.inside.PackedProcesses.{packed_process}
use Rattle.cut_draws.proofs.draws.Draws.pack_processes.Goals as goal

words_more : (f : ℕ → ℕ) (n word : ℕ) (before after : List ℕ) → after ≡ before ++ word ∷ [] → word ≡ f n → before
    ≡ map f (range_with_len 0 n) → after ≡ map f (range_with_len 0 (n + 1))
words_more f n word before after pushed value words =
    pushed
    ∙ ap (λ xs. xs ++ word ∷ []) words
    ∙ ap (λ x. map f (range_with_len 0 n) ++ x ∷ []) value
    ∙ sym (map-range_with_len_more f 0 n n (omega arith))

pub loop-process-preserved : goal.loop-process-preserved
loop-process-preserved c =
    let process = c.loop-process.process in
    record {
      same = c.process_key-key.ensures.same ∙ c.loop-process.invariant.same;
      keys =
          words_more (λ p. packed_process (key_at c.args.self.now (process_place p)) p) process _
          c.loop-process.packed.items c.push.new.self.items c.in_ok-push.ensures.items
          (omega (
            arith,
            ap (λ d. key_at d (process_place process)) c.loop-process.invariant.same,
            c.process_key-key.ensures.value,
          )) c.loop-process.invariant.keys;
    }
