use Rattle.std.proofs.Common.{◌≡◌, ◌-◌, ◌+◌, ◌++◌, ℕ, List, [], ◌∷◌, length, length-drop, drop, sym}
use Rattle.std.proofs.Common.{subst, arith}
use Rattle.std.proofs.ByRecursion.{All-push}
use Rattle.std.proofs.lemmas.List.{take_rest}
use Rattle.std.proofs.Math.Seq.{drop-drop}
use Rattle.std.specs.List.{AllByRecursion}
use Rattle.cut_messages.specs.declared.message.Message.{Message}
use Rattle.cut_messages.specs.Frames.{IsMessage}
use Rattle.cut_messages.specs.inside.Prefixes.{message_in, IsWhole}
use Rattle.cut_messages.proofs.Streams.{one_more}
use Rattle.cut_messages.proofs.split.messages_in.Goals as goal

pub returns-in-Wrong-clause-splits : goal.returns-in-Wrong-clause-splits
returns-in-Wrong-clause-splits c =
    grind (arith, take_rest)

pub returns-in-Short-clause-splits : goal.returns-in-Short-clause-splits
returns-in-Short-clause-splits c =
    grind (arith, take_rest)

pub loop-kind-preserved : goal.loop-kind-preserved
loop-kind-preserved c =
    let bytes : List ℕ = c.args.bytes.now in
    let read : ℕ = c.loop-kind.read in
    let n : ℕ = c.in-Whole.length in
    let is : IsWhole c.args.side (drop read bytes) c.in-Whole.kind n =
    subst (λ (l : List ℕ). IsWhole c.args.side l c.in-Whole.kind n) (take_rest bytes read) c.in-Whole.ensures in
    let m : Message = message_in (drop read bytes) c.in-Whole.kind n in
    let size : read + 5 + n - (read + 5) ≡ n = omega arith in
    let payload : c.from_vec-payload.result ≡ m.payload =
    cc (c.in_ok-payload.ensures.items, size, drop-drop 5 read bytes) in
    let made : c.push.new.self.items ≡ c.loop-kind.messages.items ++ m ∷ [] =
    cc (c.in_ok-push.ensures.items, payload) in
    let next : read + (5 + n) ≡ read + 5 + n = omega arith in
    record {
      within = omega (arith, is.within, length-drop read bytes, c.loop-kind.invariant.within);
      whole = cc (
        one_more c.args.side bytes c.loop-kind.messages.items read n c.in-Whole.kind
            c.loop-kind.invariant.whole is,
        next,
        made,
      );
      each = subst (λ (ms : List Message). AllByRecursion (IsMessage c.args.side) ms) (sym made)
          (All-push (IsMessage c.args.side) c.loop-kind.messages.items m c.loop-kind.invariant.each is.message);
    }
