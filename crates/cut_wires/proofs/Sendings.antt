-- What was sent by a counting writer, text by text.
use Rattle.std.proofs.Common.{Result, Ok, Err, ◌≡◌, ◌∙◌, ◌+◌, ◌-◌, ◌^◌, ◌≤◌, ◌++◌, List, ℕ, length, min, take, drop}
use Rattle.std.proofs.Common.{refl, sym, ap, arith, length-append}
use Rattle.std.proofs.Math.Seq.{take-add, take-append-add}
use Rattle.std.proofs.lemmas.List.{take-append-le, length-take-le, take_rest}
use Rattle.std.specs.Bool.{⊤}
use Rattle.cut_wires.specs.declared.send.Sent.{Sent}
use Rattle.cut_wires.specs.Log.{wrote}
use Rattle.cut_wires.specs.Sending.{Sending, sent_on, cut_off, IsCut, Sends}
use Rattle.cut_wires.proofs.Logs.{wrote_twice}

-- two texts that were sent are one
pub sent_twice : (s : Sending) (xs ys : List ℕ) → sent_on (sent_on s xs) ys ≡ sent_on s (xs ++ ys)
sent_twice s xs ys =
    grind (arith, length-append, wrote_twice)

-- a text more
pub sent_more : (old mid new : Sending) (xs ys : List ℕ) → mid ≡ sent_on old xs → new ≡ sent_on mid ys
    → new ≡ sent_on old (xs ++ ys)
sent_more old mid new xs ys first second =
    second ∙ ap (λ (s : Sending). sent_on s ys) first ∙ sent_twice old xs ys

-- a text that was cut off after another that was sent
pub cut_after : (old mid new : Sending) (xs ys : List ℕ) → mid ≡ sent_on old xs → IsCut ys mid new
    → IsCut (xs ++ ys) old new
cut_after old mid new xs ys first (n, low, is) = (
  length xs + n,
  omega (arith, low, length-append xs ys),
  is ∙ ap (λ (s : Sending). cut_off s)
      (sent_more old mid (sent_on mid (take n ys)) xs (take n ys) first refl
      ∙ ap (λ (l : List ℕ). sent_on old l) (sym (take-append-add xs ys n))),
)

-- a text is cut off where its first bytes are
pub cut_before : (fault : Sent) (old new : Sending) (xs ys : List ℕ) → Sends (Err fault) xs old new
    → Sends (Err fault) (xs ++ ys) old new
cut_before fault old new xs ys (count, (n, low, is)) =
    grind (arith, length-append xs ys, take-append-le n xs ys)

-- two texts, of which the first was sent
pub sends_after : (result : Result ⊤ Sent) (old mid new : Sending) (xs ys : List ℕ) → mid ≡ sent_on old xs
    → Sends result ys mid new → Sends result (xs ++ ys) old new
sends_after (Ok done) old mid new xs ys first second = sent_more old mid new xs ys first second
sends_after (Err fault) old mid new xs ys first (count, cut) = (count, cut_after old mid new xs ys first cut)

-- a write took the next n bytes of a text of which the first k were sent
pub sent_next : (old mid new : Sending) (k n : ℕ) (bytes : List ℕ) → mid ≡ sent_on old (take k bytes)
    → k ≤ length bytes → n ≤ length (take (length bytes - k) (drop k bytes)) → new.wire ≡ mid.wire
    → new.log ≡ wrote mid.log (take n (take (length bytes - k) (drop k bytes)))
    → new.sent ≡ min (mid.sent + n) (2 ^ 64 - 1) → new ≡ sent_on old (take (k + n) bytes)
sent_next old mid new k n bytes first within few same took count =
    let next : new ≡ sent_on mid (take n (drop k bytes)) = grind (arith, length-take-le, take_rest) in
    sent_more old mid new (take k bytes) (take n (drop k bytes)) first next
    ∙ ap (λ (l : List ℕ). sent_on old l) (sym (take-add k n bytes))
