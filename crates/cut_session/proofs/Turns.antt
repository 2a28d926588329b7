-- Requests that are answered one after another.
use Rattle.std.proofs.Common.{◌≡◌, ◌∙◌, ◌+◌, ◌-◌, ◌*◌, ◌^◌, ◌<◌, ◌≤◌, ◌++◌, ℕ, List, [], ◌∷◌, length, take, drop}
use Rattle.std.proofs.Common.{get_or, Ok, Err, inl, inr, refl, sym, subst, arith, append_assoc, append-nil}
use Rattle.std.proofs.Common.{take-append-drop, length-append}
use Rattle.std.specs.Prelude.{◌⊎◌}
use Rattle.cut_board.specs.declared.view.View.{View}
use Rattle.cut_wires.specs.declared.send.Sent.{Sent}
use Rattle.cut_wires.specs.Sending.{Sending, Sends, sent_on}
use Rattle.cut_wires.proofs.Logs.{wrote_none}
use Rattle.cut_wires.proofs.Sendings.{sent_more}
use Rattle.cut_messages.specs.declared.kind.Kind.{Kind}
use Rattle.cut_messages.specs.declared.kind.Kind.TheVariants as kind
use Rattle.cut_messages.specs.declared.message.Message.{Message}
use Rattle.cut_hall.specs.Hall.{HallValue}
use Rattle.cut_session.specs.Answering.{Rises, AnswersKind, IsAnswered, AnswersAll}
use Rattle.cut_session.specs.declared.answer.Continuation.TheVariants.{On, Over}
use Rattle.cut_session.specs.declared.session_end.SessionEnd.TheVariants as end
use Rattle.cut_session.specs.inside.Serving.{Replies, Serves, ServesAll, longest_reply}
use Rattle.cut_messages.proofs.Answered.{take_next}

pub rises_none : (v : View) → Rises v v
rises_none v = λ study. omega arith

pub rises_on : (low middle high : View) → Rises low middle → Rises middle high → Rises low high
rises_on low middle high first second = λ study. omega (arith, first study, second study)

-- what is no request has no reply
pub no_reply : (hall : HallValue) (low high : View) (k : Kind) (payload : List ℕ)
    → (k ≡ kind.Row) ⊎ ((k ≡ kind.Done) ⊎ (k ≡ kind.Fault)) → AnswersKind hall low high k payload []
no_reply hall low high k payload (inl is) = rw is refl
no_reply hall low high k payload (inr (inl is)) = rw is refl
no_reply hall low high k payload (inr (inr is)) = rw is refl

-- what had been seen before may be less
pub all_from : (hall : HallValue) (low middle high : View) (ms : List Message) (out : List ℕ) → Rises low middle
    → AnswersAll hall middle high ms out → AnswersAll hall low high ms out
all_from hall low middle high [] out rises all = (rises_on low middle high rises all.0, all.1)
all_from hall low middle high (m ∷ ms) out rises (next, first, others, (here, is), rest, joined) =
    grind arith

pub all_then : (hall : HallValue) (low middle high : View) (xs ys : List Message) (a b : List ℕ)
    → AnswersAll hall low middle xs a → AnswersAll hall middle high ys b
    → AnswersAll hall low high (xs ++ ys) (a ++ b)
all_then hall low middle high [] ys a b (rises, none) second =
    rw none (all_from hall low middle high ys b rises second)
all_then hall low middle high (x ∷ xs) ys a b (next, first, others, here, rest, joined) second =
    let after = all_then hall next middle high xs ys others b rest second in
    (next, first, others ++ b, here, after, cc (joined, append_assoc first others b))

pub all_one : (hall : HallValue) (low high : View) (m : Message) (out : List ℕ) → IsAnswered hall low high m out
    → AnswersAll hall low high (m ∷ []) out
all_one hall low high m out is = (high, out, [], is, (rises_none high, refl), sym (append-nil out))

-- and what has been seen since, more
pub all_to : (hall : HallValue) (low middle high : View) (ms : List Message) (out : List ℕ) → Rises middle high
    → AnswersAll hall low middle ms out → AnswersAll hall low high ms out
all_to hall low middle high [] out rises (before, none) = (rises_on low middle high before rises, none)
all_to hall low middle high (m ∷ ms) out rises (next, first, others, here, rest, joined) =
    (next, first, others, here, all_to hall next middle high ms others rises rest, joined)

pub all_rises : (hall : HallValue) (low high : View) (ms : List Message) (out : List ℕ)
    → AnswersAll hall low high ms out → Rises low high
all_rises hall low high [] out all = all.0
all_rises hall low high (m ∷ ms) out all =
    rises_on low all.0 high all.3.0 (all_rises hall all.0 high ms all.2 all.4)

-- ---- as they are sent

-- nothing was sent
pub none_sent : (s : Sending) → s.sent < 2 ^ 64 → s ≡ sent_on s []
none_sent s small =
    grind (arith, wrote_none)

-- a message after others that were answered
module _ (hall : HallValue) (low middle high : View) (ms : List Message) (i : ℕ) (m : Message) (old now new : Sending)
    (low_i : i < length ms) (is : m ≡ get_or ms i m) (first : Replies (AnswersAll hall low middle (take i ms))
    (longest_reply * length (take i ms)) (Ok tt) old now) where
  -- the replies to it too
  both : (out : List ℕ) → IsAnswered hall middle high m out
      → AnswersAll hall low high (take i ms ++ m ∷ []) (first.0 ++ out)
  both out answers =
      all_then hall low middle high (take i ms) (m ∷ []) first.0 out first.1 (all_one hall middle high m out answers)

  few : (out : List ℕ) → length out ≤ longest_reply
      → length (first.0 ++ out) ≤ longest_reply * length (take i ms ++ m ∷ [])
  few out short = omega (arith, first.2, short, length-append first.0 out, length-append (take i ms) (m ∷ []))

  parts : ms ≡ take i ms ++ m ∷ drop (i + 1) ms
  parts =
      cc (take-append-drop (i + 1) ms, take_next ms i m low_i is, append_assoc (take i ms) (m ∷ []) (drop (i + 1) ms))

  pub goes_on : Serves hall middle high m (Ok On) now new
      → Replies (AnswersAll hall low high (take (i + 1) ms)) (longest_reply * length (take (i + 1) ms)) (Ok tt) old new
  goes_on (out, answers, short, sent) =
      rw (← take_next ms i m low_i is)
      (first.0 ++ out, both out answers, few out short, sent_more old now new first.0 out first.3 sent)

  pub is_over : Serves hall middle high m (Ok Over) now new → ServesAll hall low high ms (Err end.Quit) old new
  is_over (quits, rises, same) = (
    record {
      answered = take i ms;
      unanswered = m ∷ drop (i + 1) ms;
      out = first.0;
      parts = parts;
      replies = all_to hall low middle high (take i ms) first.0 rises first.1;
      short = first.2;
    },
    quits,
    same ∙ first.3,
  )

  pub is_cut : (fault : Sent) → Serves hall middle high m (Err fault) now new
      → ServesAll hall low high ms (Err (end.Write fault)) old new
  is_cut fault (out, answers, short, cut) = (
    record {
      answered = take i ms ++ m ∷ [];
      unanswered = drop (i + 1) ms;
      out = first.0 ++ out;
      parts = cc (parts, append_assoc (take i ms) (m ∷ []) (drop (i + 1) ms));
      replies = both out answers;
      short = few out short;
    },
    record {
      before = take i ms;
      here = m;
      middle = middle;
      first = first.0;
      reply = out;
      parts = refl;
      replies = first.1;
      answers = all_one hall middle high m out answers;
      joined = refl;
    },
    subst (λ (s : Sending). Sends (Err fault) out s new) first.3 cut,
  )
