-- A history with one call more.
use Rattle.std.proofs.Common.{◌≡◌, ◌∙◌, ◌++◌, ◌≤◌, ℕ, Bool, false, not, cond, List, [], ◌∷◌, length}
use Rattle.std.proofs.Common.{Option, Some, None, IfSome, is_some, count_by, refl, sym, ap, arith, append_assoc}
use Rattle.std.proofs.Common.{append-nil}
use Rattle.std.proofs.lemmas.Grind.{flat_map-append}
use Rattle.cut_outcome.specs.Computed.{Computed}
use Rattle.cut_outcome.specs.declared.piece.Piece.{Piece}
use Rattle.cut_disks.specs.Log.{DiskLog}
use Rattle.cut_ledger.specs.declared.slip.Slip.{Slip}
use Rattle.cut_ledger.specs.Contents.{Contents}
use Rattle.cut_ledger.specs.declared.event.Event.TheVariants as event
use Rattle.cut_ledger.specs.Machine.{StudyState, after}
use Rattle.cut_ledger.specs.World.{HasTrueResult}
use Rattle.cut_journal.specs.Journal.{JournalValue}
use Rattle.cut_book.specs.declared.call.Answer.{Answer}
use Rattle.cut_book.specs.declared.call.Call.{Call}
use Rattle.cut_book.specs.History.{HistoryValue, IsAnswer, IsLegalHistory, IsStep, LeadsTo, Opening, accepted_slip}
use Rattle.cut_book.specs.History.{accepted_slips, event_of, opened_by}
use Rattle.cut_book.specs.Book.{failures_of, failed_since, hand_in_of, FollowsState}
use Rattle.cut_book.specs.inside.Book.{kept_in, state_in, IsBook}
use Rattle.cut_book.specs.inside.HistoryInside.{IsReserved, Noted}

pub leads_on : (s t u : StudyState) (calls : List Call) (call : Call) → LeadsTo s calls t → IsStep t call u
    → LeadsTo s (calls ++ call ∷ []) u
leads_on s t u [] call from step = (u, (rw from step, refl))
leads_on s t u (first ∷ rest) call from step = (from.0, (from.1.0, leads_on from.0 t u rest call from.1.1 step))

-- a call that was added to a history for which room was made
pub noted : {call : Call} {old mid new : HistoryValue} → IsReserved old mid → Noted call mid new → Noted call old new
noted room adds = grind arith

-- ---- the slips that are kept

slips_next : (calls : List Call) (call : Call) → accepted_slips (calls ++ call ∷ []) ≡ accepted_slips calls
    ++ accepted_slip call
slips_next calls call = rw (← append-nil (accepted_slip call)) (flat_map-append accepted_slip calls (call ∷ []))

pub kept_by : (has : Bool) (base xs ys : List Slip) → cond has (base ++ (xs ++ ys)) base
    ≡ cond has (cond has (base ++ xs) base ++ ys) (cond has (base ++ xs) base)
kept_by has base xs ys = grind (arith, append_assoc)

pub kept_next : {call : Call} {old new : HistoryValue} → Noted call old new → kept_in new
    ≡ cond old.opening.has_journal (kept_in old ++ accepted_slip call) (kept_in old)
kept_next is =
    grind (arith, slips_next, kept_by)

pub none_kept : (has : Bool) (ks : List Slip) → cond has (ks ++ []) ks ≡ ks
none_kept has ks = grind (arith, append-nil)

pub kept_same : {call : Call} {old new : HistoryValue} → Noted call old new → accepted_slip call ≡ [] → kept_in new
    ≡ kept_in old
kept_same {old = old} is none = kept_next is ∙ rw none (none_kept old.opening.has_journal (kept_in old))

pub no_doubt : (doubtful : Option Slip) → is_some doubtful ≡ false → doubtful ≡ None
no_doubt None e = refl
no_doubt (Some slip) e = absurd (let no : ⊥ = cc in no)

-- the state is the same where no slip was accepted
pub state_same : {D : Type 0} (l : Contents) (journal : Option (JournalValue D)) (division : List Piece)
    (lost : List Bool) (broken : Bool) {call : Call} {old new : HistoryValue} → Noted call old new
    → accepted_slip call ≡ []
    → state_in l journal division lost new broken ≡ state_in l journal division lost old broken
state_same l journal division lost broken is none = rw (kept_same is none, is.opening)

-- ---- books

-- a history is legal where the call is a step from where it led
pub legal_on : {D : Type 0} {log_of : D → DiskLog} {journal : Option (JournalValue D)} {s : StudyState}
    {old mid : HistoryValue} {places failed : ℕ} (call : Call) (t : StudyState)
    → IsBook log_of journal s old places failed → IsReserved old mid → IsStep s call t
    → IsLegalHistory mid.opening (mid.calls ++ call ∷ [])
legal_on {s = s} {old = old} call t book room step =
    rw (room.opening, room.calls) (t, leads_on (opened_by old.opening) s t old.calls call book.legal step)

-- a result with its answer is a step
pub result_step : {s : StudyState} {r : Computed} {a : Answer} (call : Call) → call ≡ hand_in_of s r a
    → HasTrueResult (event.HandIn r) → IsAnswer s r a → IsStep s call (after s (event_of a r))
result_step {r = r} call called real answered = rw called (record {
  result = r;
  true_result = real;
  slip_is = refl;
  own_is = refl;
  answered = answered;
  next = refl;
})

pub legal_result : {D : Type 0} {log_of : D → DiskLog} {journal : Option (JournalValue D)} {s : StudyState}
    {old mid : HistoryValue} {places failed : ℕ} {r : Computed} {a : Answer} (call : Call)
    → IsBook log_of journal s old places failed → IsReserved old mid → call ≡ hand_in_of s r a
    → HasTrueResult (event.HandIn r) → IsAnswer s r a → IsLegalHistory mid.opening (mid.calls ++ call ∷ [])
legal_result {s = s} {r = r} {a = a} call book room called real answered =
    legal_on call (after s (event_of a r)) book room (result_step call called real answered)

-- a journal is that of its state after a loss too
pub followed_lost : {D : Type 0} (log_of : D → DiskLog) (journal : Option (JournalValue D)) (s : StudyState)
    (lost : List Bool) → FollowsState log_of journal s → FollowsState log_of journal (record s { lost = lost })
followed_lost log_of None s lost of = tt
followed_lost log_of (Some log) s lost of = λ good. (let is = of good in grind arith)

module _ {D : Type 0} {log_of : D → DiskLog} where
  -- a book after a step of the machine
  pub stepped : {journal now : Option (JournalValue D)} {s t : StudyState} {call : Call} {old new : HistoryValue}
      {places left failed : ℕ} → IsBook log_of journal s old places failed → Noted call old new → IsStep s call t
      → t.ledger.plan ≡ s.ledger.plan → t.ledger.base ≡ s.ledger.base → t.division ≡ s.division → length t.lost
      ≡ length s.lost → left ≡ count_by not t.lost → left ≤ new.room
      → t.has_journal ≡ s.has_journal → is_some now ≡ is_some journal → IfSome now (λ log. log.plan ≡ s.ledger.plan)
      → t.broken ≡ is_some t.doubtful
      → FollowsState log_of now t → failures_of log_of now ≡ failed_since t.broken failed
      → IsBook log_of now t new left failed
  stepped {s = s} {t = t} {call = call} {old = old} book is step plan base division lost count room has some of_plan
      broken followed failures = record {
        legal = rw (is.opening, is.calls) (leads_on (opened_by old.opening) s t old.calls call book.legal step);
        plan = plan ∙ book.plan ∙ ap (λ (o : Opening). o.plan) (sym is.opening);
        base = base ∙ book.base ∙ ap (λ (o : Opening). o.base) (sym is.opening);
        pieces = lost ∙ book.pieces ∙ ap (λ (l : List Piece). length l) (sym division);
        divided = rw (division, plan) book.divided;
        losable = count;
        room = room;
        has_journal = has ∙ book.has_journal ∙ sym some;
        of_plan = rw plan of_plan;
        broken = broken;
        followed = followed;
        failures = failures;
      }

  -- a book after a call that leaves the state, for which room was made
  pub said : {journal : Option (JournalValue D)} {l : Contents} {division : List Piece} {lost : List Bool}
      {broken : Bool} {call : Call} {old mid new : HistoryValue} {places failed : ℕ}
      → IsBook log_of journal (state_in l journal division lost old broken) old places failed
      → IsReserved old mid → Noted call mid new → new.room ≡ mid.room
      → IsStep (state_in l journal division lost old broken) call (state_in l journal division lost old broken)
      → accepted_slip call ≡ [] → IsBook log_of journal (state_in l journal division lost new broken) new places failed
  said {journal = journal} {l = l} {division = division} {lost = lost} {broken = broken} {call = call} {old = old}
      {new = new} book room adds left step none =
      let is : Noted call old new = noted room adds in
      rw (state_same l journal division lost broken is none) (stepped book is step refl refl refl refl book.losable
      (omega (arith, left, room.room, book.room)) refl refl book.of_plan book.broken book.followed book.failures)
