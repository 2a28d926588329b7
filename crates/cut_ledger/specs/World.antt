-- What a run shows, and what is promised of it, over every list of events.
use Rattle.std.specs.Prelude.{◌≡◌, ◌++◌, ◌≤◌, ℕ, List, [], ◌∷◌, map, count_by, IsTrue, ⊤}
use Rattle.std.specs.List.{AllByRecursion}
use Rattle.cut_plan.specs.Values.{Values}
use Rattle.cut_plan.specs.Plan.{IsPlan}
use Rattle.cut_outcome.specs.Outcome.{one_if}
use Rattle.cut_outcome.specs.declared.piece.Piece as pieces
use Rattle.cut_outcome.specs.Sum.{is_piece, sum_of, trials_in}
use Rattle.cut_ledger.specs.lines.Lines.{table}
use Rattle.cut_ledger.specs.declared.slip.Slip.{Slip}
use Rattle.cut_ledger.specs.declared.event.Event.{Event}
use Rattle.cut_ledger.specs.declared.event.Event.TheVariants.{HandIn, HandInDiskFails, CrashReopen, NewWire}
use Rattle.cut_ledger.specs.declared.event.Event.TheVariants.{Finish}
use Rattle.cut_ledger.specs.declared.event.Reply as replies
use Rattle.cut_ledger.specs.declared.event.Reply.TheVariants as reply
use Rattle.cut_ledger.specs.Contents.{is_in, has, is_complete}
use Rattle.cut_ledger.specs.Machine.{StudyState, available, after, reply_to}

-- the state of a run, the bytes that the present wire took, joined, and the pieces whose results were
-- accepted since the study was opened
pub record World : Type 0 where
  pub state : StudyState
  pub bytes : List ℕ
  pub accepted : List pieces.Piece

-- a run that nothing has happened to
abbrev pub begun : StudyState → World
begun s = record { state = s; bytes = []; accepted = [] }

-- the bytes that the present wire took, after an event and its reply
abbrev pub bytes_after : Event → replies.Reply → List ℕ → List ℕ
bytes_after (CrashReopen keep size) answer bytes = []
bytes_after NewWire answer bytes = []
bytes_after event (reply.Bytes more) bytes = bytes ++ more
bytes_after event answer bytes = bytes

-- the pieces that were accepted
abbrev pub accepted_after : Event → replies.Reply → List pieces.Piece → List pieces.Piece
accepted_after (CrashReopen keep size) answer ps = []
accepted_after (HandIn r) reply.Accepted ps = ps ++ r.piece ∷ []
accepted_after event answer ps = ps

-- a run after one event more
abbrev pub step : World → Event → World
step w event = record {
  state = after w.state event;
  bytes = bytes_after event (reply_to w.state event) w.bytes;
  accepted = accepted_after event (reply_to w.state event) w.accepted;
}

-- a run after these events
abbrev pub run : World → List Event → World
run w [] = w
run w (event ∷ events) = run (step w event) events

-- ---- what is promised

-- how many of some pieces a trial is in
abbrev pub times_in : List pieces.Piece → ℕ → ℕ
times_in ps t = count_by (λ p. is_in p t) ps

-- the pieces of slips
abbrev pub pieces_of_slips : List Slip → List pieces.Piece
pieces_of_slips slips = map (λ s. s.piece) slips

-- a true slip: of a piece of the plan, and its totals are the sums over the piece's trials
pub record IsTrueSlip (v : Values) (s : Slip) : Type 0 where
  pub piece : IsTrue (is_piece v s.piece)
  pub totals : s.totals ≡ sum_of v (trials_in s.piece)

-- slips that are true, and no trial is in two of them
pub record AreTrue (v : Values) (ss : List Slip) : Type 0 where
  pub each : AllByRecursion (IsTrueSlip v) ss
  pub apart : (t : ℕ) → times_in (pieces_of_slips ss) t ≤ 1

-- the result of an event is one of a piece of its own plan, as every `PieceResult` is
abbrev pub HasTrueResult : Event → Type 0
HasTrueResult (HandIn r) = IsPlan r.plan × IsTrue (is_piece r.plan r.piece)
HasTrueResult (HandInDiskFails r) = IsPlan r.plan × IsTrue (is_piece r.plan r.piece)
HasTrueResult event = ⊤

-- whatever happened to a run of a plan, this holds of it
pub record IsRight (v : Values) (w : World) : Type 0 where
  -- it is a run of that plan
  pub plan : w.state.ledger.plan ≡ v
  -- what the present wire took is a prefix of the plan's table
  pub begins : (rest : List ℕ) × (table v ≡ w.bytes ++ rest)
  -- and all of it if the run is done
  pub whole : reply_to w.state Finish ≡ reply.Done → w.bytes ≡ table v
  -- a trial is in one piece at most of those of the base and those accepted since, and in one exactly if it is held
  pub once : (t : ℕ) →
      times_in (pieces_of_slips w.state.ledger.base ++ w.accepted) t ≡ one_if (has w.state.ledger t)
  -- where every trial is held, the whole table can be written
  pub offered : IsTrue (is_complete w.state.ledger) → available w.state.ledger ≡ table v
  -- the slips that are kept are true, and no trial is in two of them
  pub kept : AllByRecursion (IsTrueSlip v) w.state.kept
  pub apart : (t : ℕ) → times_in (pieces_of_slips w.state.kept) t ≤ 1

-- two runs that hold every trial can write the same bytes, and two that are done have written the same
pub record SayAlike (a b : World) : Type 0 where
  pub offered : IsTrue (is_complete a.state.ledger) → IsTrue (is_complete b.state.ledger) →
      available a.state.ledger ≡ available b.state.ledger
  pub written : reply_to a.state Finish ≡ reply.Done → reply_to b.state Finish ≡ reply.Done →
      a.bytes ≡ b.bytes
