-- One study with one wire at a time, as a machine: its state, the events that come to it, and what it
-- answers (this project's profile).
use Rattle.std.specs.Prelude.{◌≡◌, ℕ, ◌+◌, ◌<◌, ◌==◌, ◌&&◌, ◌++◌, Bool, ⊤, true, false, not, nat_lt, List, []}
use Rattle.std.specs.Prelude.{◌∷◌, map, length, take, drop, Option, Some, None, IsSome, unwrap_or, option_map}
use Rattle.std.specs.Prelude.{slice_get, slice_index_or, slice_set, if◌then◌else◌}
use Rattle.std.specs.List.{range_with_len, flat_map, list_any, take_while}
use Rattle.cut_faults.specs.declared.code.FaultCode.{FaultCode}
use Rattle.cut_faults.specs.declared.code.FaultCode.TheVariants as code
use Rattle.cut_plan.specs.Values.{Values}
use Rattle.cut_plan.specs.Cells.{cells_of}
use Rattle.cut_plan.specs.Failing.{version_of}
use Rattle.cut_outcome.specs.Computed.{Computed}
use Rattle.cut_outcome.specs.declared.piece.Piece as pieces
use Rattle.cut_outcome.specs.Sum.{sum_of, trials_in}
use Rattle.cut_ledger.specs.lines.Lines.{header, line_with}
use Rattle.cut_ledger.specs.declared.slip.Slip.{Slip}
use Rattle.cut_ledger.specs.declared.event.Event.{Event}
use Rattle.cut_ledger.specs.declared.event.Event.TheVariants.{Draw, HandIn, HandInDiskFails, Lose}
use Rattle.cut_ledger.specs.declared.event.Event.TheVariants.{CrashReopen, Emit, WireFails, NewWire, Finish}
use Rattle.cut_ledger.specs.declared.event.Reply as replies
use Rattle.cut_ledger.specs.declared.event.Reply.TheVariants as reply
use Rattle.cut_ledger.specs.Contents.{Contents, over_base, with_piece, cell_done, cell_sum, is_complete}
use Rattle.cut_ledger.specs.Gaps.{pieces_of}
use Rattle.cut_ledger.specs.FaultCode.{code_of}
use Rattle.cut_ledger.specs.Refusals.{refusal_of}

pub record StudyState : Type 0 where
  -- what is held; its plan and its base are the run's
  pub ledger : Contents
  -- whether slips are kept on a disk
  pub has_journal : Bool
  -- the pieces that are to be run, how many of them are drawn, and of each whether it is lost
  pub division : List pieces.Piece
  pub drawn : ℕ
  pub lost : List Bool
  -- the slips that are kept, those of the base first; the one of a failed append, which may be kept too
  pub kept : List Slip
  pub doubtful : Option Slip
  -- whether an append has failed since the study was opened
  pub broken : Bool
  -- how many bytes of the table the present wire has taken, and whether it has failed
  pub sent : ℕ
  pub wire_lost : Bool

-- ---- bytes

-- the first cells that are done, up to one that is not
abbrev pub cells_done : Contents → List ℕ
cells_done l = take_while (cell_done l) (range_with_len 0 (length (cells_of l.plan)))

-- the part of the table that can be written: the header, and the lines of these cells
abbrev pub available : Contents → List ℕ
available l = header (version_of l.plan.failing) ++ flat_map (λ c. line_with l.plan c (cell_sum l c)) (cells_done l)

-- what the wire takes next, at most n bytes
abbrev pub next_bytes : StudyState → ℕ → List ℕ
next_bytes s n = if s.wire_lost then [] else take n (drop s.sent (available s.ledger))

-- ---- opening

-- a study over slips that were kept, divided anew
abbrev pub opened : Values → Bool → List Slip → ℕ → StudyState
opened v has_journal slips size = record {
  ledger = over_base v slips;
  has_journal = has_journal;
  division = pieces_of (over_base v slips) size;
  drawn = 0;
  lost = map (λ p. false) (pieces_of (over_base v slips) size);
  kept = slips;
  doubtful = None;
  broken = false;
  sent = 0;
  wire_lost = false;
}

-- a study that begins
abbrev pub start : Values → ℕ → Bool → StudyState
start v size has_journal = opened v has_journal [] size

-- the slips of an option
abbrev pub some_slip : Option Slip → List Slip
some_slip None = []
some_slip (Some slip) = slip ∷ []

-- the slips that are found at a resumption: with a journal those that are kept, and the doubtful one if it
-- is, and else none
abbrev pub slips_found : StudyState → Bool → List Slip
slips_found s keep = if s.has_journal then s.kept ++ (if keep then some_slip s.doubtful else []) else []

-- ---- results

-- what a result says of its piece
abbrev pub slip_of : Computed → Slip
slip_of r = record { piece = r.piece; totals = sum_of r.plan (trials_in r.piece) }

-- why a result is refused, if it is: an append has failed, or the ledger refuses it
abbrev pub refused_code : StudyState → Computed → Option FaultCode
refused_code s r = if s.broken then Some code.Checkpoint else option_map code_of (refusal_of s.ledger r)

-- a result that is not refused is taken
abbrev pub taken : StudyState → Computed → StudyState
taken s r = record s {
  ledger = with_piece s.ledger r.piece;
  kept = if s.has_journal then s.kept ++ slip_of r ∷ [] else s.kept;
}

-- or its append has failed
abbrev pub failed : StudyState → Computed → StudyState
failed s r = record s { doubtful = Some (slip_of r); broken = true }

-- the state after a result, by whether it was refused
abbrev pub unless_refused : Option FaultCode → StudyState → StudyState → StudyState
unless_refused None old new = new
unless_refused (Some code) old new = old

-- the answer to a result
abbrev pub accepted_unless : Option FaultCode → replies.Reply
accepted_unless None = reply.Accepted
accepted_unless (Some code) = reply.Refused code

-- ---- the machine

-- the answer to a draw
abbrev pub drawn_piece : Option pieces.Piece → replies.Reply
drawn_piece None = reply.NoPiece
drawn_piece (Some p) = reply.Piece p

-- every trial is held, and the wire has taken the whole table
abbrev pub is_finished : StudyState → Bool
is_finished s = is_complete s.ledger && (not s.wire_lost && (s.sent == length (available s.ledger)))

-- what is answered to an event
abbrev pub reply_to : StudyState → Event → replies.Reply
reply_to s Draw = drawn_piece (slice_get s.division s.drawn)
reply_to s (HandIn r) = accepted_unless (refused_code s r)
reply_to s (HandInDiskFails r) = reply.Refused (unwrap_or (refused_code s r) code.Checkpoint)
reply_to s (Lose i) = if slice_index_or s.lost i true then reply.Refused code.BadPiece else reply.Noted
reply_to s (CrashReopen keep size) = reply.Opened
reply_to s (Emit n) = reply.Bytes (next_bytes s n)
reply_to s (WireFails n) = reply.Bytes (next_bytes s n)
reply_to s NewWire = reply.Ready
reply_to s Finish =
    if is_finished s then reply.Done
    else (if s.broken then reply.Refused code.Checkpoint
    else (if list_any (λ is_lost. is_lost) s.lost then reply.Refused code.WorkMemory else reply.NotYet))

-- the state after an event
abbrev pub after : StudyState → Event → StudyState
after s Draw = record s { drawn = if nat_lt s.drawn (length s.division) then s.drawn + 1 else s.drawn }
after s (HandIn r) = unless_refused (refused_code s r) s (taken s r)
after s (HandInDiskFails r) = unless_refused (refused_code s r) s (failed s r)
after s (Lose i) = record s { lost = slice_set s.lost i true }
after s (CrashReopen keep size) = opened s.ledger.plan s.has_journal (slips_found s keep) size
after s (Emit n) = record s { sent = s.sent + length (next_bytes s n) }
after s (WireFails n) = record s { sent = s.sent + length (next_bytes s n); wire_lost = true }
after s NewWire = record s { sent = 0; wire_lost = false }
after s Finish = s

-- an event that a run can be given: pieces of a new division have some size
abbrev pub IsSizedEvent : Event → Type 0
IsSizedEvent (CrashReopen keep size) = 0 < size
IsSizedEvent event = ⊤

-- whether only the length of the table is left to ask: every trial is held, and the wire is good
abbrev pub is_all_held : StudyState → Bool
is_all_held s = is_complete s.ledger && not s.wire_lost

-- an event that is answered without memory. Some is needed to take a result that is not refused, to open a
-- study, to write to a good wire, and to say how long the whole table is.
abbrev pub TakesNone : StudyState → Event → Type 0
TakesNone s (HandIn r) = IsSome (refused_code s r)
TakesNone s (CrashReopen keep size) = ⊥
TakesNone s (Emit n) = s.wire_lost ≡ true
TakesNone s (WireFails n) = s.wire_lost ≡ true
TakesNone s Finish = is_all_held s ≡ false
TakesNone s event = ⊤
