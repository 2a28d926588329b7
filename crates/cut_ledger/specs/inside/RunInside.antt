-- What of a `Run` contracts see, and what is always true of it.
use Rattle.cut_ledger.specs.declared.run.Run.TheInside.{Inside}
use Rattle.cut_ledger.specs.Machine.{StudyState}
use Rattle.cut_ledger.specs.inside.Reached.{IsReached}

abbrev pub state_of : Inside → StudyState
state_of r = record {
  ledger = r.ledger.contents;
  has_journal = r.has_journal;
  division = r.division.items;
  drawn = r.drawn;
  lost = r.lost.items;
  kept = r.kept.items;
  doubtful = r.doubtful;
  broken = r.broken;
  sent = r.sent;
  wire_lost = r.wire_lost;
}

abbrev pub IsStudyRun : Inside → Type 0
IsStudyRun r = IsReached r.ledger.contents.plan (state_of r)
