-- Books of which nothing was asked yet.
use Rattle.std.proofs.Common.{◌≡◌, ◌∙◌, ℕ, Bool, false, List, [], length, map, Ok, Option, Some, None}
use Rattle.std.proofs.Common.{IfSome, is_some, refl, ap}
use Rattle.cut_plan.specs.Values.{Values}
use Rattle.cut_outcome.specs.declared.piece.Piece.{Piece}
use Rattle.cut_disks.specs.Log.{DiskLog, IsKnown, on}
use Rattle.cut_ledger.specs.declared.slip.Slip.{Slip}
use Rattle.cut_ledger.specs.Contents.{Contents, over_base}
use Rattle.cut_ledger.specs.Gaps.{pieces_of}
use Rattle.cut_ledger.specs.Machine.{opened}
use Rattle.cut_journal.specs.Journal.{JournalValue}
use Rattle.cut_journal.specs.Reading.{reading}
use Rattle.cut_journal.specs.Laws.{OpeningsFollow}
use Rattle.cut_book.specs.History.{HistoryValue}
use Rattle.cut_book.specs.Book.{FollowsState}
use Rattle.cut_book.specs.Kept.{doubtful_in}
use Rattle.cut_book.specs.inside.Book.{kept_in, state_in}
use Rattle.cut_book.proofs.Legal.{none_kept}

-- a journal as it was made or opened again: of that plan, with these slips, none doubtful
abbrev pub IsFresh : {D : Type 0} → Values → List Slip → Option (JournalValue D) → Type 0
IsFresh v slips journal = IfSome journal (λ log. (log.plan ≡ v) × (log.count ≡ length slips) × (log.doubtful ≡ None))

pub fresh_doubt : {D : Type 0} (v : Values) (slips : List Slip) (journal : Option (JournalValue D))
    → IsFresh v slips journal → doubtful_in journal ≡ None
fresh_doubt v slips None is = refl
fresh_doubt v slips (Some log) is = is.2

pub fresh_plan : {D : Type 0} (v u : Values) (slips : List Slip) (journal : Option (JournalValue D))
    → IsFresh v slips journal → v ≡ u → IfSome journal (λ log. log.plan ≡ u)
fresh_plan v u slips None is same = tt
fresh_plan v u slips (Some log) is same = is.0 ∙ same

pub fresh_followed : {D : Type 0} (log_of : D → DiskLog) (v : Values) (slips : List Slip) (size : ℕ)
    (journal : Option (JournalValue D)) → OpeningsFollow → IsFresh v slips journal
    → IfSome journal (λ log. IsKnown (log_of log.disk) → reading v (on (log_of log.disk)).bytes ≡ Ok slips)
    → FollowsState log_of journal (opened v (is_some journal) slips size)
fresh_followed log_of v slips size None follow is reads = tt
fresh_followed log_of v slips size (Some log) follow is reads = λ good.
    rw (is.0, is.2) (follow v log.count slips (on (log_of log.disk)) size (reads good) is.1)

pub opened_state : {D : Type 0} (v : Values) (slips : List Slip) (size : ℕ) (journal : Option (JournalValue D))
    (l : Contents) (division : List Piece) (lost : List Bool) (history : HistoryValue)
    → l ≡ over_base v slips → history.opening ≡ record
    { plan = l.plan; has_journal = is_some journal; base = l.base; size = size } → history.calls ≡ []
    → division ≡ pieces_of l size → lost ≡ map (λ p. false) division → doubtful_in journal ≡ None
    → state_in l journal division lost history false ≡ opened v (is_some journal) slips size
opened_state v slips size journal l division lost history holds opening none pieces unlost doubt =
    let kept : kept_in history ≡ slips = rw (opening, none) (none_kept (is_some journal) l.base
    ∙ ap (λ (x : Contents). x.base) holds) in
    cc (opening, kept, doubt, unlost, pieces, holds)
