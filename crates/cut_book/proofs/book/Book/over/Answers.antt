use Rattle.std.proofs.Common.{◌≡◌, ◌∙◌, false, map, refl, sym, ap, is_some}
use Rattle.std.proofs.lemmas.List.{length-map}
use Rattle.std.proofs.lemmas.Simd.{splat_is_map}
use Rattle.cut_ledger.specs.Contents.{Contents}
use Rattle.cut_ledger.specs.Machine.{opened}
use Rattle.cut_book.specs.History.{Opening}
use Rattle.cut_book.specs.inside.Book.{state_in}
use Rattle.cut_book.proofs.Losses.{none_lost}
use Rattle.cut_book.proofs.OpenedBooks.{fresh_doubt, fresh_plan, fresh_followed, opened_state}
use Rattle.cut_book.proofs.book.Book.over.Goals as goal

-- no piece is lost
unlost : (g : _) (c : goal.After-len g) → c.in-Ok.lost ≡ map (λ p. false) c.in-Ok.division
unlost g c =
    c.in-Ok.ensures.lost ∙ splat_is_map c.in-Ok.division _ false refl

-- the state is that of a study that is opened
begun : (g : _) (c : goal.After-len g) → state_in c.in-Ok.ledger.contents c.args.journal
    c.in-Ok.division c.in-Ok.lost c.in-Ok.history false
    ≡ opened c.args.plan (is_some c.args.journal) c.args.slips.now c.args.piece_size
begun g c =
    opened_state c.args.plan c.args.slips.now c.args.piece_size c.args.journal c.in-Ok.ledger.contents
    c.in-Ok.division c.in-Ok.lost c.in-Ok.history c.in-Ok.ensures.ledger
    (rw c.is_some-has_journal.ensures at c.in-Ok.ensures.opening) c.in-Ok.ensures.calls c.in-Ok.ensures.division
    (unlost g c) (fresh_doubt c.args.plan c.args.slips.now c.args.journal c.requires.journal)

pub returns-in-Ok-clause-state : goal.returns-in-Ok-clause-state
returns-in-Ok-clause-state g c = begun g c

pub invariant_of-result : goal.invariant_of-result
invariant_of-result g c =
    let opening = rw (c.is_some-has_journal.ensures, c.in-Ok.ensures.ledger) at c.in-Ok.ensures.opening in
    record {
      legal = rw (begun g c, c.in-Ok.ensures.calls, opening);
      plan = sym (ap (λ (o : Opening). o.plan) c.in-Ok.ensures.opening);
      base = sym (ap (λ (o : Opening). o.base) c.in-Ok.ensures.opening);
      pieces = rw (unlost g c) (length-map c.in-Ok.division _);
      divided = c.in-Ok.ensures.pieces;
      losable = rw (unlost g c) (c.len.ensures.value ∙ sym (none_lost c.in-Ok.division));
      room = rw c.len.ensures.value c.in-Ok.ensures.room;
      has_journal = rw opening;
      of_plan = fresh_plan c.args.plan c.in-Ok.ledger.contents.plan c.args.slips.now c.args.journal
          c.requires.journal (sym (ap (λ (l : Contents). l.plan) c.in-Ok.ensures.ledger));
      broken = sym (ap is_some (fresh_doubt c.args.plan c.args.slips.now c.args.journal c.requires.journal));
      followed = rw (begun g c) (fresh_followed g.D.Disk.log c.args.plan c.args.slips.now c.args.piece_size
          c.args.journal c.journals_begin_with_their_runs.ensures.opening c.requires.journal c.requires.read);
      failures = sym c.failures-failed.ensures;
    }
