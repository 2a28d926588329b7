use Rattle.std.proofs.Common.{◌≡◌, ◌∙◌, ◌++◌, List, ℕ, Some, None, false, drop, sym, ap, subst}
use Rattle.std.specs.Option.{is_some}
use Rattle.cut_messages.specs.declared.side.Side.{Side}
use Rattle.cut_messages.specs.Frames.{fault_at}
use Rattle.cut_messages.specs.Reading.{Reading, Splits}
use Rattle.cut_messages.proofs.Pieces.{read_no_more, read_on}
use Rattle.cut_messages.proofs.reader.Reader.feed.Goals.{in-Some, in-None}
use Rattle.cut_messages.proofs.reader.Reader.feed.Goals as goal

pub returns-then-is_some-clause-reads : goal.returns-then-is_some-clause-reads
returns-then-is_some-clause-reads c = λ stream messages has.
    read_no_more c.args.self.now stream c.args.piece.now messages c.new.result.items
    (ap (λ (r : Reading). is_some r.fault) (sym c.self.view_is) ∙ sym c.is_some.ensures ∙ c.if-is_some.true)
    c.new.ensures.items has

pub returns-clause-reads : goal.returns-clause-reads
returns-clause-reads c = λ stream messages has.
    let view = c.self.view_is in
    let bytes : List ℕ = c.as_slice.result.now in
    let rest : List ℕ = drop c.in-Ok.split.read bytes in
    let right : is_some c.args.self.now.fault ≡ false =
    ap (λ (r : Reading). is_some r.fault) (sym view) ∙ sym c.is_some.ensures ∙ c.if-is_some.false in
    let side : c.self.inside.side ≡ c.args.self.now.side = ap (λ (r : Reading). r.side) view in
    let are : bytes ≡ c.args.self.now.held ++ c.args.piece.now =
    c.as_slice.ensures.value ∙ c.in_ok-extend_from_slice.ensures.items
    ∙ ap (λ (r : Reading). r.held ++ c.args.piece.now) view in
    let splits : Splits c.args.self.now.side bytes c.in-Ok.split.messages.items rest =
    subst (λ (s : Side). Splits s bytes c.in-Ok.split.messages.items rest) side c.in-Ok.ensures.splits in
    let fault : c.in-Ok.split.fault ≡ fault_at c.args.self.now.side rest =
    c.in-Ok.ensures.fault ∙ ap (λ (s : Side). fault_at s rest) side in
    elim c.match-split.branch [
      | in-Some w ↦ read_on c.args.self.now c.match-split.self stream c.args.piece.now bytes rest messages
          c.in-Ok.split.messages.items right has are splits
          (ap (λ (r : Reading). r.side) w.self-is ∙ side) (ap (λ (r : Reading). r.fault) w.self-is ∙ fault)
          (λ none. absurd (let never : Some w.in-Some.field-0 ≡ None =
          sym w.in-Some.is ∙ sym (ap (λ (r : Reading). r.fault) w.self-is) ∙ none in cc))
      | in-None w ↦ read_on c.args.self.now c.match-split.self stream c.args.piece.now bytes rest messages
          c.in-Ok.split.messages.items right has are splits
          (ap (λ (r : Reading). r.side) w.self-is ∙ side) (ap (λ (r : Reading). r.fault) w.self-is ∙ fault)
          (λ none. ap (λ (r : Reading). r.held) w.self-is ∙ w.drop_prefix.ensures
          ∙ ap (λ (l : List ℕ). drop c.in-Ok.split.read l) (sym c.as_slice.ensures.value))
    ]
