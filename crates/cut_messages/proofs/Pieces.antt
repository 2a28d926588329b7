-- A reader that is fed a piece more.
use Rattle.std.proofs.Common.{◌≡◌, ◌∙◌, ◌++◌, ℕ, List, [], true, false, Option, Some, None, refl, sym, ap, subst}
use Rattle.std.proofs.Common.{append_assoc, append-nil}
use Rattle.std.specs.List.{flat_map}
use Rattle.std.specs.Option.{is_some}
use Rattle.std.proofs.ByRecursion.{All-append}
use Rattle.std.proofs.lemmas.List.Concat.{flat_map-append}
use Rattle.cut_messages.specs.declared.side.Side.{Side}
use Rattle.cut_messages.specs.declared.message.Message.{Message}
use Rattle.cut_messages.specs.declared.fault.StreamFault.{StreamFault}
use Rattle.cut_messages.specs.Frames.{frame_of, IsMessage, fault_at}
use Rattle.cut_messages.specs.Reading.{Splits, Reading, HasReadFrames}
use Rattle.cut_messages.proofs.Frames.{fault_more, no_message}

fault_there : (o : Option StreamFault) → is_some o ≡ true → (fault : StreamFault) × (o ≡ Some fault)
fault_there None some = cc
fault_there (Some fault) some = (fault, refl)

pub none_there : (o : Option StreamFault) → is_some o ≡ false → o ≡ None
none_there None none = refl
none_there (Some fault) none = cc

-- after a fault nothing more is read
pub read_no_more : (r : Reading) (stream piece : List ℕ) (messages none : List Message)
    → is_some r.fault ≡ true → none ≡ [] → HasReadFrames r stream messages
    → HasReadFrames r (stream ++ piece) (messages ++ none)
read_no_more r stream piece messages none some is_none has =
    let there = fault_there r.fault some in
    let wrong : fault_at r.side has.rest ≡ Some there.0 = sym has.fault ∙ there.1 in
    let wrong_on : fault_at r.side (has.rest ++ piece) ≡ Some there.0 =
    fault_more r.side has.rest piece there.0 wrong in
    let same : messages ≡ messages ++ none =
    sym (append-nil messages) ∙ ap (λ (ms : List Message). messages ++ ms) (sym is_none) in
    let splits : Splits r.side (stream ++ piece) messages (has.rest ++ piece) = record {
      whole = cc (has.splits.whole, append_assoc (flat_map frame_of messages) has.rest piece);
      each = has.splits.each;
      last = no_message r.side (has.rest ++ piece) there.0 wrong_on;
    } in
    subst (λ (ms : List Message). HasReadFrames r (stream ++ piece) ms) same (record {
      rest = has.rest ++ piece;
      splits = splits;
      fault = there.1 ∙ sym wrong_on;
      held = λ right. absurd (let never : Some there.0 ≡ None = sym there.1 ∙ right in cc);
    })

-- what is held, with the piece after it, is read on
pub read_on : (old new : Reading) (stream piece bytes rest : List ℕ) (messages more : List Message)
    → is_some old.fault ≡ false → HasReadFrames old stream messages → bytes ≡ old.held ++ piece
    → Splits old.side bytes more rest → new.side ≡ old.side → new.fault ≡ fault_at old.side rest
    → (new.fault ≡ None → new.held ≡ rest) → HasReadFrames new (stream ++ piece) (messages ++ more)
read_on old new stream piece bytes rest messages more right has are splits side fault held =
    let kept : old.held ≡ has.rest = has.held (none_there old.fault right) in
    let whole : stream ++ piece ≡ flat_map frame_of (messages ++ more) ++ rest =
    rw (
      has.splits.whole,
      append_assoc (flat_map frame_of messages) has.rest piece,
      flat_map-append frame_of messages
          more,
      append_assoc (flat_map frame_of messages) (flat_map frame_of more) rest,
    )
    (ap (λ (l : List ℕ). flat_map frame_of messages ++ l) (cc)) in
    let all : Splits old.side (stream ++ piece) (messages ++ more) rest = record {
      whole = whole;
      each = All-append (IsMessage old.side) messages more has.splits.each splits.each;
      last = splits.last;
    } in
    record {
      rest = rest;
      splits = subst (λ (s : Side). Splits s (stream ++ piece) (messages ++ more) rest) (sym side) all;
      fault = fault ∙ ap (λ (s : Side). fault_at s rest) (sym side);
      held = held;
    }
