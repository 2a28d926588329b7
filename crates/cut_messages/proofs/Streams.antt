-- A stream has one reading.
use Rattle.std.proofs.Common.{◌≡◌, ◌∙◌, ◌+◌, ◌*◌, ◌≤◌, ◌++◌, ℕ, List, [], ◌∷◌, length, take, drop, Some, refl, sym, ap}
use Rattle.std.proofs.Common.{arith, append_assoc, length-append}
use Rattle.std.specs.List.{AllByRecursion, flat_map}
use Rattle.std.specs.Int.{w32, to_be_bytes, from_be_bytes}
use Rattle.std.proofs.lemmas.List.{take_at, drop_at}
use Rattle.std.proofs.lemmas.List.Concat.{flat_map-append}
use Rattle.std.proofs.Math.Seq.{drop-drop}
use Rattle.cut_messages.specs.declared.kind.Kind.{Kind}
use Rattle.cut_messages.specs.declared.side.Side.{Side}
use Rattle.cut_messages.specs.declared.message.Message.{Message}
use Rattle.cut_messages.specs.Kinds.{byte_of, kind_at}
use Rattle.cut_messages.specs.Frames.{frame_of, IsMessage}
use Rattle.cut_messages.specs.Reading.{HasNoMessage}
use Rattle.cut_messages.specs.inside.Prefixes.{message_in, IsWhole}
use Rattle.cut_messages.specs.Laws.{ReadingsAgree, MessagesTakeRoom}
use Rattle.cut_messages.proofs.Frames.{after_four, length_given}

-- two messages at the beginning of the same bytes are one
one_frame : (side : Side) (m n : Message) (t u : List ℕ) → IsMessage side m → IsMessage side n
    → frame_of m ++ t ≡ frame_of n ++ u → (m ≡ n) × (t ≡ u)
one_frame side m n t u is is_too same =
    let letters : byte_of m.kind ≡ byte_of n.kind = cc in
    let others : (to_be_bytes w32 (length m.payload) ++ m.payload) ++ t
    ≡ (to_be_bytes w32 (length n.payload) ++ n.payload) ++ u = cc in
    let found : Some m.kind ≡ Some n.kind = sym is.kind ∙ ap (kind_at side) letters ∙ is_too.kind in
    let long : length m.payload ≡ length n.payload =
    sym (length_given m.payload t is.short) ∙ ap (λ (l : List ℕ). from_be_bytes w32 (take 4 l)) others
    ∙ length_given n.payload u is_too.short in
    let rest : m.payload ++ t ≡ n.payload ++ u =
    sym (after_four m.payload t) ∙ ap (drop 4) others ∙ after_four n.payload u in
    let payloads : m.payload ≡ n.payload =
    sym (take_at m.payload t (length m.payload) refl) ∙ ap (take (length m.payload)) rest
    ∙ take_at n.payload u (length m.payload) (sym long) in
    let tails : t ≡ u =
    sym (drop_at m.payload t (length m.payload) refl) ∙ ap (drop (length m.payload)) rest
    ∙ drop_at n.payload u (length m.payload) (sym long) in
    let kinds : m.kind ≡ n.kind = cc in
    let made : Kind → List ℕ → Message = λ kind payload. record { kind = kind; payload = payload } in
    (ap (λ kind. made kind m.payload) kinds ∙ ap (made n.kind) payloads, tails)

one_reading : (side : Side) (ms ns : List Message) (r s : List ℕ)
    → AllByRecursion (IsMessage side) ms → AllByRecursion (IsMessage side) ns
    → HasNoMessage side r → HasNoMessage side s
    → flat_map frame_of ms ++ r ≡ flat_map frame_of ns ++ s → (ms ≡ ns) × (r ≡ s)
one_reading side [] [] r s are are_too none none_too same = (refl, same)
one_reading side [] (n ∷ ns) r s are are_too none none_too same =
    grind (arith, append_assoc)
one_reading side (m ∷ ms) [] r s are are_too none none_too same =
    grind (arith, append_assoc)
one_reading side (m ∷ ms) (n ∷ ns) r s are are_too none none_too same =
    grind (arith, one_frame, append_assoc, one_reading side ms ns r s are.1 are_too.1 none none_too)

pub agree : ReadingsAgree
agree side stream ms ns r s splits splits_too =
    grind (arith, one_reading)

-- a message more is read
pub one_more : (side : Side) (bytes : List ℕ) (messages : List Message) (read n : ℕ) (kind : Kind)
    → bytes ≡ flat_map frame_of messages ++ drop read bytes → IsWhole side (drop read bytes) kind n
    → bytes ≡ flat_map frame_of (messages ++ message_in (drop read bytes) kind n ∷ [])
    ++ drop (read + (5 + n)) bytes
one_more side bytes messages read n kind stands is =
    grind (arith, append_assoc, flat_map-append, drop-drop)

frames_room : (side : Side) (ms : List Message) → AllByRecursion (IsMessage side) ms
    → (5 * length ms ≤ length (flat_map frame_of ms)) × (length (flat_map frame_of ms) ≤ 65541 * length ms)
frames_room side [] are = (omega arith, omega arith)
frames_room side (m ∷ ms) are =
    grind (arith, length-append, frames_room side ms are.1)

pub room : MessagesTakeRoom
room side stream ms r splits =
    grind (arith, frames_room, length-append)
