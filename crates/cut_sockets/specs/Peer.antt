-- What is known of who listens at each path, and how the calls that connect and hang up change it.
use Rattle.std.specs.Prelude.{◌≡◌, ◌≢◌, ℕ, List, ⊤}
use Rattle.cut_wires.specs.Log.{WireLog}

-- what is known of who listens at a path: nothing; that nobody does, so that a connection is refused; that a connection
-- there is in use; or that somebody does who can be connected to, and the log of the wire
pub data Peer : Type 0 where
  Unknown : Peer
  Refused : Peer
  Busy : Peer
  Listens : (log : WireLog) → Peer

-- a connection to a peer has a wire with this log: that of the peer, if it is known. There is none where nobody listens,
-- or while another is in use
abbrev pub ConnectsAs : WireLog → Peer → Type 0
ConnectsAs wire Unknown = ⊤
ConnectsAs wire Refused = ⊥
ConnectsAs wire Busy = ⊥
ConnectsAs wire (Listens log) = wire ≡ log

-- a peer once it was connected to
abbrev pub called : Peer → Peer
called Unknown = Unknown
called peer = Busy

-- a peer was connected to, by a wire with this log: the peer before and after
abbrev pub IsConnected : WireLog → Peer → Peer → Type 0
IsConnected wire old new = ConnectsAs wire old × (new ≡ called old)

-- a connection to a peer may fail: if nothing is known of it, if nobody listens, or if it is busy
abbrev pub MayNotConnect : Peer → Type 0
MayNotConnect Unknown = ⊤
MayNotConnect Refused = ⊤
MayNotConnect Busy = ⊤
MayNotConnect (Listens log) = ⊥

-- a peer once the wire of its connection was given back, with this log
abbrev pub hung_up : WireLog → Peer → Peer
hung_up wire Unknown = Unknown
hung_up wire peer = Listens wire

-- the wire of a connection can be given back to a peer that is busy or unknown
abbrev pub IsCalled : Peer → Type 0
IsCalled Unknown = ⊤
IsCalled Busy = ⊤
IsCalled peer = ⊥

-- nothing changed at the other paths
abbrev pub KeepsOtherPeers : List ℕ → (List ℕ → Peer) → (List ℕ → Peer) → Type 0
KeepsOtherPeers path old new = (other : List ℕ) → other ≢ path → new other ≡ old other
