-- Sockets in memory: what is kept of each path, and who listens there.
use Rattle.std.specs.Prelude.{◌≡◌, ◌≢◌, ℕ, List, Option, None, Some}
use Rattle.std.specs.BTreeMap.{get_by_text}
use Rattle.cut_wires.specs.Log.{WireLog}
use Rattle.cut_sockets.specs.declared.memory_sockets.MemorySockets.{MemorySockets}
use Rattle.cut_sockets.specs.Peer.{Peer, Refused, Busy, Listens}

module _ {W : Type 0} where
  -- the wire of the socket at a path, if one was put there, and none while it is busy
  abbrev pub kept_at : MemorySockets W → List ℕ → Option (Option W)
  kept_at sockets path = get_by_text sockets.wires path

  -- nothing changed at the other paths
  abbrev pub KeepsElsewhere : List ℕ → MemorySockets W → MemorySockets W → Type 0
  KeepsElsewhere path old new = (other : List ℕ) → other ≢ path → kept_at new other ≡ kept_at old other

  -- the wire of a socket that is not busy
  abbrev pub wire_of : Option (Option W) → Option W
  wire_of None = None
  wire_of (Some kept) = kept

  -- what is known of a peer, by what is kept of it and the logs of wires
  abbrev pub peer_of : (W → WireLog) → Option (Option W) → Peer
  peer_of log None = Refused
  peer_of log (Some None) = Busy
  peer_of log (Some (Some wire)) = Listens (log wire)

  -- who listens at each path
  abbrev pub peer_at : (W → WireLog) → MemorySockets W → List ℕ → Peer
  peer_at log sockets path = peer_of log (kept_at sockets path)
