-- The peer of a socket that a server is asked at.
use Rattle.std.proofs.Common.{◌≡◌, refl}
use Rattle.cut_wires.specs.Log.{WireLog}
use Rattle.cut_sockets.specs.Peer.{Peer, Unknown, Refused, Busy, Listens, called, hung_up}

-- one that was connected to has its wire back
pub hung_up_called : (wire : WireLog) (peer : Peer) → hung_up wire (called peer) ≡ hung_up wire peer
hung_up_called wire Unknown = refl
hung_up_called wire Refused = refl
hung_up_called wire Busy = refl
hung_up_called wire (Listens log) = refl
