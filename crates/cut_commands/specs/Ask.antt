-- What asking a server for the table of a plan leaves: on the program's wire, on the server's, and of the server's socket.
use Rattle.std.specs.Prelude.{◌≡◌, ◌⊎◌, ℕ, List, Option, Result, Ok, Err, ⊤}
use Rattle.cut_files.specs.Place.{Place}
use Rattle.cut_wires.specs.Log.{WireLog}
use Rattle.cut_sockets.specs.Peer.{Peer, ConnectsAs, MayNotConnect, hung_up}
use Rattle.cut_messages.specs.Asking.{Asks}
use Rattle.cut_messages.specs.declared.fault.AskFault.{AskFault}
use Rattle.cut_commands.specs.Run.{GivesTextFrom}
use Rattle.cut_commands.specs.declared.fault.CliFault.{CliFault}
use Rattle.cut_commands.specs.declared.fault.CliFault.TheVariants.{Socket, Asked}

-- ---- over the wire of a server

-- a text was read, its table was asked for over a server's wire, and its lines were written
pub record AsksText (plan : Option Place) (result : Result ⊤ AskFault) (old new server_old server_new : WireLog)
    : Type 0 where
  pub text : List ℕ
  pub mid : WireLog
  pub read : GivesTextFrom plan (Ok text) old mid
  pub asks : Asks text result server_old server_new mid new

-- how an asking ends, by where the text is read from: the table of the text that was read was asked for; or no text was
-- read, since memory for it ran out or a read of it failed, and nothing was asked then
abbrev pub AsksFrom : Option Place → Result ⊤ CliFault → WireLog → WireLog → WireLog → WireLog → Type 0
AsksFrom plan (Ok done) old new server_old server_new = AsksText plan (Ok done) old new server_old server_new
AsksFrom plan (Err (Asked fault)) old new server_old server_new = AsksText plan (Err fault) old new server_old server_new
AsksFrom plan (Err fault) old new server_old server_new =
    GivesTextFrom plan (Err fault) old new × (server_new ≡ server_old)

-- ---- over a socket

-- the peer of a socket was connected to, the table was asked for over its wire, and the wire was given back. Of a peer
-- that is known this is its own wire, so what was written are the lines of what it replied. If nothing is known of the
-- peer, it is some wire, and what was written are the lines of some answer
pub record HasAsked (plan : Option Place) (before after : Peer) (old new : WireLog) (result : Result ⊤ CliFault)
    : Type 0 where
  pub server : WireLog
  pub server_back : WireLog
  pub connected : ConnectsAs server before
  pub asked : AsksFrom plan result old new server server_back
  pub left : after ≡ hung_up server_back before

-- how the command ends, by where the text is read from and by the peer of its socket, before and after: its table was
-- asked for; or it was not connected to, and nothing was read or written
abbrev pub EndsAsk : Option Place → Peer → Peer → WireLog → WireLog → Result ⊤ CliFault → Type 0
EndsAsk plan before after old new result =
    HasAsked plan before after old new result
    ⊎ (MayNotConnect before × (result ≡ Err Socket) × (new ≡ old) × (after ≡ before))
