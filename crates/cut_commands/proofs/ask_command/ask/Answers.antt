use Rattle.std.proofs.Common.{◌∙◌, Option, ap, inl}
use Rattle.cut_files.specs.Place.{Place}
use Rattle.cut_wires.specs.Log.{WireLog}
use Rattle.cut_sockets.specs.Peer.{Peer, hung_up}
use Rattle.cut_commands.specs.Ask.{HasAsked}
use Rattle.cut_commands.specs.Run.{source_place}
use Rattle.cut_commands.proofs.AskLemmas.{hung_up_called}
use Rattle.cut_commands.proofs.ask_command.ask.Goals as goal

pub returns-clause-ends : goal.returns-clause-ends
returns-clause-ends g c =
    let plan : Option Place = source_place g.F.Files.log c.args.source in
    let before : Peer = g.S.Sockets.log c.args.sockets.now c.args.path.now in
    let after : Peer = g.S.Sockets.log c.hang_up.new.self c.args.path.now in
    let old : WireLog = g.W.Wire.log c.args.wire.now in
    let new : WireLog = g.W.Wire.log c.ask_over-ended.new.wire in
    let back : WireLog = g.S.Wire.Wire.log c.ask_over-ended.new.server in
    let asked : HasAsked plan before after old new c.ask_over-ended.result = record {
      server = g.S.Wire.Wire.log c.in-Ok.server;
      server_back = back;
      connected = c.in-Ok.ensures.connected.0;
      asked = c.ask_over-ended.ensures;
      left = c.hang_up.ensures.ended ∙ ap (λ (peer : Peer). hung_up back peer) c.in-Ok.ensures.connected.1
          ∙ hung_up_called back before;
    } in
    inl asked
