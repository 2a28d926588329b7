-- What is known of each path that the program may reach.
use Rattle.std.specs.Prelude.{ℕ, List}
use Rattle.cut_files.specs.Place.{Place}
use Rattle.cut_sockets.specs.Peer.{Peer}
use Rattle.cut_jobs.specs.declared.devices.Devices.{Devices}

-- what stands at each path as a file, and who listens at each as a socket
pub record Paths : Type 0 where
  pub places : List ℕ → Place
  pub peers : List ℕ → Peer

-- those of files and sockets
abbrev pub paths_of : {F S : Type 0} → (F → List ℕ → Place) → (S → List ℕ → Peer) → Devices F S → Paths
paths_of files sockets devices = record { places = files devices.files; peers = sockets devices.sockets }
