-- A connection over a socket of the system.
use Rattle.std.specs.Prelude.{None}
use Rattle.cut_wires.specs.Log.{WireLog}
use Rattle.cut_sockets.specs.declared.connection.Connection.{Connection}

-- what passed is not known, and how many of its calls failed is
abbrev pub connection_log : Connection → WireLog
connection_log c = record { traffic = None; failed = record { reads = c.failed_reads; writes = c.failed_writes } }
