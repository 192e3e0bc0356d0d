use Rattle.dc_topology.proofs.Bits.{formed, master, connected, closed, bits, low}
use Rattle.dc_topology.proofs.laws.status_tells_ports.Goals as goal

pub returns : goal.returns
returns c = record { formed = formed; master = master; connected = connected; closed = closed; bits = bits; low = low }
