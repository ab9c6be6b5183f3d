-- What contracts see of a port of this machine.
use Rattle.std.specs.Prelude.{◌≡◌, ℕ, false, [], map, Option, Some, None, option_map, Result}
use Rattle.std.specs.Borrow.{Bor}
use Rattle.clap.specs.Words.{Text}
use Rattle.filing_model.specs.declared.state.State.{State}
use Rattle.filer_client.specs.declared.fault.ExchangeFault.{ExchangeFault}
use Rattle.outbox_process.specs.Dials.{Output, Traffic}
use Rattle.outbox_commands.specs.declared.fault.NotDone.{NotDone}
use Rattle.outbox_commands.specs.declared.fault.NotDone.TheVariants.{Folder}
use Rattle.outbox_commands.specs.declared.network.PeerDial.{PeerDial}
use Rattle.outbox_commands.specs.declared.options.Peer.{Peer}
use Rattle.outbox_commands.specs.declared.written.Written.{Written}

-- what an exchange for the entry of this id answered, and what was written for it
abbrev pub output_of : (ℕ × Result State ExchangeFault) × Written → Output
output_of (exchange, written) = record { id = exchange.0; came = exchange.1; bytes = written.bytes }

-- it is not known what comes on its connections; what was written on those that are over is recorded
abbrev pub traffic_of : PeerDial → Traffic
traffic_of network = record {
  coming = None;
  over = Some (map output_of network.over.items);
  gives_up = network.is_late;
}

-- The network calls this peer, no longer than its patience, and keeps receipts in the folder that is named, if one is.
-- Nothing was called yet.
pub record IsNetworkTo (peer : Peer) (network : PeerDial) : Type 0 where
  pub port : network.port ≡ peer.port
  pub patience : network.patience ≡ peer.patience
  pub receipts : option_map (λ folder. folder.path.now) network.receipts ≡ option_map (λ name. name.now) peer.receipts
  pub in_time : network.is_late ≡ false
  pub none_lost : network.lost_receipts ≡ 0
  pub unused : network.over.items ≡ []

-- no receipt can be kept in the folder that is named
abbrev pub IsNoFolder : Option (Bor Text) → NotDone → Type 0
IsNoFolder (Some name) (Folder refused error) = refused ≡ name
IsNoFolder _ _ = ⊥
