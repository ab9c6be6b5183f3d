use Rattle.std.proofs.Common.{◌≡◌, rules}
use Rattle.table_rows.specs.Giving.{without_conn}
use Rattle.table_rows.proofs.ResultLemmas.{gives_up}
use Rattle.register_store.proofs.store.Store.create.Goals as goal

pub returns : goal.returns
returns g c =
    let same : without_conn c.create_or_back.result ≡ c.map_err.result = search rules in
    gives_up c.create_or_back.result c.map_err.result same c.create_or_back.ensures
