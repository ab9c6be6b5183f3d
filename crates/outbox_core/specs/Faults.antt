-- The refusals of the rows as the calls of an open outbox name them.
use Rattle.table_rows.specs.declared.fault.StoreFault.{StoreFault}
use Rattle.table_rows.specs.declared.fault.StoreFault.TheVariants as store
use Rattle.outbox_core.specs.declared.fault.PutFault.{PutFault}
use Rattle.outbox_core.specs.declared.fault.PutFault.TheVariants as put
use Rattle.outbox_core.specs.declared.fault.TakeFault.{TakeFault}
use Rattle.outbox_core.specs.declared.fault.TakeFault.TheVariants as take

-- a failure of the rows while an entry is put
abbrev pub putting : StoreFault → PutFault
putting store.Memory = put.Memory
putting store.Store = put.Store

-- a failure of the rows while a reply is taken
abbrev pub taking : StoreFault → TakeFault
taking store.Memory = take.Memory
taking store.Store = take.Store
