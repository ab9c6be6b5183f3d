use Rattle.register_tables.proofs.schema.create.make.Goals as goal

pub returns : goal.returns
returns g c =
    rw (
      c.plain.ensures,
      c.plain-2.ensures,
      c.plain-3.ensures,
      c.plain-4.ensures,
      c.plain-5.ensures,
      c.plain-6.ensures,
      c.plain-7.ensures,
      c.plain-8.ensures,
      c.plain-9.ensures,
      c.plain-10.ensures,
    ) at c.write_all.ensures
