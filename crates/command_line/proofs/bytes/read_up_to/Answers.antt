use Rattle.std.proofs.Common.{ℕ, List, ◌∙◌, arith, refl, subst, sym}
use Rattle.std.proofs.KnownBytes.{Consumes-nil, Consumes-trans}
use Rattle.std.specs.Io.KnownBytes.{Consumes}
use Rattle.command_line.proofs.Reading.{reads_none, reads_more}
use Rattle.command_line.proofs.bytes.read_up_to.Goals as goal

pub loop-reads-init : goal.loop-reads-init
loop-reads-init g c =
    let left = g.R.Source.left c.args.reader.now in
    record {
      within = omega (arith, c.new-bytes.ensures.len);
      made = omega arith;
      room = c.in_ok-room.ensures;
      reads = reads_none g.R.Source.left g.R.Source.read_failures c.args.reader.now;
      given = subst (Consumes left left) (sym {A = List ℕ} c.new-bytes.ensures.items) (Consumes-nil left);
      failures = refl;
    }

pub loop-reads-preserved : goal.loop-reads-preserved
loop-reads-preserved g c =
    let so_far = c.loop-reads.invariant in
    let more = c.in_ok-read_more.ensures in
    record {
      within = more.bound;
      made = omega (arith, so_far.made, more.made, more.count, c.if-branch-eq0.false);
      room = more.room ∙ so_far.room;
      reads = reads_more _ _ _ _ _ _ _ more.made so_far.reads (more.some (omega (arith, c.if-branch-eq0.false)));
      given = subst (Consumes (g.R.Source.left c.args.reader.now) (g.R.Source.left c.read_more.new.reader))
          (sym {A = List ℕ} more.kept) (Consumes-trans _ _ _ _ _ so_far.given more.given);
      failures = more.fine ∙ so_far.failures;
    }
