use Rattle.std.proofs.Common.{◌≡◌, ◌++◌, ℕ, List, drop, length, slice_range, Result, Err, IfErr, sym, ap, ◌∙◌, subst}
use Rattle.std.proofs.Common.{refl, arith}
use Rattle.std.proofs.lemmas.Grind.{common_steps}
use Rattle.std.proofs.lemmas.List.{drop_at}
use Rattle.std.proofs.lemmas.Result.{err_from_is_err_and}
use Rattle.std.specs.Io.KnownBytes.{Consumes}
use Rattle.http_wire.proofs.ReceivedLemmas.{no_answer}
use Rattle.command_line.specs.declared.bytes.ReadFault.TheVariants.{the_data}
use Rattle.command_line.specs.Reading.{IsNoRead}
use Rattle.command_line.proofs.bytes.read_more.Goals as goal

-- what was read stands after what was there
added : (old new more : List ℕ) (len : ℕ) → len ≡ length old → new ≡ old ++ more → drop len new ≡ more
added old new more len size is = ap (drop len) is ∙ drop_at old more len (sym size)

-- nothing was read
kept : (old new : List ℕ) (len : ℕ) → len ≡ length old → new ≡ old → new ≡ old ++ drop len new
kept old new len size same = rw (same, size) (grind (arith, common_steps))

-- what holds of the error that a call answered holds of the one that is handed on
told : {T : Type 0} {r : Result T the_data} {x y : the_data} (P : the_data → Type 0) → r ≡ Err x → x ≡ y → P y
    → IfErr r P
told P failed same holds = rw failed (subst P (sym same) holds)

pub returns-in_err-count : goal.returns-in_err-count
returns-in_err-count g c =
    let limit = c.in_err-count.ensures.limit in
    let gives = err_from_is_err_and c.from_residual.result c.from_residual.ensures.1 in
    record {
      room = refl;
      bound = omega (arith, c.requires.less);
      count = rw gives.1 tt;
      kept = kept _ _ _ c.args.bytes.now.ok.0 refl;
      given = rw gives.1 tt;
      end = λ ended. absurd (no_answer gives.1 ended);
      fine = rw gives.1 tt;
      some = rw gives.1 tt;
      made = rw gives.1 tt;
      fault = told (IsNoRead g.R.Source.read_failures c.args.reads.now.made c.args.reader.now c.args.reader.now) gives.1
          (gives.2 ∙ limit.0) (limit.1, refl);
    }

pub returns-in_err-count-2 : goal.returns-in_err-count-2
returns-in_err-count-2 g c =
    let fault = c.in_err-count-2.ensures.fault in
    let gives = err_from_is_err_and c.from_residual-in_err-count-2.result c.from_residual-in_err-count-2.ensures.1 in
    record {
      room = c.read_into.ensures.len;
      bound = omega (arith, c.requires.less);
      count = rw gives.1 tt;
      kept = kept _ _ _ c.args.bytes.now.ok.0 refl;
      given = rw gives.1 tt;
      end = λ ended. absurd (no_answer gives.1 ended);
      fine = rw gives.1 tt;
      some = rw gives.1 tt;
      made = rw gives.1 tt;
      fault = told (IsNoRead g.R.Source.read_failures c.args.reads.now.made c.args.reader.now c.read_into.new.reader)
          gives.1 (gives.2 ∙ fault.0) fault.1;
    }

pub returns-in_err-extend_from_slice : goal.returns-in_err-extend_from_slice
returns-in_err-extend_from_slice g c =
    let size = c.in_err-extend_from_slice.ensures.len in
    let gives =
    err_from_is_err_and c.from_residual-in_err-extend_from_slice.result
    c.from_residual-in_err-extend_from_slice.ensures.1 in
    record {
      room = c.read_into.ensures.len;
      bound = omega (arith, size, c.requires.less);
      count = rw gives.1 tt;
      kept = kept _ _ _ c.args.bytes.now.ok.0 c.in_err-extend_from_slice.ensures.items;
      given = rw gives.1 tt;
      end = λ ended. absurd (no_answer gives.1 ended);
      fine = rw gives.1 tt;
      some = rw gives.1 tt;
      made = rw gives.1 tt;
      fault = told (IsNoRead g.R.Source.read_failures c.args.reads.now.made c.args.reader.now c.read_into.new.reader)
          gives.1 gives.2 c.in_ok-count-2.ensures.fine;
    }

pub returns-clause-kept : goal.returns-clause-kept
returns-clause-kept g c =
    let is = c.in_ok-extend_from_slice.ensures.items in
    is ∙ ap (λ more. c.args.bytes.now.items ++ more) (sym (added _ _ _ _ c.args.bytes.now.ok.0 is))

pub returns-clause-given : goal.returns-clause-given
returns-clause-given g c =
    let is = c.in_ok-extend_from_slice.ensures.items in
    let given =
    subst (λ room. Consumes (g.R.Source.left c.args.reader.now) (g.R.Source.left c.read_into.new.reader)
    (slice_range room 0 c.in_ok-count-2.count)) (sym c.deref.ensures.value) c.in_ok-count-2.ensures.given in
    subst (Consumes (g.R.Source.left c.args.reader.now) (g.R.Source.left c.read_into.new.reader))
    (sym (added _ _ _ _ c.args.bytes.now.ok.0 is)) given
