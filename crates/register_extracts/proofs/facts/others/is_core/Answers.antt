use Rattle.std.proofs.Common.{refl, sym}
use Rattle.xbrl_report.specs.Dimension.{is_core}
use Rattle.xbrl_report.proofs.NamedDimensions.{other_name}
use Rattle.register_extracts.proofs.facts.others.is_core.Goals as goal

pub returns-in-concept : goal.returns-in-concept
unfolding is_core
returns-in-concept c = rw c.in-concept.is refl

pub returns-in-entity : goal.returns-in-entity
unfolding is_core
returns-in-entity c = rw c.in-entity.is refl

pub returns-in-period : goal.returns-in-period
unfolding is_core
returns-in-period c = rw c.in-period.is refl

pub returns-in-unit : goal.returns-in-unit
unfolding is_core
returns-in-unit c = rw c.in-unit.is refl

pub returns-in-language : goal.returns-in-language
unfolding is_core
returns-in-language c = rw c.in-language.is refl

pub returns-in-noteId : goal.returns-in-noteId
unfolding is_core
returns-in-noteId c = rw c.in-noteId.is refl

pub returns-in_default : goal.returns-in_default
returns-in_default c =
    let none = c.in_default in
    sym (other_name c.args.name.now none.not-concept none.not-entity none.not-period none.not-unit none.not-language
    none.not-noteId)
