-- What went on the connections of runs, as far as their network recorded it.
use Rattle.std.proofs.Common.{◌≡◌, ◌∙◌, List, [], ◌∷◌, ◌++◌, map, Option, Some, None, refl, sym, ap, subst}
use Rattle.std.proofs.Common.{append_assoc}
use Rattle.std.proofs.lemmas.List.{map-append}
use Rattle.filing_model.proofs.Lists.{append_nil}
use Rattle.filing_model.specs.Prefix.{IsPrefixOf}
use Rattle.outbox_process.specs.Dials.{Output, Traffic, Grows}
use Rattle.outbox_process.specs.declared.target.Target.{Target}
use Rattle.outbox_commands.specs.declared.putting.ReportFile.{ReportFile}
use Rattle.program_runs.specs.Deeds.{Deed, Added, Wrote, Heard, Asked}
use Rattle.program_runs.specs.Runs.{AreOfNetwork, putting, written_in}

none_more : (over : Option (List Output)) → Grows over over []
none_more None = tt
none_more (Some outputs) = (outputs, refl, sym (append_nil outputs))

-- no connection was made
pub no_deeds : (net net' : Traffic) → net' ≡ net → AreOfNetwork net net' []
no_deeds net net' same =
    ([], subst (λ (n : Traffic). Grows net.over n.over []) (sym same) (none_more net.over), refl)

grow_join : (a b c : Option (List Output)) (first second : List Output) → Grows a b first → Grows b c second
    → Grows a c (first ++ second)
grow_join a b None first second one two = tt
grow_join a b (Some outputs) first second one two =
    let was = subst (λ o. Grows a o first) two.1 one in (
      was.0,
      was.1,
      two.2 ∙ ap (λ front. front ++ second) was.2 ∙ append_assoc was.0 first second,
    )

written_join : (first second : List Deed) → written_in (first ++ second) ≡ written_in first ++ written_in second
written_join [] second = refl
written_join (Added key target body ∷ first) second = written_join first second
written_join (Wrote id written ∷ first) second = ap (λ rest. written ∷ rest) (written_join first second)
written_join (Heard id asks read to ∷ first) second = written_join first second
written_join (Asked written ∷ first) second = ap (λ rest. written ∷ rest) (written_join first second)

-- some deeds, and then more
pub deeds_join : (a b c : Traffic) (first second : List Deed) → AreOfNetwork a b first → AreOfNetwork b c second
    → AreOfNetwork a c (first ++ second)
deeds_join a b c first second one two = (
  one.0 ++ two.0,
  grow_join a.over b.over c.over one.0 two.0 one.1 two.1,
  map-append (λ (o : Output). o.bytes) one.0 two.0 ∙ ap (λ front. front ++ map (λ (o : Output). o.bytes) two.0) one.2
      ∙ ap (λ back. written_in first ++ back) two.2 ∙ sym (written_join first second),
)

left_nil : {X : Type 0} (a b : List X) → [] ≡ a ++ b → a ≡ []
left_nil [] b is = refl
left_nil (x ∷ a) b is = absurd (cc)

puts_write_none : (target : Target) (reports : List ReportFile) → written_in (putting target reports) ≡ []
puts_write_none target [] = refl
puts_write_none target (report ∷ reports) = puts_write_none target reports

-- entries were put in, and no connection was made
pub put_deeds : (net net' : Traffic) (target : Target) (reports : List ReportFile) (deeds : List Deed) → net' ≡ net
    → IsPrefixOf deeds (putting target reports) → AreOfNetwork net net' deeds
put_deeds net net' target reports deeds same first =
    let none = no_deeds net net' same in
    let all : [] ≡ written_in deeds ++ written_in first.0 =
    sym (puts_write_none target reports) ∙ ap written_in first.1 ∙ written_join deeds first.0 in
    (none.0, none.1, none.2 ∙ sym (left_nil (written_in deeds) (written_in first.0) all))
