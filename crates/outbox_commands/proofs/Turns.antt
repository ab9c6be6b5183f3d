-- Reports are put in, one after another.
use Rattle.std.proofs.Common.{◌≡◌, ◌∙◌, ℕ, suc, ◌<◌, List, [], ◌∷◌, ◌++◌, map, take, drop, length, get_or, Option}
use Rattle.std.proofs.Common.{Some, IsSome, Result, Ok, Err, refl, sym, ap, subst, inl, inr}
use Rattle.std.proofs.Math.Seq.{drop-cons}
use Rattle.std.proofs.lemmas.List.{map-append, take-append-drop, map-id}
use Rattle.sqlite_disk.specs.declared.Disk.{Ghosts}
use Rattle.outbox_process.specs.Dials.{Traffic}
use Rattle.outbox_process.specs.declared.fault.Why.{Why}
use Rattle.database_places.specs.Places.{IsHonest}
use Rattle.outbox_process.specs.declared.errand.Done.{Done}
use Rattle.outbox_process.specs.declared.errand.Errand.{Errand}
use Rattle.outbox_process.specs.declared.errand.Errand.TheVariants.{Put}
use Rattle.outbox_process.specs.declared.target.Target.{Target}
use Rattle.outbox_process.specs.Process.{Parts, Leaves, PerformsErrand}
use Rattle.outbox_commands.specs.Puts.{PutsOne, PutsInTurn, ended_as}

-- ---- they are put in

pub some_open : {A : Type 0} (o : Option A) (x : A) → o ≡ Some x → IsSome o
some_open o x is = subst IsSome (sym is) refl

module _ {D : Type 0} {g : Ghosts D} where
  pub stays : (process : Parts g) → Leaves process process
  stays process = record { kept = λ it keeps. keeps; certain = λ sure. sure }

  -- nothing goes over the network
  pub puts_one : (key : List ℕ) (target : Target) (body : _) (net net' : Traffic) (out out' : Option (List ℕ))
      (old done new : Parts g) (came : Result Done Why) (ended : Result (Unit {0}) Why)
      → PerformsErrand (Put key target body) net net' out out' old done came → (IsHonest g → Leaves done new)
      → ended ≡ ended_as came → PutsOne (Put key target body) net out out' old new ended
  puts_one key target body net net' out out' old done new came ended performs looks ends = record {
    done = done;
    came = came;
    performs = subst (λ n. PerformsErrand (Put key target body) net n out out' old done came) performs.does.1 performs;
    looks = looks;
    ends = ends;
  }

module _ {D : Type 0} {g : Ghosts D} (net : Traffic) where
  pub one_more : (puts : List Errand) (put : Errand) (out mid out' : Option (List ℕ)) (old between new : Parts g)
      → PutsInTurn puts net out mid old between (Ok tt) → PutsOne put net mid out' between new (Ok tt)
      → PutsInTurn (puts ++ put ∷ []) net out out' old new (Ok tt)
  one_more [] put out mid out' old between new before one =
      inl (
        out',
        new,
        subst (λ o. PutsOne put net o out' old new (Ok tt)) before.0
            (subst (λ p. PutsOne put net mid out' p new (Ok tt)) before.1 one),
        (refl, refl, refl),
      )
  one_more (first ∷ puts) put out mid out' old between new (inl before) one =
      inl (before.0, before.1, before.2, one_more puts put before.0 mid out' before.1 between new before.3 one)
  one_more (first ∷ puts) put out mid out' old between new (inr failed) one =
      absurd (let unlike : Ok tt ≡ Err failed.0 = failed.2 in cc)

  pub one_failed : (puts : List Errand) (put : Errand) (rest : List Errand) (out mid out' : Option (List ℕ))
      (old between new : Parts g) (why : Why) → PutsInTurn puts net out mid old between (Ok tt)
      → PutsOne put net mid out' between new (Err why)
      → PutsInTurn (puts ++ put ∷ rest) net out out' old new (Err why)
  one_failed [] put rest out mid out' old between new why before one =
      inr (
        why,
        subst (λ o. PutsOne put net o out' old new (Err why)) before.0
            (subst (λ p. PutsOne put net mid out' p new (Err why)) before.1 one),
        refl,
      )
  one_failed (first ∷ puts) put rest out mid out' old between new why (inl before) one =
      inl (
        before.0,
        before.1,
        before.2,
        one_failed puts put rest before.0 mid out' before.1 between new why before.3 one,
      )
  one_failed (first ∷ puts) put rest out mid out' old between new why (inr failed) one =
      absurd (let unlike : Ok tt ≡ Err failed.0 = failed.2 in cc)

  module _ {X : Type 0} (put_of : X → Errand) (items : List X) where
    -- one more of these items is put in
    pub next_put : (done : List X) (x : X) (out mid out' : Option (List ℕ)) (old between new : Parts g)
        → PutsInTurn (map put_of done) net out mid old between (Ok tt)
        → PutsOne (put_of x) net mid out' between new (Ok tt)
        → PutsInTurn (map put_of (done ++ x ∷ [])) net out out' old new (Ok tt)
    next_put done x out mid out' old between new before one =
        subst (λ puts. PutsInTurn puts net out out' old new (Ok tt)) (sym (map-append put_of done (x ∷ [])))
        (one_more (map put_of done) (put_of x) out mid out' old between new before one)

    -- the item behind these is not
    pub next_failed : (done : List X) (x : X) (out mid out' : Option (List ℕ)) (old between new : Parts g)
        (why : Why) → length done < length items → x ≡ get_or items (length done) x
        → map (λ (y : X). y) done ≡ take (length done) items
        → PutsInTurn (map put_of done) net out mid old between (Ok tt)
        → PutsOne (put_of x) net mid out' between new (Err why)
        → PutsInTurn (map put_of items) net out out' old new (Err why)
    next_failed done x out mid out' old between new why within here so_far before one =
        let count = length done in
        let rest = drop (suc count) items in
        let splits : items ≡ done ++ x ∷ rest =
        sym (take-append-drop count items)
        ∙ ap (λ l. l ++ drop count items) (sym so_far ∙ map-id done)
        ∙ ap (λ l. done ++ l) (drop-cons items count x within ∙ ap (λ y. y ∷ rest) (sym here)) in
        subst (λ puts. PutsInTurn puts net out out' old new (Err why))
        (sym (ap (map put_of) splits ∙ map-append put_of done (x ∷ rest)))
        (one_failed (map put_of done) (put_of x) (map put_of rest) out mid out' old between new why before one)
