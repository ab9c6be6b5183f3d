-- Reports whose findings are printed one behind another.
use Rattle.std.proofs.Common.{◌≡◌, ◌∙◌, ℕ, suc, max, ◌+◌, ◌<◌, ◌≤◌, Bool, true, false, ◌||◌, ◌⊎◌, List, [], ◌∷◌, ◌++◌}
use Rattle.std.proofs.Common.{map, take, drop, length, get_or, Option, Ok, Err, refl, sym, ap, subst, inl, inr}
use Rattle.std.proofs.Common.{arith}
use Rattle.std.proofs.Math.Seq.{drop-cons}
use Rattle.std.proofs.Math.Nat.{max-zero, zero-max}
use Rattle.std.proofs.lemmas.List.{map-append, take_more, take_all, take-append-drop, append_assoc, append-nil}
use Rattle.finding_lines.specs.declared.form.Form.{Form}
use Rattle.command_line.specs.declared.fault.CommandFault.{CommandFault}
use Rattle.command_line.specs.declared.fault.CommandFault.TheVariants.{Output}
use Rattle.finding_lines.specs.declared.linting.Linted.{Linted}
use Rattle.finding_lines.specs.Linting.{Look, names_of, is_found, have_any, fault_of, unread_of, PrintsRead, PrintsEach}
use Rattle.finding_lines.specs.Linting.{LintsFile, LintsFiles, greatest}

or_or : (a b c : Bool) → (a || (b || c)) ≡ ((a || b) || c)
or_or true b c = refl
or_or false b c = refl

pub or_false : (a : Bool) → (a || false) ≡ a
or_false true = refl
or_false false = refl

pub or_then : (a b r : Bool) → r ≡ a → a ≡ true → r ≡ (a || b)
or_then true b r same is = same
or_then false b r same is = absurd cc

pub or_else : (a b r : Bool) → r ≡ b → a ≡ false → r ≡ (a || b)
or_else true b r same is = absurd cc
or_else false b r same is = same

have_any-more : (filer : List ℕ) (looks : List Look) (next : Look)
    → have_any filer (looks ++ next ∷ []) ≡ (have_any filer looks || is_found filer next.1)
have_any-more filer [] next = or_false (is_found filer next.1)
have_any-more filer (look ∷ looks) next =
    let first = is_found filer look.1 in
    ap (λ b. first || b) (have_any-more filer looks next) ∙ or_or first (have_any filer looks) (is_found filer next.1)

unread_of-more : (looks : List Look) (next : Look)
    → unread_of (looks ++ next ∷ []) ≡ unread_of looks ++ fault_of next.1
unread_of-more [] next = append-nil (fault_of next.1)
unread_of-more (look ∷ looks) next =
    ap (λ l. fault_of look.1 ++ l) (unread_of-more looks next)
    ∙ sym (append_assoc (fault_of look.1) (unread_of looks) (fault_of next.1))

printed-more : (form : Form) (filer : List ℕ) (looks : List Look) (next : Look) (out mid out' : Option (List ℕ))
    → PrintsEach form filer looks out mid → PrintsRead form filer next.0 next.1 mid out'
    → PrintsEach form filer (looks ++ next ∷ []) out out'
printed-more form filer [] next out mid out' before here =
    (out', subst (λ o. PrintsRead form filer next.0 next.1 o out') before here, refl)
printed-more form filer (look ∷ looks) next out mid out' before here =
    (before.0, before.1, printed-more form filer looks next before.0 mid out' before.2 here)

first_of : {X : Type 0} → (xs : List X) → 0 < length xs → X
first_of [] some = absurd (omega arith)
first_of (x ∷ xs) some = x

module _ {X : Type 0} (name : X → List ℕ) (form : Form) (filer : List ℕ) (files : List X) where
  -- the first files were looked at
  pub record LintsFirst (count : ℕ) (out out' : Option (List ℕ)) (linted : Linted) : Type 0 where
    pub looks : List Look
    pub names : names_of looks ≡ map name (take count files)
    pub printed : PrintsEach form filer looks out out'
    pub found : linted.is_found ≡ have_any filer looks
    pub unread : linted.unread.items ≡ unread_of looks

  pub none : (out : Option (List ℕ)) (linted : Linted) → linted.is_found ≡ false → linted.unread.items ≡ []
      → LintsFirst 0 out out linted
  none out linted found unread =
      record { looks = []; names = refl; printed = refl; found = found; unread = unread }

  pub more : (count : ℕ) (d : X) (out mid out' : Option (List ℕ)) (old new : Linted) → count < length files
      → LintsFirst count out mid old
      → LintsFile form filer (name (get_or files count d)) mid out' old new (Ok tt)
      → LintsFirst (count + 1) out out' new
  more count d out mid out' old new within a b =
      let file = get_or files count d in
      let next : Look = (name file, b.0) in
      record {
        looks = a.looks ++ next ∷ [];
        names =
            map-append (λ (l : Look). l.0) a.looks (next ∷ []) ∙ ap (λ n. n ++ name file ∷ []) a.names
            ∙ sym (map-append name (take count files) (file ∷ []))
            ∙ ap (map name) (sym (take_more files count d within));
        printed = printed-more form filer a.looks next out mid out' a.printed b.1;
        found =
            b.2 ∙ ap (λ x. x || is_found filer b.0) a.found ∙ sym (have_any-more filer a.looks next);
        unread = b.3 ∙ ap (λ x. x ++ fault_of b.0) a.unread ∙ sym (unread_of-more a.looks next);
      }

  pub all : (count : ℕ) (out out' : Option (List ℕ)) (linted : Linted) → length files ≤ count
      → LintsFirst count out out' linted → LintsFiles form filer (map name files) out out' (Ok linted)
  all count out out' linted least a =
      (a.looks, a.names ∙ ap (map name) (take_all count files least), a.printed, a.found, a.unread)

  pub broken : (count : ℕ) (out mid out' : Option (List ℕ)) (linted : Linted) (fault : CommandFault)
      → count < length files → LintsFirst count out mid linted
      → (fault ≡ Output) ⊎ (out' ≡ mid) → LintsFiles form filer (map name files) out out' (Err fault)
  broken count out mid out' linted fault within a (inl output) = inl output
  broken count out mid out' linted fault within a (inr quiet) =
      let d = first_of files (omega arith) in
      let file = get_or files count d in
      let splits : files ≡ take count files ++ file ∷ drop (suc count) files =
      sym (take-append-drop count files) ∙ ap (λ l. take count files ++ l) (drop-cons files count d within) in
      inr (
        a.looks,
        name file,
        map name (drop (suc count) files),
        ap (map name) splits ∙ map-append name (take count files) (file ∷ drop (suc count) files)
            ∙ ap (λ n. n ++ name file ∷ map name (drop (suc count) files)) (sym a.names),
        subst (PrintsEach form filer a.looks out) (sym quiet) a.printed,
      )

-- ---- the greatest of some statuses

max-max : (a b c : ℕ) → max (max a b) c ≡ max a (max b c)
max-max a b c = omega arith

greatest-more : (statuses : List ℕ) (next : ℕ) → greatest (statuses ++ next ∷ []) ≡ max (greatest statuses) next
greatest-more [] next = max-zero next ∙ sym (zero-max next)
greatest-more (status ∷ statuses) next =
    ap (max status) (greatest-more statuses next) ∙ sym (max-max status (greatest statuses) next)

-- one more is taken up
pub greatest_step : {X : Type 0} (status_of : X → ℕ) (first : ℕ) (items : List X) (count : ℕ) (d : X) (so_far : ℕ)
    → count < length items → so_far ≡ max first (greatest (map status_of (take count items)))
    → max so_far (status_of (get_or items count d)) ≡ max first (greatest (map status_of (take (count + 1) items)))
greatest_step status_of first items count d so_far within was =
    let item = get_or items count d in
    let before = map status_of (take count items) in
    let is : map status_of (take (count + 1) items) ≡ before ++ status_of item ∷ [] =
    ap (map status_of) (take_more items count d within)
    ∙ map-append status_of (take count items) (item ∷ []) in
    ap (λ n. max n (status_of item)) was ∙ max-max first (greatest before) (status_of item)
    ∙ ap (max first) (sym (greatest-more before (status_of item)) ∙ ap greatest (sym is))
