-- What the columns of a record say of the dimensions of a fact.
use Rattle.std.proofs.Common.{◌≡◌, ℕ, List, Bool, true, false, true≢false, cond, bytes_eq, Some, option_map}
use Rattle.std.proofs.Common.{refl, sym, ap, ◌∙◌}
use Rattle.std.specs.Prelude.{option_and_then}
use Rattle.std.specs.Cmp.Lexicographic.{same_text}
use Rattle.serde_json.specs.Data.{Data, null, boolean, number, string, array, object, Members, no_members, member}
use Rattle.serde_json.specs.Find.{as_str, get_member}
use Rattle.json_tree.proofs.Views.{get_member-first}
use Rattle.xbrl_report.specs.Dimension.{is_core}
use Rattle.xbrl_report.specs.Tree.{is_text}
use Rattle.register_extracts.specs.Dimensions.{AgreeInColumns, AreDimensions, others}

text_alone : (d : Data) → is_text (Some d) ≡ true → Some d ≡ option_map string (as_str d)
text_alone null is = absurd (true≢false (sym is))
text_alone (boolean b) is = absurd (true≢false (sym is))
text_alone (number n) is = absurd (true≢false (sym is))
text_alone (string s) is = refl
text_alone (array ds) is = absurd (true≢false (sym is))
text_alone (object ms) is = absurd (true≢false (sym is))

-- the value of a core dimension is the text in its column
core_text : (ms : Members) → AreDimensions ms → (name : List ℕ) → is_core name ≡ true
    → get_member name ms ≡ option_map string (option_and_then as_str (get_member name ms))
core_text no_members are name core = refl
core_text (member k d ms) are name core =
    rw (get_member-first name k d ms) (go (core_text ms are.1 name core) (bytes_eq name k) refl)
  where
    go : get_member name ms ≡ option_map string (option_and_then as_str (get_member name ms)) → (b : Bool)
        → bytes_eq name k ≡ b → cond b (Some d) (get_member name ms)
        ≡ option_map string (option_and_then as_str (cond b (Some d) (get_member name ms)))
    go rest true same =
        let its : is_core k ≡ true = ap is_core (sym (same_text name k (sym same))) ∙ core in
        text_alone d (rw its at are.0)
    go rest false other = rest

-- the value of another dimension is in the object
other_kept : (ms : Members) → AreDimensions ms → (name : List ℕ) → is_core name ≡ false
    → get_member name (others ms) ≡ get_member name ms
other_kept no_members are name other = refl
other_kept (member k d ms) are name other = by (other_kept ms are.1 name other) (is_core k) refl
  where
    differs : is_core k ≡ true → (b : Bool) → bytes_eq name k ≡ b → b ≡ false
    differs core true same =
        absurd (true≢false (sym core ∙ ap is_core (sym (same_text name k (sym same))) ∙ other))
    differs core false is = refl

    by : get_member name (others ms) ≡ get_member name ms → (b : Bool) → is_core k ≡ b
        → get_member name (others (member k d ms)) ≡ get_member name (member k d ms)
    by rest true core = rw (core, get_member-first name k d ms, differs core (bytes_eq name k) refl) rest
    by rest false plain =
        let shown = rw plain at are.0 in
        rw (plain, shown, get_member-first name k d (others ms), get_member-first name k d ms)
        (ap (λ found. cond (bytes_eq name k) (Some d) found) rest)

pub agree_in_each : (ms ns : Members) → AreDimensions ms → AreDimensions ns → AgreeInColumns ms ns → (name : List ℕ)
    → get_member name ms ≡ get_member name ns
agree_in_each ms ns first second agree name = by (is_core name) refl
  where
    by : (b : Bool) → is_core name ≡ b → get_member name ms ≡ get_member name ns
    by true core =
        core_text ms first name core ∙ ap (option_map string) (agree.core name core)
        ∙ sym (core_text ns second name core)
    by false other =
        sym (other_kept ms first name other) ∙ ap (get_member name) agree.others ∙ other_kept ns second name other
