use Rattle.std.proofs.Common.{◌≡◌, ℕ, List, [], ◌∷◌, ◌++◌, append_assoc, string_bytes, ap, ◌∙◌}
use Rattle.intake_core.proofs.cache.name_of.Goals as goal

-- a key, a line feed and a filer, written one behind another
joined : (t0 t1 t2 t3 key filer : List ℕ) → t0 ≡ [] → t1 ≡ t0 ++ key → t2 ≡ t1 ++ 10 ∷ [] → t3 ≡ t2 ++ filer
    → t3 ≡ key ++ 10 ∷ filer
joined t0 t1 t2 t3 key filer e0 e1 e2 e3 = rw (e3, e2, e1, e0) (append_assoc key (10 ∷ []) filer)

pub returns : goal.returns
returns c =
    let key = c.request.inside.key.now in
    let filer = c.request.inside.filer.now in
    rw (← c.request.view_is) (record {
      key' = c.as_str-key.ensures.key;
      joined =
          joined (string_bytes c.in_ok-name.name) (string_bytes c.push_str.new.self)
          (string_bytes c.push_str-2.new.self) (string_bytes c.push_str-3.new.self) key filer
          c.in_ok-name.ensures.bytes
          (c.in_ok-push_str.ensures.bytes
          ∙ ap (λ (key : List ℕ). string_bytes c.in_ok-name.name ++ key) c.as_str-key.ensures.value)
          c.in_ok-push_str-2.ensures.bytes c.in_ok-push_str-3.ensures.bytes;
    })
