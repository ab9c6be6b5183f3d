use Rattle.std.proofs.Common.{◌≡◌, ◌<◌, ◌+◌, ◌-◌, ◌++◌, ◌∷◌, [], ℕ, suc, pos, length, map, replicate, take, get_or}
use Rattle.std.proofs.Common.{None, Option, Some, append-nil, append_assoc, ap, sym, ◌∙◌, arith}
use Rattle.std.proofs.lemmas.List.{map-append, take_all, take_more}
use Rattle.sqlite.specs.declared.types.Value.TheVariants.{Int}
use Rattle.sqlite.specs.Order.{column}
use Rattle.register_rows.specs.Received.{received_row}
use Rattle.register_rows.proofs.SegmentLemmas.{length_counted}
use Rattle.register_store.specs.Moments.{milliseconds_of}
use Rattle.register_store.proofs.DateLemmas.{moment_there, none_more, row_there}
use Rattle.register_store.proofs.select.moments.read_all.Goals as goal

pub loop-place-init : goal.loop-place-init
loop-place-init c =
    let none : length c.args.rows.now - length c.args.rows.now ≡ 0 = omega arith in
    ap (map milliseconds_of) c.new-list.ensures.items ∙ ap (λ n. replicate {A = Option ℕ} n None) (sym none)

pub loop-place-preserved : goal.loop-place-preserved
loop-place-preserved c =
    let many = c.loop-place._place - length c.args.rows.now in
    let next : suc many ≡ c.loop-place._place + 1 - length c.args.rows.now = omega (arith, c.loop-place.auto._place) in
    ap (map milliseconds_of) c.in_ok-push.ensures.items
    ∙ map-append milliseconds_of c.loop-place.list.items (None ∷ [])
    ∙ ap (λ ms. ms ++ None ∷ []) c.loop-place.invariant ∙ none_more many
    ∙ ap (λ n. replicate {A = Option ℕ} n None) next

pub loop-row-init : goal.loop-row-init
loop-row-init c undated dated many within are =
    let long : length c.args.rows.now ≡ length dated =
    ap length are ∙ length_counted received_row (undated + 1) dated in
    let last : c.loop-place._place - length c.args.rows.now ≡ undated =
    omega (arith, many, long, c.loop-place-test.false, c.loop-place.auto._place-end) in
    c.loop-place.invariant ∙ ap (λ n. replicate {A = Option ℕ} n None) last ∙ sym (append-nil _)

pub loop-row-preserved : goal.loop-row-preserved
loop-row-preserved c undated dated many within are =
    let i = c.loop-row.row-index in
    let row = c.row-item.result in
    let long : length c.args.rows.now ≡ length dated =
    ap length are ∙ length_counted received_row (undated + 1) dated in
    let low : i < length dated = omega (arith, long, c.loop-row-test.true) in
    let is : row ≡ received_row (undated + 1 + i) (get_or dated i 0) =
    c.row-item.is ∙ ap (λ rows. get_or rows i row) are ∙ row_there (undated + 1) i dated row low in
    let there : column row 1 ≡ Int (pos (get_or dated i 0)) = ap (λ r. column r 1) is in
    let told = c.in_ok-read_moment.ensures (get_or dated i 0) (moment_there dated i within low) there in
    ap (map milliseconds_of) c.in_ok-push-2.ensures.items
    ∙ map-append milliseconds_of c.loop-row.list.items (Some c.in_ok-read_moment.field-0 ∷ [])
    ∙ ap (λ ms. ms ++ Some c.in_ok-read_moment.field-0.milliseconds ∷ []) (c.loop-row.invariant undated dated many
    within are)
    ∙ append_assoc (replicate {A = Option ℕ} undated None) (map Some (take i dated)) _
    ∙ ap (λ ms. replicate {A = Option ℕ} undated None ++ ms) (ap (λ m. map Some (take i dated) ++ Some m ∷ []) told
    ∙ sym (ap (map Some) (take_more dated i 0 low) ∙ map-append Some (take i dated) (get_or dated i 0 ∷ [])))

pub returns : goal.returns
returns c undated dated many within are =
    let long : length c.args.rows.now ≡ length dated =
    ap length are ∙ length_counted received_row (undated + 1) dated in
    c.loop-row.invariant undated dated many within are
    ∙ ap (λ ms. replicate {A = Option ℕ} undated None ++ map Some ms)
    (take_all c.loop-row.row-index dated (omega (arith, long, c.loop-row-test.false)))
