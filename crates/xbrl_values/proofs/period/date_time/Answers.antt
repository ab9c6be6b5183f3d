use Rattle.std.proofs.Common.{◌≡◌, ◌∙◌, to_z, pos, w8, w16, arith}
use Rattle.std.proofs.lemmas.Int.{to_z_pos}
use Rattle.xbrl_values.proofs.Calendar.{exists}
use Rattle.xbrl_values.proofs.period.date_time.Goals as goal

pub returns-clause-form : goal.returns-clause-form
returns-clause-form c =
    let a = c.args in
    let year : to_z w16 a.year ≡ pos a.year = to_z_pos w16 a.year (omega (arith, c.requires.year)) in
    let month : to_z w8 a.month ≡ pos a.month = to_z_pos w8 a.month (omega (arith, c.requires.month)) in
    let day : to_z w8 a.day ≡ pos a.day = to_z_pos w8 a.day (omega (arith, c.requires.day)) in
    let hour : to_z w8 a.hour ≡ pos a.hour = to_z_pos w8 a.hour (omega (arith, c.requires.hour)) in
    let minute : to_z w8 a.minute ≡ pos a.minute = to_z_pos w8 a.minute (omega (arith, c.requires.minute)) in
    let second : to_z w8 a.second ≡ pos a.second = to_z_pos w8 a.second (omega (arith, c.requires.second)) in
    c.ok.ensures.variant ∙ exists _ a.year a.month a.day a.hour a.minute a.second c.requires.year
    (simp (year, month, day, hour, minute, second) at c.new.ensures.succeeds)
