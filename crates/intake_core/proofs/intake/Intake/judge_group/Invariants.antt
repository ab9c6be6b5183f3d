use Rattle.std.proofs.Common.{◌≡◌, ◌≤◌, ◌<◌, ◌+◌, ◌⊎◌, true, take, length, IsTrue}
use Rattle.std.specs.List.{AllZip}
use Rattle.intake_core.specs.Together.{AreNewBehind, IsJudgedAlone, LooksUp}
use Rattle.intake_core.specs.Looked.{AreNewIf, WasOpen}
use Rattle.intake_core.specs.Held.{ForRequests, limit_of, shows, store_of}
use Rattle.intake_core.proofs.intake.Intake.judge_group.Given as goal

-- the first ones may be kept together
abbrev pub invariant-loop-at : goal.invariant-loop-at
invariant-loop-at g l = record {
  many : length l.group.items ≡ l.at;
  judged : AllZip IsJudgedAlone (take l.at l.requests) l.group.items;
  new : ForRequests g.S.Store l.fn.self l.self (λ F. AreNewIf l.are_new l.requests F
      → AreNewBehind F (take l.at l.requests));
  is_open : ForRequests g.S.Store l.fn.self l.self (λ F. AreNewIf l.are_new l.requests F
      → WasOpen g.S.Store l.are_new l.fn.self → (l.are_new ≡ true) ⊎ (0 < l.at)
      → IsTrue (shows g.S.Store l.self).is_open);
  limit : 0 < l.at → (store_of l.self).kept + l.at ≤ limit_of l.self;
  looks : LooksUp g.S.Store l.fn.self l.self;
}
