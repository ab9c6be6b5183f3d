-- What the first request of a filer and key is told, and what the same is told again.
use Rattle.std.proofs.Common.{◌≡◌, ◌≤◌, true, false, List, [], ◌∷◌, length, refl, ap, ◌∙◌}
use Rattle.std.proofs.Common.{arith}
use Rattle.std.proofs.lemmas.Slice.Eq.{bytes_eq-Decides}
use Rattle.http_messages.specs.Reply.{render}
use Rattle.http_messages.specs.Response.{IsReadable}
use Rattle.filing_model.specs.Request.{Request, same_key, has_key, firsts}
use Rattle.filing_model.specs.Register.{filings, verdict, kept_after, register}
use Rattle.filing_model.specs.Answer.{Answer, answer, as_repeat}
use Rattle.filing_model.specs.declared.served.Style.TheVariants.{Problem}
use Rattle.filing_model.specs.Reply.{reply_of}
use Rattle.filing_model.specs.Outbox.{Open, Confirmed, moved}
use Rattle.filing_model.proofs.Answers.{answer_stable, answer_new, reply_as-as_repeat}
use Rattle.xbrl_report.proofs.FindingLaws.{free-findings}
use Rattle.filing_model.proofs.Finals.{answer-readable, told-confirms}
use Rattle.filing_model.proofs.Firsts.{firsts_short}
use Rattle.filing_model.proofs.Keeping.{register_repeat}
use Rattle.filing_world.specs.Schedules.{IsGood, filing_of, registered_bytes}

module _ (r : Request) (good : IsGood r) where
  answer_first : answer [] r ≡ Answer.Registered 1 false
  unfolding firsts kept_after filings verdict
  answer_first = answer_new [] r refl ∙ rw (good.untargeted, free-findings r.filer r.body, good.valid) refl

  registered_one : register (r ∷ []) ≡ filing_of r ∷ []
  unfolding firsts kept_after filings verdict
  registered_one = rw (good.untargeted, free-findings r.filer r.body, good.valid) refl

  answer_again : (more : List Request) → answer (r ∷ more) r ≡ Answer.Registered 1 true
  answer_again more = answer_stable [] r more ∙ ap as_repeat answer_first

  pub told_again : (more : List Request) → moved Open (reply_of (answer (r ∷ more) r)) ≡ Confirmed 1
  told_again more =
      ap (λ a. moved Open (reply_of a)) (answer_again more) ∙ told-confirms Problem 1 true (omega arith) (omega arith)

  pub written_again : (more : List Request) → render (reply_of (answer (r ∷ more) r)) true ≡ registered_bytes
  written_again more =
      ap (λ a. render (reply_of a) true) (answer_again more)
      ∙ ap (λ x. render x true) (reply_as-as_repeat Problem (Answer.Registered 1 false))

  same : same_key r r ≡ true
  same = rw ((bytes_eq-Decides r.filer r.filer).1 refl, (bytes_eq-Decides r.key r.key).1 refl) refl

  pub known : (more : List Request) → has_key (r ∷ more) r ≡ true
  known more = rw same refl

  pub registered_three : register (r ∷ r ∷ r ∷ []) ≡ filing_of r ∷ []
  registered_three =
      register_repeat (r ∷ r ∷ []) r (known (r ∷ [])) ∙ register_repeat (r ∷ []) r (known []) ∙ registered_one

-- the replies after at most two are read
pub readable_after : (done : List Request) (r : Request) → length done ≤ 2 → IsReadable (reply_of (answer done r))
readable_after done r few = answer-readable Problem done r (omega (arith, few, firsts_short done))
