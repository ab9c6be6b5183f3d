-- Requests that are to be kept.
use Rattle.std.specs.Prelude.{◌≡◌, ◌≤◌, true, false, List, [], ◌∷◌, ◌++◌, length}
use Rattle.key_string.specs.Filer.{is_filer}
use Rattle.http_messages.specs.Head.{max_body_len}
use Rattle.http_messages.specs.Posting.{IsTarget}
use Rattle.xbrl_report.specs.Judgement.{HasFacts, IsAmendmentJudgement}
use Rattle.filing_model.specs.Request.{Request, has_key}
use Rattle.filing_model.specs.Register.{is_free, register}
use Rattle.filing_model.specs.Views.{the_request}
use Rattle.register_store.specs.declared.outcome.NewRow.{NewRow}

-- the request of a row
abbrev pub request_of : NewRow → Request
request_of row = the_request row.filer.now row.key.now row.target row.body.now

-- A request that may be kept: its filer is a filer code, its target, if any, a number that a filing may have, its body
-- has at most 1,048,576 bytes, and a valid report has the body's facts. What a key has to be, its type says.
pub record IsKeepable (row : NewRow) : Type 0 where
  pub filer : is_filer row.filer.now ≡ true
  pub target : IsTarget row.target
  pub body : length row.body.now ≤ max_body_len
  pub facts : HasFacts row.body.now row.judged.now

-- The filer and key are new after these requests, and the report was judged by whether the filing that it is to
-- replace, if any, is free after them.
pub record IsNew (F : List Request) (row : NewRow) : Type 0 where
  pub key : has_key F (request_of row) ≡ false
  pub judged : IsAmendmentJudgement row.filer.now row.body.now (is_free (register F) row.filer.now row.target)
      row.judged.now

-- each is new after these requests and those before it
abbrev pub AreNew : List Request → List NewRow → Type 0
AreNew F [] = Unit {0}
AreNew F (row ∷ rows) = IsNew F row × AreNew (F ++ request_of row ∷ []) rows
