-- What an exchange reads behind a front, and a report that is confirmed behind one which rewrites it and its answer.
use Rattle.std.proofs.Common.{◌≡◌, ◌∙◌, ℕ, ◌<◌, true, List, [], ◌∷◌, length, Option, Some, refl, sym, subst, inr, inl}
use Rattle.std.proofs.Common.{arith, None, ap, Bool, false, not}
use Rattle.std.proofs.lemmas.Bool.{le-leb}
use Rattle.http_messages.specs.Head.{max_body_len}
use Rattle.http_messages.specs.Reply.{render}
use Rattle.http_messages.specs.Response.{SpellsReply}
use Rattle.http_messages.proofs.ReplyRead.{reply-spells}
use Rattle.filing_model.specs.declared.served.Mark.TheVariants.{Done}
use Rattle.filing_model.specs.declared.served.Style.TheVariants.{Problem}
use Rattle.filing_model.specs.Answer.{Answer, answer}
use Rattle.filing_model.specs.Outbox.{State, Open, Confirmed, moved, request_of, bytes_of}
use Rattle.filing_model.specs.Register.{filings, kept_after, verdict}
use Rattle.filing_model.specs.Reply.{reply_of}
use Rattle.filing_model.specs.Request.{Request, firsts}
use Rattle.filing_model.proofs.Answers.{answer_new}
use Rattle.filing_model.proofs.Finals.{told-confirms}
use Rattle.filing_model.proofs.Firsts.{firsts_none}
use Rattle.filing_model.proofs.Lists.{prefix_refl, take_all}
use Rattle.xbrl_report.proofs.FindingLaws.{free-findings}
use Rattle.filing_world.specs.Schedules.{IsGood}
use Rattle.filing_world.specs.World.{numbered, renewed}
use Rattle.filing_world.proofs.Told.{readable_after}
use Rattle.outbox_tables.specs.Entries.{Contents, contents_of, empty}
use Rattle.outbox_core.specs.Entries.{opened, set_state}
use Rattle.filer_client.specs.Exchange.{IsOpenRequest, Hears}
use Rattle.gateway_server.specs.Connections.{Connection}
use Rattle.programs.specs.Deliveries.{Delivery}
use Rattle.programs.specs.Fronts.{IsFront, IsHearingThrough, IsRewritten, IsGivenBack, passed_once, MayConfirm}
use Rattle.programs.specs.Fronts.{piece_end}
use Rattle.programs.specs.Happenings.{Situation, at_first, IsPutting, IsWriting, IsServing}
use Rattle.programs.proofs.Behind.{same_state}
use Rattle.programs.proofs.Told.{served_alone}
use Rattle.filing_model.specs.Serving.{keeping, Serves}

-- ---- what the first request of a filer and key gets

answer_first : (r : Request) → IsGood r → answer [] r ≡ Answer.Registered 1 false
unfolding firsts kept_after filings verdict
answer_first r good = answer_new [] r refl ∙ rw (good.untargeted, free-findings r.filer r.body, good.valid) refl

told_first : (r : Request) → IsGood r → moved Open (reply_of (answer [] r)) ≡ Confirmed 1
told_first r good =
    ap (λ a. moved Open (reply_of a)) (answer_first r good)
    ∙ told-confirms Problem 1 false (omega arith) (omega arith)

-- what an exchange reads
pub heard_through : (old : Situation) (outbox id : ℕ) (contents : Contents) (text bytes : List ℕ)
    (left : Option (List ℕ)) (to : State) → numbered old.outboxes outbox ≡ Some contents
    → (request : IsOpenRequest contents.filer contents.entries id text)
    → (hears : Hears (Some bytes) left (λ reply. to ≡ moved Open reply))
    → IsFront old (request_of contents.filer request.entry) hears.0
    → (new : Situation) × IsHearingThrough old outbox id hears.1.0 to new
heard_through old outbox id contents text bytes left to here request hears front = (
  record old { outboxes = renewed old.outboxes outbox (contents_of contents.filer (set_state contents.entries id to)) },
  record {
    contents = contents;
    here = here;
    text = text;
    request = request;
    reply = hears.0;
    gives = hears.1.2;
    front = front;
    moves = hears.2;
    becomes = refl;
  },
)

-- ---- a worked list

module _ (limit : ℕ) (some : 0 < limit) (r : Request) (good : IsGood r) (rewritten back : List ℕ) (keeps : Bool)
    (made : IsRewritten r rewritten keeps) (given : IsGivenBack (reply_of (answer [] r)) back) where
  out : List ℕ
  out = render (reply_of (answer [] r)) (not keeps)

  first : Situation
  first = at_first (r.filer ∷ [])

  put : Situation
  put = record first { outboxes = contents_of r.filer (opened r.key r.target r.body ∷ []) ∷ [] }

  wrote : Situation
  wrote = record put { sent = record { from = Some (1, 1); bytes = bytes_of r } ∷ [] }

  passed : Situation
  passed = record put {
    sent = record { from = Some (1, 1); bytes = bytes_of r } ∷ record { from = None; bytes = rewritten } ∷ [];
  }

  served : Situation
  served = record passed { requests = r ∷ []; answers = record { item = 2; bytes = out } ∷ [] }

  heard : Situation
  heard = record served {
    outboxes = contents_of r.filer (record {
      key = r.key;
      target = r.target;
      body = r.body;
      state = Confirmed 1;
    } ∷ []) ∷ [];
  }

  delivery : Delivery
  delivery = record { item = 2; given = length rewritten }

  connection : Connection
  connection =
      record { read = rewritten; output = record { marks = Done ∷ []; ended = piece_end keeps; bytes = out } }

  puts : IsPutting first 1 (opened r.key r.target r.body) put
  unfolding first put
  puts = record {
    contents = empty r.filer;
    here = refl;
    key = good.sendable.key;
    target = good.sendable.target;
    taken = rw (le-leb (length r.body) max_body_len good.sendable.body) refl;
    becomes = refl;
  }

  writes : IsWriting put 1 1 (bytes_of r) wrote
  unfolding first put wrote
  writes = record {
    contents = contents_of r.filer (opened r.key r.target r.body ∷ []);
    here = refl;
    text = bytes_of r;
    request = record { entry = opened r.key r.target r.body; at = refl; is_open = refl; bytes = refl };
    part = prefix_refl (bytes_of r);
    becomes = refl;
  }

  serves : (kept : Bool) → kept ≡ keeps
      → Serves (keeping limit [] [] (r ∷ [])) rewritten (Done ∷ []) (piece_end kept) (render (reply_of (answer [] r))
      (not kept))
  unfolding firsts
  serves true is =
      served_alone limit [] (r ∷ []) r rewritten made.message true made.spells (made.open_is ∙ ap not (sym is))
      made.silent made.files (inr (omega (arith, some, firsts_none))) refl
  serves false is =
      served_alone limit [] (r ∷ []) r rewritten made.message false made.spells (made.open_is ∙ ap not (sym is))
      made.silent made.files (inr (omega (arith, some, firsts_none))) refl

  serving : IsServing limit passed delivery connection served
  unfolding first put passed served delivery connection out
  serving = record {
    came = record {
      from = record { from = None; bytes = rewritten };
      here = refl;
      read = sym (take_all rewritten);
    };
    keys = limit;
    few = omega arith;
    serves = serves keeps refl;
    becomes = refl;
  }

  hears : IsHearingThrough served 1 1 back (Confirmed 1) heard
  unfolding first put passed served heard out
  hears = record {
    contents = contents_of r.filer (opened r.key r.target r.body ∷ []);
    here = refl;
    text = bytes_of r;
    request = record { entry = opened r.key r.target r.body; at = refl; is_open = refl; bytes = refl };
    reply = given.reply;
    gives = given.gives;
    front = inl (record {
      answer = 1;
      from = record { item = 2; bytes = render (reply_of (answer [] r)) (not keeps) };
      from_here = refl;
      item = record { from = None; bytes = rewritten };
      item_here = refl;
      message = made.message;
      message_len = length rewritten;
      begins = made.spells;
      asks = made.files;
      told = reply_of (answer [] r);
      gives = (
        length (render (reply_of (answer [] r)) (not keeps)),
        subst (λ bs. SpellsReply bs (reply_of (answer [] r)))
            (sym (take_all (render (reply_of (answer [] r)) (not keeps))))
            (reply-spells (reply_of (answer [] r)) (not keeps) (readable_after [] r (omega arith))),
      );
      status = given.status;
      content = given.content;
    });
    moves = sym (same_state given.reply (reply_of (answer [] r)) given.status given.content ∙ told_first r good);
    becomes = refl;
  }

  pub confirms_behind : MayConfirm limit r (passed_once r keeps rewritten back)
  unfolding first put wrote passed served heard delivery connection out
  confirms_behind = record {
    situation = heard;
    happen = (put, puts, (wrote, writes, (passed, refl, (served, serving, (heard, hears, refl)))));
    requests = refl;
    outboxes = refl;
  }
