use Rattle.std.proofs.Common.{◌≡◌, ℕ, List, [], ◌++◌, length, codes, nat_lt, ◌==◌, ap, ◌∙◌, refl}
use Rattle.http_messages.specs.Reply.{ReplyParts, media_type, line, only_if, length_line, status_line, render}
use Rattle.http_messages.specs.Reply.{render_head}
use Rattle.http_messages.specs.Replies.{reply_parts}
use Rattle.http_messages.proofs.reply.reply_text.Goals as goal

-- seven texts, written one behind another
joined : (t0 t1 t2 t3 t4 t5 t6 t7 a b c d e f g : List ℕ) → t0 ≡ [] → t1 ≡ t0 ++ a → t2 ≡ t1 ++ b → t3 ≡ t2 ++ c
    → t4 ≡ t3 ++ d → t5 ≡ t4 ++ e → t6 ≡ t5 ++ f → t7 ≡ t6 ++ g → t7 ≡ (((((a ++ b) ++ c) ++ d) ++ e) ++ f) ++ g
joined t0 t1 t2 t3 t4 t5 t6 t7 a b c d e f g e0 e1 e2 e3 e4 e5 e6 e7 = rw (e7, e6, e5, e4, e3, e2, e1, e0) refl

pub returns : goal.returns
unfolding render render_head
returns c =
    let parts : ReplyParts = reply_parts c.args.reply.now in
    let size = rw (c.len-2.ensures ∙ c.args.reply.now.content.ok.0) at c.in_ok-push_content_length.ensures in
    let content =
    c.in_ok-extend_from_slice-2.ensures.items
    ∙ ap (λ (text : List ℕ). c.extend_from_slice.new.self.items ++ text) c.deref.ensures.value in
    joined c.in_ok-text.text.items c.push_status.new.out.items c.push_type.new.out.items
    c.push_content_length.new.out.items c.push_if.new.out.items c.push_if-2.new.out.items
    c.extend_from_slice.new.self.items c.extend_from_slice-2.new.self.items
    (status_line parts.status) (line (codes "Content-Type: " ++ media_type parts.kind))
    (only_if (nat_lt 0 (length parts.content)) (length_line (length parts.content)))
    (only_if (parts.status == 405) (line (codes "Allow: GET, POST")))
    (only_if c.args.close (line (codes "Connection: close"))) (codes "\r\n") parts.content
    c.in_ok-text.ensures.items c.in_ok-push_status.ensures c.in_ok-push_type.ensures size c.in_ok-push_if.ensures
    c.in_ok-push_if-2.ensures c.in_ok-extend_from_slice.ensures.items content
