-- Lines as they are appended, piece by piece.
use Rattle.std.proofs.Common.{◌≡◌, ℕ, List, ◌++◌, Option, Result, Ok, Err, ◌∙◌, append_assoc}
use Rattle.std.specs.Prelude.{codes, is_ok, OnOk, if◌then◌else◌}
use Rattle.http_messages.specs.declared.reply.Kind.{Kind}
use Rattle.http_messages.specs.Posting.{target_path, resource_of, post_line}
use Rattle.http_messages.specs.Reply.{line, media_type}

-- where the last piece was appended, the text is what was wanted
pub OnOk-appended : {E : Type 0} (r : Result (Unit {0}) E) (new text old want : List ℕ)
    → new ≡ (if is_ok r then text else old) → text ≡ want → OnOk r (new ≡ want)
OnOk-appended (Ok u) new text old want e same = e ∙ same
OnOk-appended (Err error) new text old want e same = tt

-- the line that names a media type
type_pieces : (out first last end : List ℕ) → out ++ first ++ last ++ end ≡ out ++ (first ++ last ++ end)
type_pieces out first last end = simp append_assoc

pub type_line_pieces : (out : List ℕ) (kind : Kind)
    → out ++ codes "Content-Type: " ++ media_type kind ++ codes "\r\n" ≡ out
    ++ line (codes "Content-Type: " ++ media_type kind)
type_line_pieces out kind = type_pieces out (codes "Content-Type: ") (media_type kind) (codes "\r\n")

-- the first line of a filer's request
post_pieces : (out first filer target last end : List ℕ)
    → out ++ first ++ filer ++ target ++ (last ++ end) ≡ out ++ (first ++ (filer ++ target) ++ last ++ end)
post_pieces out first filer target last end = simp append_assoc

pub post_line_pieces : (out filer : List ℕ) (target : Option ℕ)
    → out ++ codes "POST /filings/" ++ filer ++ target_path target ++ codes " HTTP/1.1\r\n" ≡ out
    ++ post_line (resource_of filer target)
unfolding post_line
post_line_pieces out filer target =
    post_pieces out (codes "POST /filings/") filer (target_path target) (codes " HTTP/1.1") (codes "\r\n")
