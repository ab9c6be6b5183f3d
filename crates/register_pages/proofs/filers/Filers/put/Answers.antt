use Rattle.std.proofs.Common.{◌≡◌, rules}
use Rattle.std.specs.Prelude.{string_bytes}
use Rattle.register_pages.proofs.Codes.{put_in}
use Rattle.register_pages.proofs.filers.Filers.put.Goals as goal

pub returns : goal.returns
returns c =
    let code : string_bytes c.in_ok-code.code ≡ c.args.filer.now = search rules in
    rw (c.in_ok-insert.ensures.entries, ← code) (put_in c.in_ok-code.code c.args.known c.args.self.now.list.entries)
