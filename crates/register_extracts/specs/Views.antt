-- Rows and digests as values, without their places in memory.
use Rattle.std.specs.Prelude.{ℕ, List}
use Rattle.register_extracts.specs.declared.row.Row.{Row as Given}
use Rattle.register_extracts.specs.declared.digest.Digest.{Digest}
use Rattle.register_extracts.specs.Digest.{Row}

-- a row
abbrev pub view_row : Given → Row
view_row r =
    record {
      request = record { filer = r.filer.now; key = r.key.now; target = r.target; body = r.body.now };
      number = r.number;
      moment = r.moment;
    }

-- how many requests a digest is of
abbrev pub count_of : Digest → ℕ
count_of d = d.count

-- the bytes of a digest
abbrev pub bytes_of : Digest → List ℕ
bytes_of d = d.bytes

-- so many requests, and the bytes of their digest
pub record Digested : Type 0 where
  pub count : ℕ
  pub bytes : List ℕ

abbrev pub view_digest : Digest → Digested
view_digest d = record { count = d.count; bytes = d.bytes }
