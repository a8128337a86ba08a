-- One line holds 64 digits, two for each byte.
use native.Mathlib.Omega.{arith}
use Rattle.page_lines.proofs.Accepted.{one_line_bytes, two_line_bytes}
use Rattle.page.proofs.entry_bytes.Goals as goal

pub returns-then-digest_bytes-le64 : goal.returns-then-digest_bytes-le64
returns-then-digest_bytes-le64 c = one_line_bytes c.args.width (omega (arith, c.if-digest_bytes-le64.true, c.digest_bytes.ensures))

pub returns-else-digest_bytes-le64 : goal.returns-else-digest_bytes-le64
returns-else-digest_bytes-le64 c = two_line_bytes c.args.width (omega (arith, c.if-digest_bytes-le64.false, c.digest_bytes.ensures))
