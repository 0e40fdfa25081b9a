use Rattle.std.proofs.Common.{◌<◌, ◌≤◌, length, arith, inr, refl}
use Rattle.wy_policy.specs.Policy.{most_bytes, most_rows}
use Rattle.wy_policy.proofs.PolicyLaws.{read_badly, read_well, too_many}
use Rattle.wy_policy.proofs.reading.read_policy.Goals as goal

pub returns-then-len-gt-MOST_POLICY_ROWS-clause-refused : goal.returns-then-len-gt-MOST_POLICY_ROWS-clause-refused
returns-then-len-gt-MOST_POLICY_ROWS-clause-refused c =
    let short : length c.args.bytes.now ≤ most_bytes = omega (arith, c.if-bytes-gt-MOST_FILE_BYTES.false) in
    let many : most_rows < length c.in-Ok.said.rows = omega (arith, c.if-len-gt-MOST_POLICY_ROWS.true, c.len.ensures) in
    inr (refl, too_many c.args.bytes.now c.in-Ok.said.rows short c.in-Ok.ensures.0 many)

pub returns-in-Some-clause-refused : goal.returns-in-Some-clause-refused
returns-in-Some-clause-refused c =
    let short : length c.args.bytes.now ≤ most_bytes = omega (arith, c.if-bytes-gt-MOST_FILE_BYTES.false) in
    let few : length c.in-Ok.said.rows ≤ most_rows = omega (arith, c.if-len-gt-MOST_POLICY_ROWS.false, c.len.ensures) in
    read_badly c.args.bytes.now c.in-Ok.said.rows c.in-Ok.said.bad c.in-Some.line short c.in-Ok.ensures.0 few c.in-Ok.ensures.1 c.in-Some.is

pub returns-in-None-clause-read : goal.returns-in-None-clause-read
returns-in-None-clause-read c =
    let short : length c.args.bytes.now ≤ most_bytes = omega (arith, c.if-bytes-gt-MOST_FILE_BYTES.false) in
    let few : length c.in-Ok.said.rows ≤ most_rows = omega (arith, c.if-len-gt-MOST_POLICY_ROWS.false, c.len.ensures) in
    read_well c.args.bytes.now c.in-Ok.said.rows c.in-Ok.said.bad short c.in-Ok.ensures.0 few c.in-Ok.ensures.1 c.in-None.is
