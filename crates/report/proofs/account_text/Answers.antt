use Rattle.std.proofs.Common.{rules, arith}
use Rattle.report.specs.Events.{account_said}
use Rattle.report.proofs.Cursor.{ends, printed}
use Rattle.report.proofs.account_text.Goals as goal

pub returns-clause-printed : goal.returns-clause-printed
returns-clause-printed c = rw c.length.ensures (printed _ c.args.out _ c.new-text.result c.put_account.new.to (omega (arith, c.put_account.ensures.short)) c.new-text.ensures c.put_account.ensures.text _ (search rules))

pub returns-clause-upper_bound : goal.returns-clause-upper_bound
returns-clause-upper_bound c =
    omega (arith, c.put_account.ensures.short, c.length.ensures, ends (account_said c.args.said c.args.account.now) c.args.out _ c.new-text.result c.put_account.new.to (omega (arith, c.put_account.ensures.short)) c.new-text.ensures c.put_account.ensures.text)
