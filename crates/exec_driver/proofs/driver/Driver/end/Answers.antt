use Rattle.std.proofs.Common.{◌≡◌, Some, ap, ◌∙◌}
use Rattle.exec_driver.proofs.Words.{waiter_at, file_of, file_in, account_in}
use Rattle.exec_driver.proofs.driver.Driver.end.Goals as goal

pub returns-clause-told : goal.returns-clause-told
returns-clause-told g c = λ w is.
    let at : waiter_at c.self.inside.waiters c.args.id.0 ≡ Some w = rw (← c.self.view_is) at is in
    let same : c.account-account.result ≡ account_in c.args.opens.now (file_of w.request) = c.account-account.ensures ∙ ap (account_in c.args.opens.now) (c.open_of-file.ensures ∙ ap file_in at) in
    rw (← same) (c.end_with.ensures.told w is)
