-- `numbers::on_facch::put_all` meets its contract. Assumes nothing.
use Rattle.numbers.proofs.FacchRuns.{all_runs}
use Rattle.numbers.proofs.on_facch.put_all.Goals as goal

pub returns : goal.returns
returns c =
    let a = c.args in
    all_runs a.m a.used _ _ _ _ _ _ _ _ _ _ c.requires
    c.numbers_of-call.ensures c.page_numbers-page.ensures c.release6_numbers-six.ensures c.release7_numbers-seven.ensures
    c.run.ensures c.run-2.ensures c.run-3.ensures c.run-4.ensures c.run-5.ensures
