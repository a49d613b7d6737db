-- `host::finding::asternhaken_find` meets its contract. Assumes nothing.
use mathlib.Core.Path.{ap}
use borrow.Author.Tests.{le-leb, lt-leb}
use Rattle.receiver.specs.declared.finding.Found.{Found}
use Rattle.receiver.specs.Channels.{key_count}
use Rattle.host.proofs.finding.asternhaken_find.Goals as goal

pub returns-then-keys-gt-KEYS : goal.returns-then-keys-gt-KEYS
returns-then-keys-gt-KEYS c = let w = lt-leb _ key_count c.if-keys-gt-KEYS.true in (rw w, (rw w, rw w))

pub returns : goal.returns
returns c =
    let w = le-leb _ key_count c.if-keys-gt-KEYS.false in
    let f = c.find-found.ensures in
    (rw w, (rw w (ap (λ (x : Found). x.at) f), rw w (ap (λ (x : Found). x.looks) f)))
