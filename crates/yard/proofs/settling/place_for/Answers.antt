-- `yard::settling::place_for` meets its contract. Assumes nothing.
use mathlib.Core.Path.{sym, ◌∙◌}
use Rattle.yard.proofs.Coming.{number_read, key-read, place_none, place_found}
use Rattle.yard.proofs.settling.place_for.Goals as goal

pub returns-then-carries : goal.returns-then-carries
returns-then-carries c =
    let r = c.args.r.now in
    let j = c.args.j in
    place_found r j c.requires _ _ _ (number_read r j c.requires _ c.part_of.ensures) (sym c.carries.ensures ∙ c.if-carries.true)
    (key-read r j c.requires _ c.part_of-then-carries.ensures) c.index_of.ensures

pub returns-else-carries : goal.returns-else-carries
returns-else-carries c =
    let r = c.args.r.now in
    let j = c.args.j in
    place_none r j c.requires _ (number_read r j c.requires _ c.part_of.ensures) (sym c.carries.ensures ∙ c.if-carries.false)
