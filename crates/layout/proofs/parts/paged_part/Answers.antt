-- `layout::parts::paged_part` meets its contract. Assumes nothing.
use mathlib.Core.Path.{ap, ◌∙◌}
use mathlib.Core.List.{List}
use Prim.Native.Nat.{ℕ}
use lib.ListN.{get_or}
use Rattle.receiver.specs.Model.{no_paged}
use Rattle.layout.specs.Layout.{last_of}
use Rattle.layout.specs.Parts.{paged_numbers}
use Rattle.layout.proofs.States.{at-state}
use Rattle.layout.proofs.Reading.{paged-beyond}
use Rattle.layout.proofs.parts.paged_part.Goals as goal

pub returns-then-part-ge-PAGED_NUMBERS : goal.returns-then-part-ge-PAGED_NUMBERS
returns-then-part-ge-PAGED_NUMBERS c = let a = c.args in paged-beyond (last_of a.b.now).paged a.part c.if-part-ge-PAGED_NUMBERS.true

pub returns : goal.returns
returns c =
    let l = c.args.b.now in
    let q = c.paged_of.ensures ∙ at-state l (last_of l).paged no_paged c.requires in
    ap (λ (x : List ℕ). get_or x c.args.part 0) (c.paged_numbers-all.ensures ∙ ap paged_numbers q)
