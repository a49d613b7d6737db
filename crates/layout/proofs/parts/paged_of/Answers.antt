-- `layout::parts::paged_of` meets its contract. Assumes nothing.
use mathlib.Core.Path.{◌≡◌, sym, ◌∙◌}
use mathlib.Core.List.{List}
use mathlib.Core.Bool.{Bool}
use Prim.Native.Nat.{ℕ, ◌+◌}
use lib.ListN.{length}
use Rattle.bits.specs.Field.{pick}
use Rattle.facch.specs.declared.Page.{Page}
use Rattle.receiver.specs.declared.Paged.{Paged}
use Rattle.receiver.specs.Model.{no_paged}
use Rattle.layout.specs.Octets.{flag_at}
use Rattle.layout.specs.Layout.{paged_from, state_length, is_state, paged_at, last_of}
use Rattle.layout.proofs.States.{at-state, no_state}
use Rattle.layout.proofs.parts.paged_of.Goals as goal

made : (l : List ℕ) (t : Bool) (g : Page) (h v : Bool) → t ≡ flag_at l paged_from → g ≡ (paged_at l).page → h ≡ flag_at l (paged_from + 6) → v ≡ flag_at l (paged_from + 7)
    → length l ≡ state_length → ◌≡◌ {A = Paged} (record { there = t; page = g; hasCause = h; cause = v }) (pick (is_state l) (last_of l).paged no_paged)
unfolding last_of paged_at
made l t g h v a b c d w = (λ i. record { there = a i; page = b i; hasCause = c i; cause = d i }) ∙ sym (at-state l (last_of l).paged no_paged w)

pub returns-then-b-ne-LENGTH : goal.returns-then-b-ne-LENGTH
returns-then-b-ne-LENGTH c = c.no_paged.ensures ∙ sym (no_state c.args.b.now _ _ c.if-b-ne-LENGTH.true)

pub returns : goal.returns
returns c =
    made c.args.b.now _ _ _ _ c.flag_at.ensures c.page_at.ensures c.flag_at-2.ensures c.flag_at-3.ensures c.if-b-ne-LENGTH.false
