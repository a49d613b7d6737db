-- `layout::answer::put_paged` meets its contract. Assumes nothing.
use mathlib.Core.Path.{◌≡◌, refl, ◌∙◌}
use mathlib.Core.List.{List, [], ◌∷◌}
use Prim.Native.Nat.{ℕ, ◌+◌}
use Rattle.csn1.specs.Told.{as_bit}
use Rattle.csn1.proofs.Writing.{flag_byte}
use Rattle.arrays.specs.Runs.{stored}
use Rattle.receiver.specs.declared.Paged.{Paged}
use Rattle.layout.specs.Octets.{low_octets}
use Rattle.layout.specs.Layout.{paged_from, paged_octets}
use Rattle.layout.proofs.Numbers.{four_runs}
use Rattle.layout.proofs.answer.put_paged.Goals as goal

-- t, y, u and v are the flags, as octets
written : (l l1 l2 l3 l4 : List ℕ) (p : Paged) (t y u v : ℕ) → t ≡ as_bit p.there → y ≡ as_bit p.page.hasPriority → u ≡ as_bit p.hasCause → v ≡ as_bit p.cause
    → l1 ≡ stored l paged_from (t ∷ p.page.identityLength ∷ p.page.identityFirst ∷ [])
    → l2 ≡ stored l1 (paged_from + 3) (p.page.channelFirst ∷ y ∷ p.page.priority ∷ []) → l3 ≡ stored l2 (paged_from + 6) (u ∷ v ∷ [])
    → l4 ≡ stored l3 (paged_from + 8) (low_octets 8 p.page.identityRest) → l4 ≡ stored l paged_from (paged_octets p)
unfolding paged_octets
written l l1 l2 l3 l4 p t y u v a b c d q r s k =
    four_runs l l1 l2 l3 paged_from 3 3 _ _ (u ∷ v ∷ []) refl refl q r s l4 2 (low_octets 8 p.page.identityRest) refl k ∙ rw (a, b, c, d)

pub returns : goal.returns
returns c =
    let p = c.args.p in
    written c.args.b.now _ _ _ _ p _ _ _ _ (flag_byte p.there) (flag_byte p.page.hasPriority) (flag_byte p.hasCause) (flag_byte p.cause)
    c.put_three.ensures c.put_three-2.ensures c.put_two.ensures c.put_u64.ensures
