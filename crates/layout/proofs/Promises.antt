-- The promises of specs/Promises. Assumes nothing.
use mathlib.Core.Path.{◌≡◌, refl, sym, ap, ◌∙◌}
use mathlib.Core.List.{List}
use Prim.Native.Nat.{ℕ}
use lib.Dec.{eqb}
use lib.ListN.{length}
use Rattle.bits.specs.Field.{pick}
use Rattle.receiver.specs.declared.Setup.{Setup}
use Rattle.receiver.specs.Model.{started_of}
use Rattle.layout.specs.Layout.{state_length, is_marked, last_of}
use Rattle.layout.specs.Setup.{setup_code}
use Rattle.layout.specs.Promises.{SetUpDetermines, ARefusedSetupLeavesTheOctets, AnAcceptedSetupDoesNotDependOnWhatWasThere, AnAcceptedSetupIsMarked, AllPartsAreTheAnswer}
use Rattle.layout.proofs.Fresh.{mark_fresh}
use Rattle.layout.proofs.Setting.{set-left, set-fresh}
use Rattle.layout.proofs.AllParts.{same_answer, nine-entries}

pub setup_determines : SetUpDetermines
setup_determines l s keys sets a b m n f g = (f.octets ∙ sym g.octets, f.number ∙ sym g.number)

pub a_refused_setup_leaves_the_octets : ARefusedSetupLeavesTheOctets
a_refused_setup_leaves_the_octets = set-left

-- of the octets, only their number is looked at
same_code : (l l' : List ℕ) → length l ≡ length l' → (s : Setup) (keys sets : List ℕ) → setup_code l s keys sets ≡ setup_code l' s keys sets
unfolding setup_code
same_code l l' e s keys sets = ap (λ (n : ℕ). pick (eqb n state_length) (started_of s keys sets).refusal.number 13) e

pub an_accepted_setup_does_not_depend_on_what_was_there : AnAcceptedSetupDoesNotDependOnWhatWasThere
an_accepted_setup_does_not_depend_on_what_was_there l l' e s keys sets left left' code code' f g =
    let q : code ≡ code' = f.number ∙ same_code l l' e s keys sets ∙ sym g.number in
    (q, λ z. set-fresh l s keys sets left code f z ∙ sym (set-fresh l' s keys sets left' code' g (sym q ∙ z)))

pub an_accepted_setup_is_marked : AnAcceptedSetupIsMarked
an_accepted_setup_is_marked l s keys sets left u = ap is_marked (set-fresh l s keys sets left 0 u refl) ∙ mark_fresh s keys sets

pub all_parts_are_the_answer : AllPartsAreTheAnswer
all_parts_are_the_answer l l' p = same_answer (last_of l) (last_of l') (nine-entries l) (nine-entries l') p
