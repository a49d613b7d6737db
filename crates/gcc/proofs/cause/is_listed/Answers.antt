-- `gcc::cause::is_listed` meets its contract: the two words have the bits of table 9.4, by a test of all septets. Assumes nothing.
use mathlib.Core.Path.{refl}
use mathlib.Core.Bool.{Bool}
use mathlib.Core.List.{[], ◌∷◌}
use Prim.Native.Nat.{ℕ, ◌/◌, ◌%◌, ◌^◌}
use lib.ListN.{get_or}
use lib.Dec.{eqb}
use Rattle.gcc.specs.Cause.{is_listed}
use Rattle.gcc.proofs.Tests.{below, same, same_true}
use Rattle.gcc.proofs.cause.is_listed.Goals as goal

-- the table's answer, as the code finds it
abbrev found : ℕ → Bool
found n = eqb (get_or (0xffff_0047_41d3_0768 ∷ 0x0001_001f_8002_0000 ∷ []) (n / 64) 0 / 2 ^ (n % 64) % 2) 1

pub returns : goal.returns
unfolding is_listed
returns c = same_true _ _ (below (λ n. same (found n) (is_listed n)) 128 refl c.args.n c.requires)
