-- A setup in place: its number, the octets that it leaves, and what they are read as. Assumes nothing.
use Rattle.std.specs.Prelude.{◌≡◌, List, ℕ, eqb}
use Rattle.bits.specs.Field.{pick}
use Rattle.receiver.specs.declared.Setup.{Setup}
use Rattle.receiver.specs.Model.{no_paged, started_of}
use Rattle.receiver.specs.Step.{no_told, most_entries}
use Rattle.layout.specs.Octets.{tabulate}
use Rattle.layout.specs.Layout.{is_state, decode_of, Last, last_of, fresh_octets}

-- 13 goes before 10
unfoldable pub setup_code : List ℕ → Setup → List ℕ → List ℕ → ℕ
setup_code l s keys groups = pick (is_state l) (started_of s keys groups).refusal.number 13

unfoldable pub setup_octets : List ℕ → Setup → List ℕ → List ℕ → List ℕ
setup_octets l s keys groups = pick (eqb (setup_code l s keys groups) 0) (fresh_octets s keys groups) l

abbrev pub no_answer : Last
no_answer = record { expired = 0; dropped = 0; count = 0; entries = tabulate (λ j. no_told) 0 most_entries; paged = no_paged }

-- a setup's number and the octets at exit, and what they are read as where it was accepted
pub record SetUp (l : List ℕ) (s : Setup) (keys groups left : List ℕ) (code : ℕ) : Type 0 where
  pub number : code ≡ setup_code l s keys groups
  pub octets : left ≡ setup_octets l s keys groups
  pub receiver : code ≡ 0 → decode_of left ≡ (started_of s keys groups).receiver
  pub answer : code ≡ 0 → last_of left ≡ no_answer
