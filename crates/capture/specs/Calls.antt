-- Calls of `feed` in a row, each on what the one before it left: the octets that they took, and the text that they wrote. Assumes nothing.
use Rattle.std.specs.Prelude.{◌≡◌, ℕ, ◌-◌, List, [], ◌∷◌, ◌++◌, length, take, drop}
use Rattle.layout.specs.Layout.{state_length}
use Rattle.text.specs.Lines.{Line}
use Rattle.capture.specs.declared.Replay.{Replay}
use Rattle.capture.specs.declared.Fed.{Fed}
use Rattle.capture.specs.Machine.{kept_length, Machine, machine_of, fed_by, Replayed}

-- a call of `feed`: the piece that is offered, and the octets that are lent for the text, with the place behind what stands there already
pub record Call : Type 0 where
  pub piece : List ℕ
  pub line : Line

-- what stands in a line that was not there before
abbrev pub written : Line → Line → List ℕ
written l l' = take (l'.at - l.at) (drop l.at l'.octets)

-- what is held behind calls in a row, the octets that they took, and the text that they wrote
unfoldable pub held_behind : Machine → List Call → Machine
held_behind m [] = m
held_behind m (c ∷ cs) = held_behind (fed_by m c.piece c.line).machine cs

unfoldable pub taken_by : Machine → List Call → List ℕ
taken_by m [] = []
taken_by m (c ∷ cs) = take (fed_by m c.piece c.line).taken c.piece ++ taken_by (fed_by m c.piece c.line).machine cs

unfoldable pub written_by : Machine → List Call → List ℕ
written_by m [] = []
written_by m (c ∷ cs) = written c.line (fed_by m c.piece c.line).line ++ written_by (fed_by m c.piece c.line).machine cs

-- ## The calls themselves

-- what a call of `feed` answered, and the octets that it left: those that are kept, the lent state, and those for the text
pub record Returned : Type 0 where
  pub fed : Fed
  pub kept : List ℕ
  pub state : List ℕ
  pub out : List ℕ

-- each call was made on what the one before it left, with octets of the right length, and met its statement
abbrev pub Ran : Replay → List ℕ → List ℕ → List Call → List Returned → Type 0
Ran r kept state [] [] = Unit {0}
Ran r kept state [] (a ∷ rest) = ⊥
Ran r kept state (c ∷ cs) [] = ⊥
Ran r kept state (c ∷ cs) (a ∷ rest) =
    (length kept ≡ kept_length)
    × ((length state ≡ state_length)
    × (Replayed (machine_of r kept state) c.piece c.line a.fed a.kept a.state a.out × Ran a.fed.replay a.kept a.state cs rest))

-- the octets that the calls took, the text that they wrote, and what is held behind them
unfoldable pub octets_in : List Call → List Returned → List ℕ
octets_in [] rest = []
octets_in (c ∷ cs) [] = []
octets_in (c ∷ cs) (a ∷ rest) = take a.fed.taken c.piece ++ octets_in cs rest

unfoldable pub text_in : List Call → List Returned → List ℕ
text_in [] rest = []
text_in (c ∷ cs) [] = []
text_in (c ∷ cs) (a ∷ rest) = written c.line (record { octets = a.out; at = a.fed.at }) ++ text_in cs rest

unfoldable pub left_in : Machine → List Returned → Machine
left_in m [] = m
left_in m (a ∷ rest) = left_in (machine_of a.fed.replay a.kept a.state) rest
