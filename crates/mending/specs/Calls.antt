-- Calls of mending's `feed` in a row, each on what the one before it left: the octets that they took, what they copied, and what they listed. Assumes nothing.
use Rattle.std.specs.Prelude.{◌≡◌, List, [], ◌∷◌, ◌++◌, ℕ, length, take}
use Rattle.layout.specs.Layout.{state_length}
use Rattle.capture.specs.declared.Mend.{Mend}
use Rattle.capture.specs.declared.Mended.{Mended}
use Rattle.capture.specs.Machine.{kept_length}
use Rattle.capture.specs.Mend.{Parted, nothing, ahead}
use Rattle.capture.specs.Mending.{Mending, mending_of, Lines, lines_of, mended_by, MendFed}
use Rattle.capture.specs.Calls.{written}

-- a call of `feed`: the piece that is offered, and the octets that are lent for what is copied and for the list
pub record MendCall : Type 0 where
  pub piece : List ℕ
  pub lines : Lines

unfoldable pub mend_behind : Mending → List MendCall → Mending
mend_behind m [] = m
mend_behind m (c ∷ cs) = mend_behind (mended_by m c.piece c.lines).mending cs

unfoldable pub mend_taken : Mending → List MendCall → List ℕ
mend_taken m [] = []
mend_taken m (c ∷ cs) = take (mended_by m c.piece c.lines).taken c.piece ++ mend_taken (mended_by m c.piece c.lines).mending cs

-- what stands in two lines that was not there before
abbrev pub written_to : Lines → Lines → Parted → Parted
written_to l l' p = ahead (written l.copy l'.copy) (written l.list l'.list) p

unfoldable pub mend_written : Mending → List MendCall → Parted
mend_written m [] = nothing
mend_written m (c ∷ cs) = written_to c.lines (mended_by m c.piece c.lines).lines (mend_written (mended_by m c.piece c.lines).mending cs)

-- ## The calls themselves

-- what a call of `feed` answered, and the octets that it left: those that are kept, the lent state, and those for the copy and the list
pub record MendReturned : Type 0 where
  pub fed : Mended
  pub kept : List ℕ
  pub state : List ℕ
  pub copy : List ℕ
  pub list : List ℕ

-- each call was made on what the one before it left, with octets of the right length, and met its statement
abbrev pub MendRan : Mend → List ℕ → List ℕ → List MendCall → List MendReturned → Type 0
MendRan m kept state [] [] = Unit {0}
MendRan m kept state [] (a ∷ rest) = ⊥
MendRan m kept state (c ∷ cs) [] = ⊥
MendRan m kept state (c ∷ cs) (a ∷ rest) =
    (length kept ≡ kept_length)
    × ((length state ≡ state_length)
    × (MendFed (mending_of m kept state) c.piece c.lines a.fed a.kept a.state a.copy a.list × MendRan a.fed.mend a.kept a.state cs rest))

-- the octets that the calls took, what they copied and listed, and what is held behind them
unfoldable pub mend_octets_in : List MendCall → List MendReturned → List ℕ
mend_octets_in [] rest = []
mend_octets_in (c ∷ cs) [] = []
mend_octets_in (c ∷ cs) (a ∷ rest) = take a.fed.taken c.piece ++ mend_octets_in cs rest

unfoldable pub mend_parted_in : List MendCall → List MendReturned → Parted
mend_parted_in [] rest = nothing
mend_parted_in (c ∷ cs) [] = nothing
mend_parted_in (c ∷ cs) (a ∷ rest) = written_to c.lines (lines_of a.copy a.list a.fed) (mend_parted_in cs rest)

unfoldable pub mend_left_in : Mending → List MendReturned → Mending
mend_left_in m [] = m
mend_left_in m (a ∷ rest) = mend_left_in (mending_of a.fed.mend a.kept a.state) rest
