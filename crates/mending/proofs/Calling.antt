-- Calls of mending's `feed` that met their statements are the calls of the definition. Assumes nothing.
use mathlib.Core.Path.{◌≡◌, refl, ap, ◌∙◌}
use mathlib.Core.List.{List, [], ◌∷◌}
use borrow.Author.Tests.{eq-eqb}
use Prim.Native.Nat.{ℕ}
use lib.ListN.{length, take}
use Rattle.layout.specs.Layout.{state_length}
use Rattle.capture.specs.declared.Mend.{Mend}
use Rattle.capture.specs.Machine.{kept_length}
use Rattle.capture.specs.Mend.{Parted}
use Rattle.capture.specs.Mending.{Mending, mending_of, lines_of, MendTaken, mended_by, MendFed}
use Rattle.mending.specs.Calls.{MendCall, mend_behind, mend_taken, written_to, mend_written, MendReturned, MendRan, mend_octets_in, mend_parted_in, mend_left_in}

-- one call
call-is : (m : Mending) (c : MendCall) (a : MendReturned) → length m.machine.kept ≡ kept_length → length m.machine.state ≡ state_length
    → MendFed m c.piece c.lines a.fed a.kept a.state a.copy a.list
    → record { mending = mending_of a.fed.mend a.kept a.state; taken = a.fed.taken; lines = lines_of a.copy a.list a.fed } ≡ mended_by m c.piece c.lines
call-is m c a h g x = x.taken ∙ rw (eq-eqb (length m.machine.kept) kept_length h, eq-eqb (length m.machine.state) state_length g)

module _ (m : Mend) (kept state : List ℕ) (c : MendCall) (a : MendReturned) (h : length kept ≡ kept_length) (g : length state ≡ state_length)
    (x : MendFed (mending_of m kept state) c.piece c.lines a.fed a.kept a.state a.copy a.list) where
  abbrev here : MendTaken
  here = mended_by (mending_of m kept state) c.piece c.lines

  pub next-is : mending_of a.fed.mend a.kept a.state ≡ here.mending
  next-is = ap (λ (t : MendTaken). t.mending) (call-is (mending_of m kept state) c a h g x)

  pub took-is : take a.fed.taken c.piece ≡ take here.taken c.piece
  took-is = ap (λ (t : MendTaken). take t.taken c.piece) (call-is (mending_of m kept state) c a h g x)

  pub wrote-is : (p : Parted) → written_to c.lines (lines_of a.copy a.list a.fed) p ≡ written_to c.lines here.lines p
  wrote-is p = ap (λ (t : MendTaken). written_to c.lines t.lines p) (call-is (mending_of m kept state) c a h g x)

pub took-all : (m : Mend) (kept state : List ℕ) (cs : List MendCall) (run : List MendReturned) → MendRan m kept state cs run → mend_octets_in cs run ≡ mend_taken (mending_of m kept state) cs
unfolding mend_octets_in mend_taken
took-all m kept state [] [] u = refl
took-all m kept state [] (a ∷ rest) u = absurd u
took-all m kept state (c ∷ cs) [] u = absurd u
took-all m kept state (c ∷ cs) (a ∷ rest) u =
    let x = u.1.1.0 in
    rw (took-is m kept state c a u.0 u.1.0 x, took-all a.fed.mend a.kept a.state cs rest u.1.1.1, next-is m kept state c a u.0 u.1.0 x)

pub wrote-all : (m : Mend) (kept state : List ℕ) (cs : List MendCall) (run : List MendReturned) → MendRan m kept state cs run → mend_parted_in cs run ≡ mend_written (mending_of m kept state) cs
unfolding mend_parted_in mend_written
wrote-all m kept state [] [] u = refl
wrote-all m kept state [] (a ∷ rest) u = absurd u
wrote-all m kept state (c ∷ cs) [] u = absurd u
wrote-all m kept state (c ∷ cs) (a ∷ rest) u =
    let x = u.1.1.0 in
    let n = next-is m kept state c a u.0 u.1.0 x in
    wrote-is m kept state c a u.0 u.1.0 x (mend_parted_in cs rest)
    ∙ ap (written_to c.lines _) (wrote-all a.fed.mend a.kept a.state cs rest u.1.1.1 ∙ ap (λ (t : Mending). mend_written t cs) n)

pub left-all : (m : Mend) (kept state : List ℕ) (cs : List MendCall) (run : List MendReturned) → MendRan m kept state cs run
    → mend_left_in (mending_of m kept state) run ≡ mend_behind (mending_of m kept state) cs
unfolding mend_left_in mend_behind
left-all m kept state [] [] u = refl
left-all m kept state [] (a ∷ rest) u = absurd u
left-all m kept state (c ∷ cs) [] u = absurd u
left-all m kept state (c ∷ cs) (a ∷ rest) u =
    left-all a.fed.mend a.kept a.state cs rest u.1.1.1 ∙ ap (λ (t : Mending). mend_behind t cs) (next-is m kept state c a u.0 u.1.0 u.1.1.0)
