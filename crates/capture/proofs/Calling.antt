-- Calls of `feed` that met their statements are the calls of the definition. Assumes nothing.
use Rattle.std.proofs.Common.{◌≡◌, ℕ, List, [], ◌∷◌, length, take, refl, ap, ◌∙◌, eq-eqb}
use Rattle.layout.specs.Layout.{state_length}
use Rattle.text.proofs.Lines.{line}
use Rattle.capture.specs.declared.Replay.{Replay}
use Rattle.capture.specs.Machine.{kept_length, Machine, machine_of, Taken, fed_by, Replayed}
use Rattle.capture.specs.Calls.{Call, written, held_behind, taken_by, written_by, Returned, Ran, octets_in, text_in, left_in}

-- one call
call-is : (m : Machine) (c : Call) (a : Returned) → length m.kept ≡ kept_length → length m.state ≡ state_length → Replayed m c.piece c.line a.fed a.kept a.state a.out
    → record { machine = machine_of a.fed.replay a.kept a.state; taken = a.fed.taken; line = line a.out a.fed.at } ≡ fed_by m c.piece c.line
call-is m c a h g x = x.taken ∙ rw (eq-eqb (length m.kept) kept_length h, eq-eqb (length m.state) state_length g)

module _ (r : Replay) (kept state : List ℕ) (c : Call) (a : Returned) (h : length kept ≡ kept_length) (g : length state ≡ state_length)
    (x : Replayed (machine_of r kept state) c.piece c.line a.fed a.kept a.state a.out) where
  abbrev here : Taken
  here = fed_by (machine_of r kept state) c.piece c.line

  pub next-is : machine_of a.fed.replay a.kept a.state ≡ here.machine
  next-is = ap (λ (t : Taken). t.machine) (call-is (machine_of r kept state) c a h g x)

  pub took-is : take a.fed.taken c.piece ≡ take here.taken c.piece
  took-is = ap (λ (t : Taken). take t.taken c.piece) (call-is (machine_of r kept state) c a h g x)

  pub wrote-is : written c.line (line a.out a.fed.at) ≡ written c.line here.line
  wrote-is = ap (λ (t : Taken). written c.line t.line) (call-is (machine_of r kept state) c a h g x)

pub took-all : (r : Replay) (kept state : List ℕ) (cs : List Call) (run : List Returned) → Ran r kept state cs run → octets_in cs run ≡ taken_by (machine_of r kept state) cs
unfolding octets_in taken_by
took-all r kept state [] [] u = refl
took-all r kept state [] (a ∷ rest) u = absurd u
took-all r kept state (c ∷ cs) [] u = absurd u
took-all r kept state (c ∷ cs) (a ∷ rest) u =
    let x = u.1.1.0 in
    rw (took-is r kept state c a u.0 u.1.0 x, took-all a.fed.replay a.kept a.state cs rest u.1.1.1, next-is r kept state c a u.0 u.1.0 x)

pub wrote-all : (r : Replay) (kept state : List ℕ) (cs : List Call) (run : List Returned) → Ran r kept state cs run → text_in cs run ≡ written_by (machine_of r kept state) cs
unfolding text_in written_by
wrote-all r kept state [] [] u = refl
wrote-all r kept state [] (a ∷ rest) u = absurd u
wrote-all r kept state (c ∷ cs) [] u = absurd u
wrote-all r kept state (c ∷ cs) (a ∷ rest) u =
    let x = u.1.1.0 in
    rw (wrote-is r kept state c a u.0 u.1.0 x, wrote-all a.fed.replay a.kept a.state cs rest u.1.1.1, next-is r kept state c a u.0 u.1.0 x)

pub left-all : (r : Replay) (kept state : List ℕ) (cs : List Call) (run : List Returned) → Ran r kept state cs run → left_in (machine_of r kept state) run ≡ held_behind (machine_of r kept state) cs
unfolding left_in held_behind
left-all r kept state [] [] u = refl
left-all r kept state [] (a ∷ rest) u = absurd u
left-all r kept state (c ∷ cs) [] u = absurd u
left-all r kept state (c ∷ cs) (a ∷ rest) u =
    left-all a.fed.replay a.kept a.state cs rest u.1.1.1 ∙ ap (λ (m : Machine). held_behind m cs) (next-is r kept state c a u.0 u.1.0 u.1.1.0)
