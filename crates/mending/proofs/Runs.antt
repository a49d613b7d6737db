-- Octets mended one by one without end of room: what they have copied and listed, and that calls bring the same. Assumes nothing.
use mathlib.Core.Path.{◌≡◌, refl, sym, ap, ◌∙◌}
use mathlib.Core.Bool.{true, false}
use mathlib.Core.List.{List, [], ◌∷◌, ◌++◌, append_assoc}
use native.Mathlib.Omega.{arith}
use borrow.Author.Tests.{leb-true}
use Prim.Native.Nat.{ℕ, suc, ◌+◌, ◌-◌, ◌≤◌}
use lib.ListN.{length, take, length-append, length-take, length-set}
use lib.Dec.{eqb}
use Rattle.bits.specs.Field.{pick}
use Rattle.receiver.proofs.Cases.{by-test}
use Rattle.text.specs.Lines.{Line, added}
use Rattle.text.proofs.Numerals.{length-numeral}
use Rattle.capture.specs.Replay.{is_over}
use Rattle.capture.specs.Machine.{kept_length, kept_with, is_last, ends, took_one}
use Rattle.capture.specs.Mend.{left_text, Parted, nothing, ahead}
use Rattle.capture.specs.Mending.{Mending, mended_one, Lines, wrote, refusal_one, with_field, most_copied, most_listed, room_for, have_room, MendTaken, mended_by}
use Rattle.capture.specs.Calls.{written}
use Rattle.mending.specs.Calls.{MendCall, mend_behind, mend_taken, mend_written}
use Rattle.capture.proofs.Texts.{nothing-added, placed, then-added}
use Rattle.capture.proofs.Gathered.{first_of}
use Rattle.capture.proofs.Runs.{written_is}
use Rattle.capture.proofs.Mendings.{second-of, no_room}

-- ## What one octet has written

abbrev pub copy_by : List ℕ → ℕ → List ℕ
copy_by octets refusal = pick (eqb refusal 0) octets []

abbrev pub list_by : ℕ → ℕ → ℕ → List ℕ
list_by n offset refusal = pick (eqb refusal 0) [] (left_text n offset refusal)

unfoldable pub copy_one : Mending → ℕ → List ℕ
copy_one m o = pick (ends m.machine o) (copy_by (take (suc m.machine.got) (kept_with m.machine o)) (refusal_one m.machine o)) []

unfoldable pub list_one : Mending → ℕ → List ℕ
list_one m o = pick (ends m.machine o) (list_by m.machine.number m.offset (refusal_one m.machine o)) []

left-length : (n offset refusal : ℕ) → length (left_text n offset refusal) ≤ most_listed
unfolding left_text
left-length n offset refusal =
    simp length-append (omega (arith, length-numeral 10 20 0 n, length-numeral 10 20 0 offset, length-numeral 10 20 0 refusal))

copy-most : (m : Mending) (o : ℕ) → length m.machine.kept ≡ kept_length → length (copy_one m o) ≤ most_copied
unfolding copy_one
copy-most m o h =
    by-test (ends m.machine o)
    (λ p.
    by-test (eqb (refusal_one m.machine o) 0)
    (λ q. rw (p, q) (omega (arith, length-take (suc m.machine.got) (kept_with m.machine o), length-set m.machine.kept m.machine.got o)))
    (λ q. rw (p, q) (omega arith)))
    (λ p. rw p (omega arith))

list-most : (m : Mending) (o : ℕ) → length (list_one m o) ≤ most_listed
unfolding list_one
list-most m o =
    by-test (ends m.machine o)
    (λ p.
    by-test (eqb (refusal_one m.machine o) 0) (λ q. rw (p, q) (omega arith)) (λ q. rw (p, q) (left-length m.machine.number m.offset (refusal_one m.machine o))))
    (λ p. rw p (omega arith))

-- ## All octets

unfoldable pub parted_all : Mending → List ℕ → Parted
parted_all m [] = nothing
parted_all m (o ∷ s) = ahead (copy_one m o) (list_one m o) (parted_all (mended_one m o) s)

unfoldable pub mend_after : Mending → List ℕ → Mending
mend_after m [] = m
mend_after m (o ∷ s) = mend_after (mended_one m o) s

-- one behind the other
abbrev followed : Parted → Parted → Parted
followed p q = ahead p.copied p.listed q

parted-then : (m : Mending) (a b : List ℕ) → parted_all m (a ++ b) ≡ followed (parted_all m a) (parted_all (mend_after m a) b)
unfolding parted_all mend_after
parted-then m [] b = refl
parted-then m (o ∷ a) b =
    let p : Parted = parted_all (mended_one m o) a in
    let q : Parted = parted_all (mend_after (mended_one m o) a) b in
    ap (ahead (copy_one m o) (list_one m o)) (parted-then (mended_one m o) a b)
    ∙ ap (λ (x : List ℕ). record { copied = x; listed = list_one m o ++ (p.listed ++ q.listed) }) (sym (append_assoc (copy_one m o) p.copied q.copied))
    ∙ ap (λ (x : List ℕ). record { copied = (copy_one m o ++ p.copied) ++ q.copied; listed = x }) (sym (append_assoc (list_one m o) p.listed q.listed))

after_then : (m : Mending) (a b : List ℕ) → mend_after m (a ++ b) ≡ mend_after (mend_after m a) b
unfolding mend_after
after_then m [] b = refl
after_then m (o ∷ a) b = after_then (mended_one m o) a b

-- what is kept has its length
kept-one : (m : Mending) (o : ℕ) → length (mended_one m o).machine.kept ≡ length m.machine.kept
unfolding mended_one took_one
kept-one m o =
    by-test (is_over m.machine.stage) (λ p. rw p)
    (λ p.
    let same = length-set m.machine.kept m.machine.got o in
    by-test (is_last (kept_with m.machine o) m.machine.got) (λ q. rw (p, q) same) (λ q. rw (p, q) same))

kept-all : (m : Mending) (s : List ℕ) → length (mend_after m s).machine.kept ≡ length m.machine.kept
unfolding mend_after
kept-all m [] = refl
kept-all m (o ∷ s) = kept-all (mended_one m o) s ∙ kept-one m o

-- ## One call

-- the place is inside the line
abbrev Inside : Line → Type 0
Inside l = l.at ≤ length l.octets

-- room for a field is room in both
module _ (l : Lines) (room : have_room l ≡ true) where
  copy-has : l.copy.at + most_copied ≤ length l.copy.octets
  copy-has = leb-true (l.copy.at + most_copied) (length l.copy.octets) (first_of (room_for most_copied l.copy) (room_for most_listed l.list) room)

  list-has : l.list.at + most_listed ≤ length l.list.octets
  list-has = leb-true (l.list.at + most_listed) (length l.list.octets) (second-of (room_for most_copied l.copy) (room_for most_listed l.list) room)

-- what a call leaves, by the octets that it took
record MendAs (m : Mending) (s : List ℕ) (l : Lines) (t : MendTaken) : Type 0 where
  mending : t.mending ≡ mend_after m (take t.taken s)
  copy : t.lines.copy ≡ added (parted_all m (take t.taken s)).copied l.copy
  list : t.lines.list ≡ added (parted_all m (take t.taken s)).listed l.list
  copy-fits : l.copy.at + length (parted_all m (take t.taken s)).copied ≤ length l.copy.octets
  list-fits : l.list.at + length (parted_all m (take t.taken s)).listed ≤ length l.list.octets

none_mended : (m : Mending) (s : List ℕ) (l : Lines) → Inside l.copy → Inside l.list → MendAs m s l (record { mending = m; taken = 0; lines = l })
unfolding parted_all mend_after
none_mended m s l h g =
    record {
      mending = refl;
      copy = nothing-added l.copy.octets l.copy.at h;
      list = nothing-added l.list.octets l.list.at g;
      copy-fits = omega arith;
      list-fits = omega arith;
    }

module _ (m : Mending) (o : ℕ) (l : Lines) (h : Inside l.copy) (g : Inside l.list) where
  with_field_lem : with_field m o l ≡ record { copy = added (copy_one m o) l.copy; list = added (list_one m o) l.list }
  unfolding copy_one list_one wrote
  with_field_lem =
      let none-copied = nothing-added l.copy.octets l.copy.at h in
      let none-listed = nothing-added l.list.octets l.list.at g in
      by-test (ends m.machine o)
      (λ p.
      by-test (eqb (refusal_one m.machine o) 0)
      (λ q. rw (p, q) (ap (λ (x : Line). record { copy = added (take (suc m.machine.got) (kept_with m.machine o)) l.copy; list = x }) none-listed))
      (λ q. rw (p, q) (ap (λ (x : Line). record { copy = x; list = added (left_text m.machine.number m.offset (refusal_one m.machine o)) l.list }) none-copied)))
      (λ p. rw p (ap (λ (x : Line). record { copy = x; list = l.list }) none-copied ∙ ap (λ (x : Line). record { copy = added [] l.copy; list = x }) none-listed))

  module _ (long : length m.machine.kept ≡ kept_length) (room : have_room l ≡ true) where
    copy-room : l.copy.at + length (copy_one m o) ≤ length l.copy.octets
    copy-room = omega (arith, copy-most m o long, copy-has l room)

    list-room : l.list.at + length (list_one m o) ≤ length l.list.octets
    list-room = omega (arith, list-most m o, list-has l room)

    copied_is : (with_field m o l).copy ≡ added (copy_one m o) l.copy
    copied_is = ap (λ (x : Lines). x.copy) with_field_lem

    listed-is : (with_field m o l).list ≡ added (list_one m o) l.list
    listed-is = ap (λ (x : Lines). x.list) with_field_lem

    copy-placed : ((with_field m o l).copy.at ≡ l.copy.at + length (copy_one m o)) × (length (with_field m o l).copy.octets ≡ length l.copy.octets)
    copy-placed = placed (copy_one m o) l.copy.octets (with_field m o l).copy.octets l.copy.at (with_field m o l).copy.at copy-room copied_is

    list-placed : ((with_field m o l).list.at ≡ l.list.at + length (list_one m o)) × (length (with_field m o l).list.octets ≡ length l.list.octets)
    list-placed = placed (list_one m o) l.list.octets (with_field m o l).list.octets l.list.at (with_field m o l).list.at list-room listed-is

    copy-inside : Inside (with_field m o l).copy
    copy-inside = omega (arith, copy-placed, copy-room)

    list_inside : Inside (with_field m o l).list
    list_inside = omega (arith, list-placed, list-room)

    mended_room : (s : List ℕ) (t : MendTaken) → MendAs (mended_one m o) s (with_field m o l) t
        → MendAs m (o ∷ s) l (record { mending = t.mending; taken = 1 + t.taken; lines = t.lines })
    unfolding parted_all mend_after
    mended_room s t f =
        let z : 1 + t.taken ≡ suc t.taken = omega arith in
        let x : List ℕ = (parted_all (mended_one m o) (take t.taken s)).copied in
        let y : List ℕ = (parted_all (mended_one m o) (take t.taken s)).listed in
        let v : l.copy.at + length (copy_one m o) + length x ≤ length l.copy.octets = omega (arith, f.copy-fits, copy-placed) in
        let w : l.list.at + length (list_one m o) + length y ≤ length l.list.octets = omega (arith, f.list-fits, list-placed) in
        rw z
        (record {
          mending = f.mending;
          copy = then-added (copy_one m o) x l.copy.octets l.copy.at (with_field m o l).copy t.lines.copy v copied_is f.copy;
          list = then-added (list_one m o) y l.list.octets l.list.at (with_field m o l).list t.lines.list w listed-is f.list;
          copy-fits = rw (length-append (copy_one m o) x) (omega arith);
          list-fits = rw (length-append (list_one m o) y) (omega arith);
        })

mended_as : (m : Mending) (s : List ℕ) (l : Lines) → length m.machine.kept ≡ kept_length → Inside l.copy → Inside l.list → MendAs m s l (mended_by m s l)
unfolding mended_by
mended_as m [] l k h g = none_mended m [] l h g
mended_as m (o ∷ s) l k h g =
    by-test (have_room l)
    (λ p.
    let i = mended_as (mended_one m o) s (with_field m o l) (kept-one m o ∙ k) (copy-inside m o l h g k p) (list_inside m o l h g k p) in
    rw p (mended_room m o l h g k p s (mended_by (mended_one m o) s (with_field m o l)) i))
    (λ p. rw p (none_mended m (o ∷ s) l h g))

module _ (m : Mending) (c : MendCall) (k : length m.machine.kept ≡ kept_length) where
  abbrev here : MendTaken
  here = mended_by m c.piece c.lines

  abbrev took : List ℕ
  took = take here.taken c.piece

  -- what was written is that of the octets that were taken, and so is what is held
  record Three : Type 0 where
    copied : written c.lines.copy here.lines.copy ≡ (parted_all m took).copied
    listed : written c.lines.list here.lines.list ≡ (parted_all m took).listed
    held : here.mending ≡ mend_after m took

  without : have_room c.lines ≡ false → Three
  unfolding parted_all mend_after
  without p =
      let e = no_room m c.piece c.lines p in
      let y : c.lines.copy.at - c.lines.copy.at ≡ 0 = omega arith in
      let z : c.lines.list.at - c.lines.list.at ≡ 0 = omega arith in
      record { copied = rw (e, y); listed = rw (e, z); held = rw e }

  within : have_room c.lines ≡ true → Three
  within p =
      let a : Inside c.lines.copy = omega (arith, copy-has c.lines p) in
      let b : Inside c.lines.list = omega (arith, list-has c.lines p) in
      let f = mended_as m c.piece c.lines k a b in
      record {
        copied = rw f.copy (written_is (parted_all m took).copied c.lines.copy.octets c.lines.copy.at f.copy-fits);
        listed = rw f.list (written_is (parted_all m took).listed c.lines.list.octets c.lines.list.at f.list-fits);
        held = f.mending;
      }

  call-three : Three
  call-three = by-test (have_room c.lines) within without

  kept-call : length here.mending.machine.kept ≡ kept_length
  kept-call = ap (λ (x : Mending). length x.machine.kept) call-three.held ∙ kept-all m took ∙ k

-- ## Calls in a row

pub calls-parted : (m : Mending) (cs : List MendCall) → length m.machine.kept ≡ kept_length → mend_written m cs ≡ parted_all m (mend_taken m cs)
unfolding mend_written mend_taken parted_all
calls-parted m [] k = refl
calls-parted m (c ∷ cs) k =
    let b = call-three m c k in
    let rest : List ℕ = mend_taken (here m c k).mending cs in
    rw (b.copied, b.listed, calls-parted (here m c k).mending cs (kept-call m c k))
    (ap (λ (x : Mending). followed (parted_all m (took m c k)) (parted_all x rest)) b.held ∙ sym (parted-then m (took m c k) rest))

pub calls-mend_after : (m : Mending) (cs : List MendCall) → length m.machine.kept ≡ kept_length → mend_behind m cs ≡ mend_after m (mend_taken m cs)
unfolding mend_behind mend_taken mend_after
calls-mend_after m [] k = refl
calls-mend_after m (c ∷ cs) k =
    let rest : List ℕ = mend_taken (here m c k).mending cs in
    calls-mend_after (here m c k).mending cs (kept-call m c k) ∙ ap (λ (x : Mending). mend_after x rest) (call-three m c k).held ∙ sym (after_then m (took m c k) rest)
