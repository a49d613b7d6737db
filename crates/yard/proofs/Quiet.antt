-- Where nothing is told and nothing is shown, nothing leaves and nothing comes. Assumes nothing.
use mathlib.Core.Path.{◌≡◌, refl, sym, ap, ◌∙◌}
use mathlib.Core.Bool.{false}
use mathlib.Core.List.{List}
use mathlib.Core.Logic.{⊎_elim}
use Prim.Native.Nat.{ℕ, zero, suc, ◌+◌, ◌-◌, ◌≤◌}
use native.Mathlib.Nat.{add-zero, add-suc, eq-zero-or-pos}
use native.Mathlib.Omega.{arith}
use lib.ListN.{length}
use Rattle.bits.specs.Field.{pick}
use Rattle.receiver.specs.Step.{most_entries}
use Rattle.layout.specs.Octets.{octet_at}
use Rattle.layout.specs.Layout.{state_length, is_state, carries, last_of}
use Rattle.layout.specs.Parts.{part_of}
use Rattle.layout.proofs.Reading.{last-three, last-unused}
use Rattle.layout.proofs.States.{at-state}
use Rattle.yard.specs.Yard.{call_count}
use Rattle.yard.specs.Octets.{inside, call_place, left_run, place_for, brought_run, settled}
use Rattle.yard.specs.Inner.{NoneFrom, NoCalls}
use Rattle.yard.proofs.Leaving.{leaves_not, left-stays}
use Rattle.yard.proofs.Coming.{number_read, place_none, brought_not}
use Rattle.yard.proofs.Values.{inside-brought_run}

-- ## Nothing comes

-- entries behind those of the answer are told nothing
pub none-behind : (r : List ℕ) → length r ≡ state_length → (c : ℕ) → c ≡ pick (is_state r) (part_of (last_of r) 0 2) 0 → NoneFrom r c
none-behind r whole c e j h k =
    let z = last-three r 0 2 (omega arith) in
    let q = e ∙ at-state r (part_of (last_of r) 0 2) 0 whole in
    let n = last-unused r j 4 (omega arith) (omega arith) k (omega (arith, h, z, q)) in
    place_none r j whole 0 (number_read r j whole 0 (n ∙ sym (at-state r (part_of (last_of r) j 4) 0 whole))) refl

brought-still : (l : List ℕ) (n d : ℕ) → n + d ≤ most_entries → NoneFrom (inside l) n → brought_run (n + d) l ≡ brought_run n l
unfolding brought_run
brought-still l n zero h q = rw add-zero refl
brought-still l n (suc d) h q =
    let b = brought_run (n + d) l in
    rw (add-suc n d)
    (sym (brought_not b (n + d) _ (q (n + d) (omega arith) (omega arith) ∙ ap (λ (r : List ℕ). place_for r (n + d)) (sym (inside-brought_run (n + d) l))) (omega arith))
    ∙ brought-still l n d (omega arith) q)

pub brought-all : (l : List ℕ) (n : ℕ) → n ≤ most_entries → NoneFrom (inside l) n → brought_run n l ≡ brought_run most_entries l
brought-all l n h q =
    let e : n + (most_entries - n) ≡ most_entries = omega arith in
    sym (brought-still l n (most_entries - n) (omega arith) q) ∙ ap (λ (k : ℕ). brought_run k l) e

-- ## Nothing leaves

left-still : (now : ℕ) (l : List ℕ) (n : ℕ) → NoCalls l n → left_run false now n l ≡ l
unfolding left_run
left-still now l zero q = refl
left-still now l (suc n) q =
    let e = left-still now l n (λ k h. q k (omega arith)) in
    rw e (sym (left-stays false now l n (sym (leaves_not l n now false refl (ap (λ (x : ℕ). carries x) (q n (omega arith)))))))

pub settled_quietly : (now : ℕ) (l : List ℕ) → NoneFrom (inside l) 0 → NoCalls l call_count → l ≡ settled false now l
unfolding settled brought_run
settled_quietly now l q s = rw (left-still now l call_count s) (brought-all l 0 (omega arith) q)

-- one place more
pub no_calls-more : (l : List ℕ) (i : ℕ) → NoCalls l i → octet_at l (call_place i + 16) ≡ 0 → NoCalls l (i + 1)
no_calls-more l i q e k h =
    ⊎_elim (λ z. let x : k ≡ i = omega (arith, z, h) in ap (λ (m : ℕ). octet_at l (call_place m + 16)) x ∙ e) (λ z. q k (omega (arith, z))) (eq-zero-or-pos (i - k))
