-- Laws of the call reference: it reads what it wrote, and writes what it read. Assumes nothing.
use mathlib.Core.Path.{◌≡◌, refl, sym, ap, ◌∙◌}
use mathlib.Core.Bool.{Bool, true, false, not}
use mathlib.Core.List.{List}
use native.Mathlib.Omega.{arith}
use borrow.Author.Tests.{eq-eqb, ne_eqb, le-leb, eqb-true, eqb-false, leb-true, not-true}
use Prim.Native.Nat.{ℕ, ◌+◌, ◌*◌, ◌/◌, ◌%◌, ◌≤◌, ◌<◌}
use lib.ListN.{length}
use lib.Dec.{leb, eqb}
use Rattle.bits.specs.Field.{pick}
use Rattle.gcc.specs.Numeral.{spell, worth}
use Rattle.gcc.specs.CallReference.{number_of, priority_of, without_spare, refused, told, read_of, write_number, write_to}
use Rattle.gcc.specs.Promises as promises
use Rattle.gcc.specs.declared.call_reference.Reading.{Reading}
use Rattle.gcc.specs.declared.call_reference.Priority.{Priority}
use Rattle.gcc.specs.declared.call_reference.Priority.TheVariants.{Absent, Reserved, Level4, Level3, Level2, Level1, Level0, LevelB, LevelA}
use Rattle.gcc.proofs.Tests.{passed, agree}
use Rattle.gcc.proofs.Numerals.{worth-of-spell, length-spell}

-- the table gives each priority back
priority-back : (p : Priority) → priority_of (without_spare (number_of p) % 32) ≡ p
unfolding priority_of without_spare
priority-back Absent = refl
priority-back Reserved = refl
priority-back Level4 = refl
priority-back Level3 = refl
priority-back Level2 = refl
priority-back Level1 = refl
priority-back Level0 = refl
priority-back LevelB = refl
priority-back LevelA = refl

number_small : (p : Priority) → number_of p < 32
number_small Absent = omega arith
number_small Reserved = omega arith
number_small Level4 = omega arith
number_small Level3 = omega arith
number_small Level2 = omega arith
number_small Level1 = omega arith
number_small Level0 = omega arith
number_small LevelB = omega arith
number_small LevelA = omega arith

-- only the last five bits have spare ones
bare-low : (r t : ℕ) → t < 32 → without_spare (r * 32 + t) ≡ r * 32 + without_spare t
unfolding without_spare
bare-low r t h = go (eqb (t / 16 % 2) 0) refl
  where
    go : (b : Bool) → eqb (t / 16 % 2) 0 ≡ b → without_spare (r * 32 + t) ≡ r * 32 + without_spare t
    go true e = let z : t / 16 % 2 ≡ 0 = eqb-true (t / 16 % 2) 0 e in rw (e, eq-eqb ((r * 32 + t) / 16 % 2) 0 (omega arith)) (omega arith)
    go false e = let z : t / 16 % 2 ≡ 0 → ⊥ = eqb-false (t / 16 % 2) 0 e in rw (e, ne_eqb ((r * 32 + t) / 16 % 2) 0 (λ y. z (omega arith))) (omega arith)

-- what the writer accepts
accepted : (r : ℕ) (p : Priority) (n : ℕ) → write_number r p n ≡ 0 → promises.WritableReference r p n
unfolding write_number
accepted r p n e =
    let a = passed (λ k. k) (leb r 134217727) (pick (not (eqb (number_of p) 16)) (pick (leb r 99999999) (pick (eqb n 4) 0 11) 4) 12) 12 (omega arith) e in
    let b = passed (λ k. k) (not (eqb (number_of p) 16)) (pick (leb r 99999999) (pick (eqb n 4) 0 11) 4) 12 (omega arith) a.1 in
    let c = passed (λ k. k) (leb r 99999999) (pick (eqb n 4) 0 11) 4 (omega arith) b.1 in
    let d = passed (λ k. k) (eqb n 4) 0 11 (omega arith) c.1 in
    record { small = leb-true r 99999999 c.0; assigned = λ q. eqb-false (number_of p) 16 (not-true _ b.0) (ap number_of q); four = eqb-true n 4 d.0 }

-- and what it may be given it accepts
writes : (r : ℕ) (p : Priority) (n : ℕ) → r ≤ 99999999 → (number_of p ≡ 16 → ⊥) → n ≡ 4 → write_number r p n ≡ 0
unfolding write_number
writes r p n h x l = rw (le-leb r 134217727 (omega arith), ne_eqb (number_of p) 16 x, le-leb r 99999999 h, eq-eqb n 4 l)

-- only the reserved priority has its number
reserved_only : (p : Priority) → number_of p ≡ 16 → p ≡ Reserved
unfolding priority_of without_spare
reserved_only p q = sym (priority-back p) ∙ ap (λ n. priority_of (without_spare n % 32)) q

pub a_call_reference_is_read_back : promises.ACallReferenceIsReadBack
unfolding read_of write_to
a_call_reference_is_read_back r p buf = (
  accepted r p (length buf),
  λ a.
      let e : write_number r p (length buf) ≡ 0 = writes r p (length buf) a.small (λ q. a.assigned (reserved_only p q)) a.four in
      let t : ℕ = number_of p in
      let small : t < 32 = number_small p in
      let n : ℕ = r * 32 + t in
      let w : worth 256 0 0 (spell 256 0 4 n) ≡ n = worth-of-spell 256 0 4 n (omega arith) (omega (arith, a.small)) in
      let q : n / 32 ≡ r = omega arith in
      let m : without_spare n % 32 ≡ without_spare t % 32 = omega (arith, bare-low r t small) in
      (e, rw (e, length-spell 256 0 4 n, w, q, le-leb r 99999999 a.small, m, priority-back p)),
)

-- what the reader accepts
pub record Accepted (s : List ℕ) (n : ℕ) : Type 0 where
  pub four : length s ≡ 4
  pub small : n / 32 ≤ 99999999

reads : (s : List ℕ) (n : ℕ) → worth 256 0 0 s ≡ n → (read_of s).refusal ≡ 0 → Accepted s n
unfolding read_of
reads s n w e =
    let a = passed (λ (r : Reading). r.refusal) (eqb (length s) 4) (told (worth 256 0 0 s)) (refused 13) (omega arith) e in
    let f : (told n).refusal ≡ 0 = rw w at a.1 in
    let b = passed (λ (r : Reading). r.refusal) (leb (n / 32) 99999999) (record { refusal = 0; reference = n / 32; priority = priority_of (without_spare n % 32) }) (refused 4) (omega arith) f in
    record { four = eqb-true (length s) 4 a.0; small = leb-true (n / 32) 99999999 b.0 }

-- five bits without their spare ones are the table's
bits_back : (t : ℕ) → t < 32 → number_of (priority_of (without_spare t % 32)) ≡ without_spare t
unfolding priority_of without_spare
bits_back t h = agree (λ t. number_of (priority_of (without_spare t % 32))) without_spare 32 refl t h

number-back : (n : ℕ) → n / 32 * 32 + number_of (priority_of (without_spare n % 32)) ≡ without_spare n
number-back n =
    let r : ℕ = n / 32 in
    let t : ℕ = n % 32 in
    let e : without_spare n ≡ r * 32 + without_spare t = ap without_spare (split n) ∙ bare-low r t (omega arith) in
    let m : without_spare n % 32 ≡ without_spare t % 32 = omega arith in
    rw m (omega (arith, bits_back t (omega arith)))
  where
    split : (n : ℕ) → n ≡ n / 32 * 32 + n % 32
    split n = omega arith

pub a_call_reference_is_written_back : promises.ACallReferenceIsWrittenBack
unfolding read_of write_to
a_call_reference_is_written_back s =
    let n : ℕ = worth 256 0 0 s in (
      λ e. let a = reads s n refl e in (a.four, a.small),
      λ y. (
        rw (eq-eqb (length s) 4 y.0, le-leb (n / 32) 99999999 y.1),
        λ buf l f.
            let p : Priority = priority_of (without_spare n % 32) in
            let b = number-back n in
            let i : number_of p ≡ without_spare n % 32 = omega (arith, b, number_small p) in
            let w : write_number (n / 32) p (length buf) ≡ 0 = writes (n / 32) p (length buf) y.1 (λ q. f (sym i ∙ q)) l in
            rw (eq-eqb (length s) 4 y.0, le-leb (n / 32) 99999999 y.1) (w, rw (w, b)),
      ),
    )
