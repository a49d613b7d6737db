-- Laws of causes: they read what they wrote, write what they read, and say what they mean. Assumes nothing.
use mathlib.Core.Path.{◌≡◌, refl, sym, ap, ◌∙◌}
use mathlib.Core.Bool.{Bool, true, false}
use mathlib.Core.List.{List, [], ◌∷◌}
use mathlib.Core.Option.{Option, none, some}
use mathlib.Core.Logic.{⊎_elim}
use native.Mathlib.Omega.{arith}
use borrow.Author.Tests.{eq-eqb, eqb-true, le-leb, leb-true, leb-false}
use Prim.Native.Nat.{ℕ, zero, suc, ◌+◌, ◌-◌, ◌≤◌, ◌<◌, zero-le, suc-le-suc}
use lib.Dec.{leb, eqb}
use lib.ListN.{length, get_or, take, drop, replicate, length-drop, take-append-drop}
use lib.Seq.{length-take-le, take-append_seam, drop-append_seam}
use Rattle.bits.specs.Field.{pick, both}
use Rattle.gcc.specs.Octet.{all_between}
use Rattle.gcc.specs.Numeral.{Spells}
use Rattle.gcc.specs.Cause.{meaning_numbers, is_listed, parse, led, single, meaning_of, in_places, cause_of, refused}
use Rattle.gcc.specs.Cause.{said, told, read_of, cause_octets, parts_of, diagnostics_of, right, write_number, write_to}
use Rattle.gcc.specs.Inner.{closing}
use Rattle.gcc.specs.Promises as promises
use Rattle.gcc.specs.declared.cause.Cause.{Cause}
use Rattle.gcc.specs.declared.cause.Reading.{Reading}
use Rattle.bits.proofs.Answers.{both_true}
use Rattle.gcc.proofs.Tests.{passed}
use Rattle.gcc.proofs.Lists.{within-each}
use Rattle.gcc.proofs.Causes.{marked_or_plain, parse-at, parse-never}

-- ## Octets and parts

within-tail : (lo hi x : ℕ) (l : List ℕ) → all_between lo hi (x ∷ l) ≡ true → all_between lo hi l ≡ true
unfolding all_between
within-tail lo hi x l e = (both_true (both (leb lo x) (leb x hi)) (all_between lo hi l) e).1

-- the octets of parts and diagnostics say them
parse-form : (l d : List ℕ) → 0 < length l → all_between 0 127 l ≡ true → parse (cause_octets l d) ≡ some (l, d)
unfolding cause_octets
parse-form [] d h w = absurd (omega arith)
parse-form (n ∷ []) d h w =
    let e : n + 128 - 128 ≡ n = omega arith in
    ⊎_elim (λ m. m.last ∙ ap (λ k. some (k ∷ [], d)) e) (λ p. absurd (omega (arith, p.low))) (marked_or_plain (n + 128) d)
parse-form (n ∷ m ∷ l) d h w =
    let b : n ≤ 127 = (within-each 0 127 (n ∷ m ∷ l) w 0 (suc-le-suc zero-le)).1 in
    ⊎_elim (λ k. absurd (omega (arith, k.high)))
    (λ p. p.more ∙ ap (led n) (parse-form (m ∷ l) d (suc-le-suc zero-le) (within-tail 0 127 n (m ∷ l) w)))
    (marked_or_plain n (cause_octets (m ∷ l) d))

length-form : (l d : List ℕ) → length (cause_octets l d) ≡ length l + length d
unfolding cause_octets
length-form [] d = omega arith
length-form (n ∷ []) d = omega arith
length-form (n ∷ m ∷ l) d = omega (arith, length-form (m ∷ l) d)

-- what octets say has them for its octets
record Said (s l d : List ℕ) : Type 0 where
  pub some-part : 0 < length l
  pub seven : all_between 0 127 l ≡ true
  pub back : cause_octets l d ≡ s

led-said : (o : ℕ) (s l d : List ℕ) → o < 128 → Said s l d → Said (o ∷ s) (o ∷ l) d
unfolding cause_octets all_between
led-said o s [] d h i = absurd (omega (arith, i.some-part))
led-said o s (n ∷ l) d h i = record { some-part = suc-le-suc zero-le; seven = rw (le-leb 0 o zero-le, le-leb o 127 (omega arith)) i.seven; back = ap (λ t. o ∷ t) i.back }

last-said : (o : ℕ) (s : List ℕ) → 128 ≤ o → o < 256 → Said (o ∷ s) ((o - 128) ∷ []) s
unfolding cause_octets all_between
last-said o s h k =
    let e : o - 128 + 128 ≡ o = omega arith in
    record { some-part = suc-le-suc zero-le; seven = rw (le-leb 0 (o - 128) zero-le, le-leb (o - 128) 127 (omega arith)); back = ap (λ i. i ∷ s) e }

same-said : (s l d m e : List ℕ) → ◌≡◌ {A = Option (List ℕ × List ℕ)} (some (m, e)) (some (l, d)) → Said s m e → Said s l d
same-said s l d m e q i =
    let p : ◌≡◌ {A = List ℕ × List ℕ} (m, e) (l, d) = cc in
    let a : m ≡ l = ap (λ (t : List ℕ × List ℕ). t.0) p in
    let b : e ≡ d = ap (λ (t : List ℕ × List ℕ). t.1) p in
    rw (← a, ← b) i

-- one octet before a cause
more-said : (o : ℕ) (s l d : List ℕ) (r : Option (List ℕ × List ℕ)) → o < 128 → ((m e : List ℕ) → r ≡ some (m, e) → Said s m e) → led o r ≡ some (l, d) → Said (o ∷ s) l d
more-said o s l d none h i q = let z : ◌≡◌ {A = ℕ} 0 1 = cc in absurd (omega arith)
more-said o s l d (some (m, e)) h i q = same-said (o ∷ s) l d (o ∷ m) e q (led-said o s m e h (i m e refl))

form-parse : (s l d : List ℕ) → Spells 256 0 s → parse s ≡ some (l, d) → Said s l d
unfolding parse
form-parse [] l d o q = let z : ◌≡◌ {A = ℕ} 0 1 = cc in absurd (omega arith)
form-parse (x ∷ s) l d o q =
    ⊎_elim (λ m. same-said (x ∷ s) l d ((x - 128) ∷ []) s (sym m.last ∙ q) (last-said x s m.high (o 0 (suc-le-suc zero-le)).1))
    (λ p. more-said x s l d (parse s) p.low (λ m e w. form-parse s m e (λ i h. o (suc i) (suc-le-suc h)) w) (sym p.more ∙ q))
    (marked_or_plain x s)

-- ## Lists and the places of arrays

zeros : (l : List ℕ) → all_between 0 0 l ≡ true → l ≡ replicate (length l) 0
zeros [] e = refl
zeros (x ∷ l) e =
    let z : x ≡ 0 = omega (arith, within-each 0 0 (x ∷ l) e 0 (suc-le-suc zero-le)) in
    rw z (ap (λ t. 0 ∷ t) (zeros l (within-tail 0 0 x l e)))

zeros_within : (n : ℕ) → all_between 0 0 (replicate n 0) ≡ true
unfolding all_between
zeros_within zero = refl
zeros_within (suc n) = zeros_within n

-- an array whose other places are zero keeps its first n
places-take : (n : ℕ) (l : List ℕ) → length l ≡ 255 → n ≤ 255 → all_between 0 0 (drop n l) ≡ true → in_places (take n l) ≡ l
places-take n l h k w =
    let t : length (take n l) ≡ n = length-take-le n l (omega arith) in
    let d : length (drop n l) ≡ 255 - n = length-drop n l ∙ ap (λ i. i - n) h in
    let z : drop n l ≡ replicate (255 - n) 0 = zeros (drop n l) w ∙ ap (λ i. replicate i 0) d in
    rw (t, ← z) (take-append-drop n l)

-- ## Both ways

-- what the writer accepts
accepted : (c : Cause) (n : ℕ) → write_number c n ≡ 0 → promises.WritableCause c n
unfolding write_number right
accepted c n e =
    let a = passed (λ k. k) (both (leb 1 c.count) (leb (c.count + c.size) 255)) (pick (right c) (pick (eqb n (c.count + c.size)) 0 11) 12) 13 (omega arith) e in
    let b = both_true (leb 1 c.count) (leb (c.count + c.size) 255) a.0 in
    let r = passed (λ k. k) (right c) (pick (eqb n (c.count + c.size)) 0 11) 12 (omega arith) a.1 in
    let u = both_true (all_between 0 127 (parts_of c)) (both (all_between 0 0 (drop c.count c.septets)) (all_between 0 0 (drop c.size c.diagnostics))) r.0 in
    let v = both_true (all_between 0 0 (drop c.count c.septets)) (all_between 0 0 (drop c.size c.diagnostics)) u.1 in
    let w = passed (λ k. k) (eqb n (c.count + c.size)) 0 11 (omega arith) r.1 in
    record {
      one = leb-true 1 c.count b.0;
      room = leb-true (c.count + c.size) 255 b.1;
      parts = u.0;
      unused = v.0;
      unsized = v.1;
      exact = eqb-true n (c.count + c.size) w.0;
    }

-- and what it may be given it accepts
taken : (c : Cause) (n : ℕ) → promises.WritableCause c n → write_number c n ≡ 0
unfolding write_number right
taken c n a =
    rw (le-leb 1 c.count a.one, le-leb (c.count + c.size) 255 a.room, a.parts, a.unused, a.unsized, eq-eqb n (c.count + c.size) a.exact)

pub a_cause_is_read_back : promises.ACauseIsReadBack
unfolding read_of write_to
a_cause_is_read_back c buf p q = (
  accepted c (length buf),
  λ a.
      let e : write_number c (length buf) ≡ 0 = taken c (length buf) a in
      let l : List ℕ = parts_of c in
      let d : List ℕ = diagnostics_of c in
      let n : length l ≡ c.count = length-take-le c.count c.septets (omega (arith, a.room)) in
      let m : length d ≡ c.size = length-take-le c.size c.diagnostics (omega (arith, a.room)) in
      let f : length (cause_octets l d) ≤ 255 = omega (arith, length-form l d, a.room) in
      let s : in_places l ≡ c.septets = places-take c.count c.septets p (omega (arith, a.room)) a.unused in
      let t : in_places d ≡ c.diagnostics = places-take c.size c.diagnostics q (omega (arith, a.room)) a.unsized in
      (e, rw (e, le-leb (length (cause_octets l d)) 255 f, parse-form l d (omega (arith, a.one)) a.parts, s, t, n, m)),
)

-- the places give back what was kept there
kept-parts : (l d : List ℕ) → parts_of (cause_of l d) ≡ l
kept-parts l d = take-append_seam l (replicate (255 - length l) 0)

kept-diagnostics : (l d : List ℕ) → diagnostics_of (cause_of l d) ≡ d
kept-diagnostics l d = take-append_seam d (replicate (255 - length d) 0)

kept-right : (l d : List ℕ) → all_between 0 127 l ≡ true → right (cause_of l d) ≡ true
unfolding right
kept-right l d w =
    rw (kept-parts l d, w, drop-append_seam l (replicate (255 - length l) 0), drop-append_seam d (replicate (255 - length d) 0), zeros_within (255 - length l))
    (zeros_within (255 - length d))

-- what was read from octets is written as they are
writes : (s buf l d : List ℕ) → length s ≤ 255 → length buf ≡ length s → Said s l d → (write_number (cause_of l d) (length buf) ≡ 0) × (write_to (cause_of l d) buf ≡ s)
unfolding write_number write_to
writes s buf l d h k i =
    let n : length l + length d ≡ length s = sym (length-form l d) ∙ ap length i.back in
    let w : write_number (cause_of l d) (length buf) ≡ 0 =
    rw (le-leb 1 (length l) i.some-part, le-leb (length l + length d) 255 (omega arith), kept-right l d i.seven, eq-eqb (length buf) (length l + length d) (omega arith)) in
    (w, rw (w, kept-parts l d, kept-diagnostics l d) i.back)

-- what is told closes
told_closes : (s : List ℕ) → (told (parse s)).refusal ≡ 0 → promises.ClosingOctet s
told_closes s e = go (leb (length s) (closing s)) refl
  where
    go : (b : Bool) → leb (length s) (closing s) ≡ b → promises.ClosingOctet s
    go true q = absurd (omega (arith, ap (λ (r : Option (List ℕ × List ℕ)). (told r).refusal) (parse-never s (leb-true (length s) (closing s) q))))
    go false q =
        let h : closing s < length s = leb-false (length s) (closing s) q in
        record { place = closing s; there = h; high = (parse-at (closing s) s refl h).0 }

-- a cause closes no later than where an octet does
closing-before : (s : List ℕ) (k : ℕ) → k < length s → 128 ≤ get_or s k 0 → closing s ≤ k
closing-before [] k h l = absurd (omega arith)
closing-before (o ∷ s) zero h l = ⊎_elim (λ m. omega (arith, m.here)) (λ p. absurd (omega (arith, p.low))) (marked_or_plain o s)
closing-before (o ∷ s) (suc k) h l =
    ⊎_elim (λ m. omega (arith, m.here)) (λ p. omega (arith, p.later, closing-before s k (omega arith) l)) (marked_or_plain o s)

-- and one that closes is told
closes_told : (s : List ℕ) → promises.ClosingOctet s → (told (parse s)).refusal ≡ 0
closes_told s c =
    let b : closing s ≤ c.place = closing-before s c.place c.there c.high in
    rw (parse-at (closing s) s refl (omega (arith, c.there))).1

pub a_cause_is_written_back : promises.ACauseIsWrittenBack
unfolding read_of
a_cause_is_written_back s o = (
  λ e.
      let a = passed (λ (r : Reading). r.refusal) (leb (length s) 255) (told (parse s)) (refused 13) (omega arith) e in
      (leb-true (length s) 255 a.0, told_closes s a.1),
  λ y.
      let f : (told (parse s)).refusal ≡ 0 = closes_told s y.1 in
      (rw (le-leb (length s) 255 y.0) f, λ buf l. rw (le-leb (length s) 255 y.0) (go buf l (parse s) refl f y.0)),
)
  where
    go : (buf : List ℕ) → length buf ≡ length s → (r : Option (List ℕ × List ℕ)) → parse s ≡ r → (told r).refusal ≡ 0 → length s ≤ 255
        → (write_number (told r).cause (length buf) ≡ 0) × (write_to (told r).cause buf ≡ s)
    go buf l none q f h = absurd (omega arith)
    go buf l (some (m, d)) q f h = writes s buf m d h l (form-parse s m d o q)

-- ## The meaning

-- the array's first place is the first septet
first-place : (l : List ℕ) → get_or (in_places l) 0 0 ≡ get_or l 0 0
first-place [] = refl
first-place (n ∷ l) = refl

said-told : (l d : List ℕ) → promises.ToldMeaning (said l d)
unfolding meaning_of
said-told l d =
    record {
      nothing = λ g. absurd (g refl);
      specific = λ e n h. rw (first-place l, eq-eqb (length l) 1 n, rw (first-place l) at h);
      unspecific = λ e h. go (eqb (length l) 1) refl (λ n. rw (first-place l) at (h n));
    }
  where
    go : (b : Bool) → eqb (length l) 1 ≡ b → (length l ≡ 1 → is_listed (get_or l 0 0) ≡ false) → meaning_numbers (single (length l) (get_or l 0 0)) ≡ 2 ∷ 0 ∷ []
    go true q h = rw (q, h (eqb-true (length l) 1 q))
    go false q h = rw q

refused-told : promises.ToldMeaning (refused 13)
refused-told = record { nothing = λ g. refl; specific = λ e n h. absurd (omega arith); unspecific = λ e h. absurd (omega arith) }

pub the_meaning_is_told : promises.TheMeaningIsTold
unfolding read_of
the_meaning_is_told s = go (leb (length s) 255) (parse s)
  where
    go : (b : Bool) (r : Option (List ℕ × List ℕ)) → promises.ToldMeaning (pick b (told r) (refused 13))
    go true none = refused-told
    go true (some (l, d)) = said-told l d
    go false r = refused-told
