-- Octets of a field whose head is there are gathered at a stroke: how many, and what is kept of them. Assumes nothing.
use Rattle.std.proofs.Common.{◌≡◌, ℕ, zero, suc, ◌+◌, ◌-◌, ◌<◌, ◌≤◌, min, Bool, true, false, leb, List, [], ◌∷◌, ◌++◌, length, take, drop, set, sym, refl, ap, ◌∙◌, add-zero, arith}
use Rattle.std.proofs.Common.{length-take-le, take-append-drop, take_all, get_or-set_other, le-leb, leb-false, leb-true}
use borrow.Author.Tests.{lt-leb}
use borrow.Rule.Slice.PartMut.{put_mid}
use lib.Seq.{set_out, sets-eq, take-length}
use Rattle.std.proofs.lemmas.Slice.{put_mid-paste}
use Rattle.arrays.specs.Runs.{stored}
use Rattle.arrays.proofs.Running.{stored-then, length-stored}
use Rattle.receiver.proofs.Cases.{by-test}
use Rattle.capture.specs.Capture.{head_length, length_in}
use Rattle.capture.specs.Machine.{is_last}
use Rattle.capture.specs.Inner.{Gathering, further, gathering}

-- ## What has no room is not kept

stored-out : (l : List ℕ) (at : ℕ) (vs : List ℕ) → length l ≤ at → stored l at vs ≡ l
unfolding stored
stored-out l at [] h = refl
stored-out l at (v ∷ vs) h = rw (set_out l at v h) (stored-out l (suc at) vs (omega arith))

pub none-copied : (l : List ℕ) (at : ℕ) (vs : List ℕ) → length l ≤ at → l ≡ stored l at vs
none-copied l at vs h = sym (stored-out l at vs h)

-- of octets the first n, where the others have no room
copied : (l : List ℕ) (at : ℕ) (s : List ℕ) (n : ℕ) → at ≤ length l → n ≡ min (length s) (length l - at) → stored l at (take n s) ≡ stored l at s
copied l at s n h e =
    by-test (leb (length s) (length l - at))
    (λ p. let q = leb-true (length s) (length l - at) p in rw (take_all n s (omega arith)))
    (λ p.
    let q = leb-false (length s) (length l - at) p in
    let w : length (take n s) ≡ n = length-take-le n s (omega arith) in
    let t : take n s ++ drop n s ≡ s = take-append-drop n s in
    sym (ap (stored l at) (sym t) ∙ sym (stored-then l at (take n s) (drop n s))
    ∙ stored-out (stored l at (take n s)) (at + length (take n s)) (drop n s) (rw length-stored (omega arith))))

-- a part that was written is a run of stores
pub part-copied : (l : List ℕ) (at : ℕ) (s : List ℕ) (n k : ℕ) (t : List ℕ) → at ≤ length l → k ≡ n → n ≡ min (length s) (length l - at) → t ≡ take n s → put_mid at k l t ≡ stored l at s
unfolding stored
part-copied l at s n k t h e m q =
    let vs : List ℕ = take n s in
    let w : length vs ≡ n = length-take-le n s (omega arith) in
    let f : length vs ≡ k = w ∙ sym e in
    put_mid-paste at k l t vs (length vs) q f refl
    ∙ ap (λ (x : List ℕ). take at l ++ x ++ drop (at + length vs) l) (take-length vs)
    ∙ sym (sets-eq vs l at (omega arith))
    ∙ copied l at s n h m

-- ## Octets behind the head

module _ (kept : List ℕ) (got o : ℕ) (headed : head_length ≤ got) where
  same_length : length_in (set kept got o) ≡ length_in kept
  same_length = rw (get_or-set_other kept got 1 o 0 (λ e. omega arith), get_or-set_other kept got 2 o 0 (λ e. omega arith))

  is-last : 2 + length_in kept ≤ got → is_last (set kept got o) got ≡ true
  is-last h = rw (le-leb head_length (suc got) (omega arith), same_length) (le-leb (head_length + length_in kept) (suc got) (omega arith))

  is_not : got < 2 + length_in kept → is_last (set kept got o) got ≡ false
  is_not h = rw (le-leb head_length (suc got) (omega arith), same_length) (lt-leb (head_length + length_in kept) (suc got) (omega arith))

made : List ℕ → ℕ → Bool → ℕ → Gathering
made kept taken w have = record { kept = kept; taken = taken; whole = w; have = have }

goes_on : (kept : List ℕ) (got o : ℕ) (s : List ℕ) → is_last (set kept got o) got ≡ false → gathering kept got (o ∷ s) ≡ further 1 (gathering (set kept got o) (suc got) s)
unfolding gathering
goes_on kept got o s e = rw e

-- how many octets are left, the last one among them
abbrev pub left_to : List ℕ → ℕ → ℕ
left_to kept got = suc (2 + length_in kept - got)

pub rest_part : (s kept : List ℕ) (got : ℕ) → head_length ≤ got → length s < left_to kept got
    → record { kept = stored kept got s; taken = length s; whole = false; have = got + length s } ≡ gathering kept got s
unfolding gathering stored made
rest_part [] kept got h l = rw (add-zero got)
rest_part (o ∷ s) kept got h l =
    let e = same_length kept got o h in
    let i = rest_part s (set kept got o) (suc got) (omega arith) (rw e (omega arith)) in
    let z : suc (length s) ≡ 1 + length s = omega arith in
    let y : got + suc (length s) ≡ suc got + length s = omega arith in
    ap (λ (n : ℕ). made (stored (set kept got o) (suc got) s) n false (got + suc (length s))) z
    ∙ ap (λ (n : ℕ). made (stored (set kept got o) (suc got) s) (1 + length s) false n) y
    ∙ ap (further 1) i ∙ sym (goes_on kept got o s (is_not kept got o h (omega arith)))

pub rest-whole : (s kept : List ℕ) (got m : ℕ) → head_length ≤ got → suc m ≡ left_to kept got → suc m ≤ length s
    → record { kept = stored kept got (take (suc m) s); taken = suc m; whole = true; have = got + m } ≡ gathering kept got s
unfolding gathering stored made
rest-whole [] kept got m h e l = absurd (omega arith)
rest-whole (o ∷ s) kept got zero h e l = rw (is-last kept got o h (omega arith), add-zero got)
rest-whole (o ∷ s) kept got (suc m) h e l =
    let q = same_length kept got o h in
    let i = rest-whole s (set kept got o) (suc got) m (omega arith) (rw q (omega arith)) (omega arith) in
    let z : suc (suc m) ≡ 1 + suc m = omega arith in
    let y : got + suc m ≡ suc got + m = omega arith in
    ap (λ (n : ℕ). made (stored (set kept got o) (suc got) (take (suc m) s)) n true (got + suc m)) z
    ∙ ap (λ (n : ℕ). made (stored (set kept got o) (suc got) (take (suc m) s)) (1 + suc m) true n) y
    ∙ ap (further 1) i ∙ sym (goes_on kept got o s (is_not kept got o h (omega arith)))

pub rest_all : (s kept : List ℕ) (got n : ℕ) → head_length ≤ got → n ≡ left_to kept got → n ≤ length s
    → record { kept = stored kept got (take n s); taken = n; whole = true; have = got + (n - 1) } ≡ gathering kept got s
rest_all s kept got n h e l =
    let z : n - 1 ≡ 2 + length_in kept - got = omega arith in
    rw (z, e) (rest-whole s kept got (2 + length_in kept - got) h refl (rw e at l))
