-- Arrays of zeros that readers fill: what stays zero, a list's entries as they come, and what is passed on. Assumes nothing.
use mathlib.Core.Path.{◌≡◌, refl, ap, ap₂, sym, ◌∙◌}
use mathlib.Core.List.{List, [], ◌∷◌, ◌++◌, map}
use mathlib.Core.Bool.{true, false}
use mathlib.Core.Option.{Option, none, some}
use Prim.Native.Nat.{ℕ, zero, suc, ◌+◌, ◌*◌, ◌≤◌, ◌<◌}
use native.Mathlib.Omega.{arith}
use lib.ListN.{length, set, replicate, replicate-append-replicate}
use lib.Seq.{sets, set-get_or, get_or-set_other}
use Rattle.bits.specs.Field.{fetched}
use Rattle.bits.specs.declared.Got.TheVariants.{Bits, Short}
use Rattle.csn1.specs.declared.Refusal.{Refusal}
use Rattle.csn1.specs.declared.Lead.{Lead}
use Rattle.csn1.specs.Format.{Res, ok, bad, ◌then◌, ran_out, no_refusal, Format, opt, list, release}
use Rattle.csn1.specs.Told.{padded, lead_at, lead_of}
use Rattle.csn1.proofs.Reading.{opt-short, opt_none}
use Rattle.csn1.proofs.Lists.{Entries, padded-none, length-padded, entries_begin, entries_none, entries-end, entries-kept, kept-acc, entries-counted, counted-acc}
use Rattle.csn1.proofs.Callees.{release-refused, release-absent, release-there}
use Rattle.csn1.proofs.Answers.{entries-told, opt-bad, opt-ok}
use Rattle.arrays.specs.Runs.{stored, each}
use Rattle.arrays.specs.Inner.{Zeros, Filled, Left, list_run}
use Rattle.arrays.proofs.Running.{length-stored, stored-led, each_set}
use Rattle.arrays.proofs.Filling.{sets_zeros}

-- ## Zeros

pub zeros-later : (l : List ℕ) (a b : ℕ) → a ≤ b → Zeros l a → Zeros l b
zeros-later l a b h z k m = z k (omega arith)

-- a place before them is written
pub zeros-set : (l : List ℕ) (a i v : ℕ) → i < a → Zeros l a → Zeros (set l i v) a
zeros-set l a i v h z k m = get_or-set_other l i k v 0 (λ e. omega arith) ∙ z k m

-- the first of them are
zeros-stored : (l : List ℕ) (at : ℕ) (vs : List ℕ) → Zeros l at → Zeros (stored l at vs) (at + length vs)
unfolding stored
zeros-stored l at [] z k m = z k (omega arith)
zeros-stored l at (v ∷ vs) z k m = zeros-stored (set l at v) (suc at) vs (zeros-set l (suc at) at v (omega arith) (zeros-later l at (suc at) (omega arith) z)) k (omega arith)

-- behind a run of n numbers
pub zeros-behind : (l l' : List ℕ) (at n : ℕ) (vs : List ℕ) → Zeros l at → l' ≡ stored l at vs → length vs ≡ n → Zeros l' (at + n)
zeros-behind l l' at n vs z e m = rw (e, ← m) (zeros-stored l at vs z)

-- zeros over zeros
pub zeros-run : (l : List ℕ) (at n : ℕ) → Zeros l at → stored l at (replicate n 0) ≡ l
unfolding stored
zeros-run l at zero z = refl
zeros-run l at (suc n) z =
    let e : set l at 0 ≡ l = ap (set l at) (sym (z at (omega arith))) ∙ set-get_or l at 0 in
    ap (λ (x : List ℕ). sets x (suc at) (replicate n 0)) e ∙ zeros-run l (suc at) n (zeros-later l at (suc at) (omega arith) z)

zeros-none : (n : ℕ) (l : List ℕ) (at : ℕ) (vs : List ℕ) → vs ≡ replicate n 0 → Zeros l at → l ≡ stored l at vs
zeros-none n l at vs e z = sym (ap (stored l at) e ∙ zeros-run l at n z)

-- a cleared array, and a run over it
pub zeros-cleared : (n : ℕ) → Zeros (padded 0 n []) 0
zeros-cleared zero k m = refl
zeros-cleared (suc n) zero m = refl
zeros-cleared (suc n) (suc k) m = zeros-cleared n k (omega arith)

pub over_zeros : (n : ℕ) (vs : List ℕ) → stored (padded 0 n []) 0 vs ≡ padded 0 n vs
unfolding stored
over_zeros n vs = ap (λ (x : List ℕ). sets x 0 vs) (padded-none 0 n) ∙ sets_zeros n vs

-- ## What the reader of a part passes on

module _ {A P : Type 0} (passed : Res A → P) (run : A → List ℕ) (at : ℕ) (x : Res A) (before after : List ℕ) where
  -- a refusal asks nothing of the array
  pub left-bad : (w v : Refusal) (r : P) → r ≡ passed (bad w) → w ≡ v → x ≡ bad v → Left passed run at x r before after
  left-bad w v r p t e = rw e (p ∙ ap (λ (y : Refusal). passed (bad y)) t, tt)

  pub left-ok : (v : A) (q : ℕ) (r : P) → r ≡ passed (ok v q) → x ≡ ok v q → after ≡ stored before at (run v) → Left passed run at x r before after
  left-ok v q r p e f = rw e (p, f)

  -- what then stands there
  pub left-stored : (v : A) (q : ℕ) → x ≡ ok v q → Filled run at x before after → after ≡ stored before at (run v)
  left-stored v q e f = rw e at f

-- ## Entries of w numbers each

module _ {B : Type 0} (f : B → List ℕ) (w : ℕ) (fixed : (b : B) → length (f b) ≡ w) where
  -- entries of zeros alone
  each-zeros : (z : B) → f z ≡ replicate w 0 → (n : ℕ) → each f (replicate n z) ≡ replicate (n * w) 0
  unfolding each
  each-zeros z e zero =
      let k : 0 ≡ 0 * w = omega arith in
      ap (λ (j : ℕ). replicate j 0) k
  each-zeros z e (suc n) =
      let k : suc n * w ≡ w + n * w = omega arith in
      rw (e, each-zeros z e n, k) (replicate-append-replicate w (n * w) 0)

  -- none yet: such entries over zeros
  each_begin : (z : B) → f z ≡ replicate w 0 → (n : ℕ) (l : List ℕ) (at : ℕ) → Zeros l at → l ≡ stored l at (each f (replicate n z))
  each_begin z e n l at zs = zeros-none (n * w) l at (each f (replicate n z)) (each-zeros z e n) zs

  -- at the head of a loop over a list's entries: the first n of those that were read stand as numbers from a place on
  pub record Kept {A : Type 0} (F : Format A) (told : A → B) (z : B) (n : ℕ) (s : List ℕ) (start : ℕ) (old : List ℕ) (place : ℕ) (numbers : List ℕ) (count at : ℕ) : Type 0 where
    pub items : List B
    pub entries : Entries F told z n s start items count at
    pub same : numbers ≡ stored old place (each f items)

  pub kept_begin : {A : Type 0} (F : Format A) (told : A → B) (z : B) (n : ℕ) (s : List ℕ) (start : ℕ) (old : List ℕ) (place : ℕ) → f z ≡ replicate w 0 → Zeros old place
      → Kept F told z n s start old place old 0 start
  kept_begin F told z n s start old place e zs =
      record { items = replicate n z; entries = entries_begin F told z n s start (replicate n z) refl; same = each_begin z e n old place zs }

  -- none were read
  pub begin_acc : {A : Type 0} (F : Format A) (told : A → B) (z : B) (n : ℕ) (s : List ℕ) (start : ℕ) (old : List ℕ) (place : ℕ) (e : f z ≡ replicate w 0) (zs : Zeros old place)
      → (kept_begin F told z n s start old place e zs).entries.acc ≡ []
  unfolding kept_begin
  begin_acc F told z n s start old place e zs = entries_none F told z n s start (replicate n z) refl

-- ## The loop over a list's entries

module _ {A B : Type 0} {f : B → List ℕ} {w : ℕ} {fixed : (b : B) → length (f b) ≡ w} {F : Format A} {told : A → B} {z : B} {n : ℕ} {s : List ℕ} {start : ℕ}
    {old : List ℕ} {place : ℕ} {numbers : List ℕ} {count at : ℕ} (i : Kept f w fixed F told z n s start old place numbers count at) where
  -- the array keeps its length
  pub kept-long : length numbers ≡ length old
  kept-long = ap length i.same ∙ length-stored old place (each f i.items)

  -- an entry in its place
  kept_set : (b : B) (new : List ℕ) → count < n → new ≡ stored numbers (place + w * count) (f b) → new ≡ stored old place (each f (set i.items count b))
  kept_set b new h m =
      let size : length i.items ≡ n = ap length i.entries.kept ∙ length-padded z n (map told i.entries.acc) in
      m ∙ ap (λ (t : List ℕ). stored t (place + w * count) (f b)) i.same ∙ each_set f w fixed old place i.items count b (omega arith)

  -- an entry that has a place, and one that has none
  pub kept-one : (v : ℕ) (a : A) (q : ℕ) (b : B) (new : List ℕ) → Bits v ≡ fetched s at 1 → (v ≡ 0 → ⊥) → F.read s (at + 1) ≡ ok a q → at + 1 ≤ q
      → count < n → b ≡ told a → new ≡ stored numbers (place + w * count) (f b) → Kept f w fixed F told z n s start old place new (count + 1) q
  kept-one v a q b new e y x l h g m =
      record {
        items = set i.items count b;
        entries = entries-kept F told z n s start i.items count at i.entries v a q b e y x l h g;
        same = kept_set b new h m;
      }

  pub kept_more : (v : ℕ) (a : A) (q : ℕ) → Bits v ≡ fetched s at 1 → (v ≡ 0 → ⊥) → F.read s (at + 1) ≡ ok a q → at + 1 ≤ q
      → n ≤ count → Kept f w fixed F told z n s start old place numbers (count + 1) q
  kept_more v a q e y x l h =
      record { items = i.items; entries = entries-counted F told z n s start i.items count at i.entries v a q e y x l h; same = i.same }

  -- and what was read then
  pub one-acc : (v : ℕ) (a : A) (q : ℕ) (b : B) (new : List ℕ) (e : Bits v ≡ fetched s at 1) (y : v ≡ 0 → ⊥) (x : F.read s (at + 1) ≡ ok a q) (l : at + 1 ≤ q) (h : count < n)
      (g : b ≡ told a) (m : new ≡ stored numbers (place + w * count) (f b)) → (kept-one v a q b new e y x l h g m).entries.acc ≡ i.entries.acc ++ (a ∷ [])
  unfolding kept-one
  one-acc v a q b new e y x l h g m = kept-acc F told z n s start i.items count at i.entries v a q b e y x l h g

  pub more_acc : (v : ℕ) (a : A) (q : ℕ) (e : Bits v ≡ fetched s at 1) (y : v ≡ 0 → ⊥) (x : F.read s (at + 1) ≡ ok a q) (l : at + 1 ≤ q) (h : n ≤ count)
      → (kept_more v a q e y x l h).entries.acc ≡ i.entries.acc ++ (a ∷ [])
  unfolding kept_more
  more_acc v a q e y x l h = counted-acc F told z n s start i.items count at i.entries v a q e y x l h

  -- the loop has met the 0 that closes the list: how many there are goes before the entries
  module _ (head : ℕ) (p : place ≡ head + 1) (v : ℕ) (e : Bits v ≡ fetched s at 1) (y : v ≡ 0) where
    pub kept-filled : set numbers head count ≡ stored old head (list_run told z f n i.entries.acc)
    kept-filled =
        ap (λ (t : List ℕ). set t head count) (i.same ∙ ap (λ (j : ℕ). stored old j (each f i.items)) p)
        ∙ stored-led old head count (each f i.items)
        ∙ ap₂ (λ (k : ℕ) (t : List B). stored old head (k ∷ each f t)) (sym i.entries.many) i.entries.kept

    pub kept-left : {P : Type 0} (passed : Res (List A) → P) (made : Refusal → ℕ → ℕ → P) → ((l : List A) (q : ℕ) → made no_refusal (length l) q ≡ passed (ok l q))
        → (r : Refusal) → r ≡ no_refusal
        → Left passed (list_run told z f n) head ((list F).read s start) (made r count (at + 1)) old (set numbers head count)
    kept-left passed made m r g = (
      entries-told passed (λ u k _ q. made u k q) F told z n m s start i.items count at i.entries v e y r g,
      rw (entries-end F told z n s start i.items count at i.entries v e y) kept-filled,
    )

-- ## {0 | 1 <a part>}

module _ {A P : Type 0} (F : Format A) (passed : Res (Option A) → P) (run : Option A → List ℕ) (place : ℕ) (s : List ℕ) (at : ℕ) (l : List ℕ) where
  abbrev LeftPart : P → List ℕ → Type 0
  LeftPart r l' = Left passed run place ((opt F).read s at) r l l'

  refused : (v w : Refusal) → w ≡ v → (r : P) → r ≡ passed (bad w) → (opt F).read s at ≡ bad v → (l' : List ℕ) → LeftPart r l'
  refused v w t r p e l' = left-bad passed run place ((opt F).read s at) l l' w v r p t e

  pub opt-left-short : Short ≡ fetched s at 1 → (w : Refusal) → w ≡ ran_out at → (r : P) → r ≡ passed (bad w) → (l' : List ℕ) → LeftPart r l'
  opt-left-short e w t r p = refused (ran_out at) w t r p (opt-short F s at e)

  -- the flag f was found
  module _ (f : ℕ) (e : Bits f ≡ fetched s at 1) where
    pub opt-left-none : f ≡ 0 → (r : P) → r ≡ passed (ok none (at + 1)) → (n : ℕ) → run none ≡ replicate n 0 → Zeros l place → LeftPart r l
    opt-left-none o r p n y zs = left-ok passed run place ((opt F).read s at) l l none (at + 1) r p (opt_none F s at f e o) (zeros-none n l place (run none) y zs)

    module _ (o : f ≡ 0 → ⊥) where
      pub opt-left-bad : (v : Refusal) → F.read s (at + 1) ≡ bad v → (w : Refusal) → w ≡ v → (r : P) → r ≡ passed (bad w) → (l' : List ℕ) → LeftPart r l'
      opt-left-bad v x w t r p = refused v w t r p (opt-bad F s at f e o v x)

      pub opt-left-some : (a : A) (q : ℕ) → F.read s (at + 1) ≡ ok a q → (r : P) → r ≡ passed (ok (some a) q) → (l' : List ℕ) → l' ≡ stored l place (run (some a)) → LeftPart r l'
      opt-left-some a q x r p l' y = left-ok passed run place ((opt F).read s at) l l' (some a) q r p (opt-ok F s at f e o a q x) y

-- ## { null | L | H <a later release's part> }

-- `read_lead` was called
module _ {A P : Type 0} (F : Format A) (passed : Res (Option A) → P) (run : Option A → List ℕ) (place : ℕ) (s : List ℕ) (at : ℕ) (h : length s ≤ 4096)
    (b : Lead) (e : b ≡ lead_of (lead_at s at)) where
  pub release-left-bad : (b.refusal.number ≡ 0 → ⊥) → (r : P) → r ≡ passed (bad b.refusal) → (before after : List ℕ)
      → Left passed run place ((release F).read s at) r before after
  release-left-bad n r p before after = left-bad passed run place _ before after b.refusal b.refusal r p refl (release-refused F s at h b e n)

  module _ (z : b.refusal.number ≡ 0) where
    pub release-left-none : b.high ≡ false → (r : P) → r ≡ passed (ok none b.at) → (n : ℕ) → run none ≡ replicate n 0 → (l : List ℕ) → Zeros l place
        → Left passed run place ((release F).read s at) r l l
    release-left-none o r p n y l zs = left-ok passed run place _ l l none b.at r p (release-absent F s at h b e z o) (zeros-none n l place (run none) y zs)

    pub release-left-some : b.high ≡ true → (r : P) (l l' : List ℕ) → Left passed run place (F.read s b.at then λ v q. ok (some v) q) r l l'
        → Left passed run place ((release F).read s at) r l l'
    release-left-some o r l l' f = rw (release-there F s at h b e z o) f
