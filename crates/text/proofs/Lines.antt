-- What is added to a line, where it fits and where not. Assumes nothing.
use Rattle.std.proofs.Common.{Bool, true, false, Option, Some, IsSome, ◌≡◌, List, ℕ, ◌+◌, ◌≤◌, ◌<◌, length, refl, sym, ap, ◌∙◌}
use borrow.Author.Tests.{le-leb, lt-leb}
use borrow.Rule.Slice.PartMut.{put_mid}
use lib.Seq.{paste, take-length}
use Rattle.std.proofs.lemmas.Slice.{put_mid-paste}
use Rattle.text.specs.Lines.{Line, added, full, fits, place_behind}

abbrev pub line : List ℕ → ℕ → Line
line l at = record { octets = l; at = at }

pub added_not : (l s : List ℕ) (at : ℕ) → length l < at + length s → line l full ≡ added s (line l at)
unfolding added
added_not l s at h = rw (lt-leb (at + length s) (length l) h)

-- k octets are copied, which are all
pub added-all : (l s : List ℕ) (at k : ℕ) → at + length s ≤ length l → k ≡ length s → line (paste l at s k) (at + k) ≡ added s (line l at)
unfolding added
added-all l s at k h e = rw (e, le-leb (at + length s) (length l) h, take-length s)

-- a line is its octets and its place
pub parted : {l : List ℕ} {at : ℕ} {x : Line} → line l at ≡ x → (at ≡ x.at) × (l ≡ x.octets)
parted e = (ap (λ (x : Line). x.at) e, ap (λ (x : Line). x.octets) e)

pub joined : {l : List ℕ} {at : ℕ} {x : Line} → (at ≡ x.at) × (l ≡ x.octets) → line l at ≡ x
joined e = rw (e.0, e.1)

-- octets that are left as they were, for want of room
pub octets_kept : (l s : List ℕ) (at : ℕ) → length l < at + length s → l ≡ (added s (line l at)).octets
octets_kept l s at h = ap (λ (x : Line). x.octets) (added_not l s at h)

-- octets of which a part of k was written
pub octets_put : (l s t : List ℕ) (at k : ℕ) → t ≡ s → k ≡ length s → at + length s ≤ length l → put_mid at k l t ≡ (added s (line l at)).octets
octets_put l s t at k same long h =
    let e : length s ≡ k = sym long in
    put_mid-paste at k l t s (length s) same e refl ∙ ap (λ (x : Line). x.octets) (added-all l s at (length s) h refl)

-- a place that there is, and the octets, are the line with what was added
pub placed_behind : (l s o : List ℕ) (at end : ℕ) → o ≡ (added s (line l at)).octets → place_behind s (line l at) ≡ Some end → line o end ≡ added s (line l at)
unfolding added
placed_behind l s o at end e p = by (fits s (line l at)) refl
  where
    by : (b : Bool) → fits s (line l at) ≡ b → line o end ≡ added s (line l at)
    by true q =
        let w = rw q at p in
        let z : at + length s ≡ end = cc in
        let x = rw q at e in
        rw q (joined (sym z, x))
    by false q = let w = rw q at p in absurd (cc)

-- where there is room there is a place
pub fits_behind : (l s : List ℕ) (at : ℕ) (r : Option ℕ) → at + length s ≤ length l → r ≡ place_behind s (line l at) → IsSome r
fits_behind l s at r h e = rw (e, le-leb (at + length s) (length l) h) refl
